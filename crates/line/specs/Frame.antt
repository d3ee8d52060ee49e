-- 'One frame a line': what a line of bytes says, and the words of a write.
use Rattle.std.specs.Prelude.{cond, List, ℕ, ◌+◌, ◌*◌, ◌-◌, ◌/◌, leb, eqb, length, None, Option, Some}
use Rattle.digits.specs.Digits.{all_digits, byte_at, word_at, words_from}
use Rattle.line.specs.declared.Frame.{Frame}
use Rattle.line.specs.declared.Frame.TheVariants.{Write, Read, Ticks, Event}

-- ---- the four frames; 'other fields have 4 digits'

-- how many words a write of this length has, after its name and its start
abbrev pub words_in : List ℕ → ℕ
words_in s = (length s - 6) / 4

-- '01, start, 0 to 64 words'
unfoldable pub write_frame : List ℕ → Option Frame
write_frame s = cond (eqb (length s) (6 + 4 * words_in s)) (cond (leb (words_in s) 64) (Some (Write (word_at s 2) (words_in s))) None) None

-- the first n words of a write
abbrev pub words_of : ℕ → List ℕ → List ℕ
words_of n s = words_from 6 n s

-- '02, start, count up to 64'
unfoldable pub read_frame : List ℕ → Option Frame
read_frame s = cond (eqb (length s) 10) (cond (leb (word_at s 6) 64) (Some (Read (word_at s 2) (word_at s 6))) None) None

-- '03, N'
unfoldable pub ticks_frame : List ℕ → Option Frame
ticks_frame s = cond (eqb (length s) 6) (Some (Ticks (word_at s 2))) None

-- '04, event (2 digits)'
unfoldable pub event_frame : List ℕ → Option Frame
event_frame s = cond (eqb (length s) 4) (Some (Event (byte_at s 2))) None

-- 'the first byte names the frame'
abbrev pub named : ℕ → List ℕ → Option Frame
named b s = cond (eqb b 1) (write_frame s) (cond (eqb b 2) (read_frame s) (cond (eqb b 3) (ticks_frame s) (cond (eqb b 4) (event_frame s) None)))

-- the frame of a line; 'any other line, an empty one included', is bad
unfoldable pub frame_of : List ℕ → Option Frame
frame_of s = cond (all_digits s) (named (byte_at s 0) s) None
