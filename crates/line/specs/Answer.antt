-- 'Answer line': the answer to a line, and the state after it.
use Rattle.std.specs.Prelude.{◌≡◌, Bool, true, false, not, ◌&&◌, ◌||◌, List, [], ◌∷◌, ◌++◌, ℕ, ◌+◌, ◌≤◌, eqb, length, take, replicate, None, Option, Some}
use Rattle.std.proofs.lemmas.List.Edits.{sets}
use Rattle.digits.specs.Digits.{byte_at, hex2, hex4, hex_all}
use Rattle.card.specs.declared.Card.{Card}
use Rattle.card.specs.Card.{State, state, channel_of}
use Rattle.card.specs.Tick.{tick_with, ticks}
use Rattle.transfer.specs.Transfer.{Out, Filled, number_of, processed_of, write_of, read_of}
use Rattle.line.specs.declared.Frame.{Frame}
use Rattle.line.specs.declared.Frame.TheVariants.{Write, Read, Ticks, Event}
use Rattle.line.specs.declared.Answered.{Answered}
use Rattle.line.specs.Frame.{words_of, frame_of}

-- ---- the answer lines

-- the name, 'number (2 digits), processed'
unfoldable pub head_of : ℕ → ℕ → ℕ → List ℕ
head_of name number processed = hex2 name ++ (hex2 number ++ hex4 processed)

-- 'words read': the first processed words of the slice
abbrev pub read_text : Filled → List ℕ
read_text f = head_of 0x82 (number_of f.answer) (processed_of f.answer) ++ hex_all (take (processed_of f.answer) f.words)

-- 'four outputs', of channels 0 to 3
abbrev pub outputs_of : Card → List ℕ
outputs_of k = (channel_of k 0).signal.output ∷ (channel_of k 1).signal.output ∷ (channel_of k 2).signal.output ∷ (channel_of k 3).signal.output ∷ []

-- the name, and the four outputs
unfoldable pub outputs_text : ℕ → Card → List ℕ
outputs_text name k = hex2 name ++ hex_all (outputs_of k)

-- an answer's text, and the state after it
pub record Step : Type 0 where
  pub state : State
  pub text : List ℕ

abbrev pub step : State → List ℕ → Step
step st x = record { state = st; text = x }

-- 81, number, processed
abbrev pub wrote : Out → Step
wrote o = step o.state (head_of 0x81 (number_of o.answer) (processed_of o.answer))

-- '83, four outputs' and '84, four outputs'
abbrev pub ticked : ℕ → State → Step
ticked name st = step st (outputs_text name st.card)

-- 'write', 'read', 'N ticks, no event', 'one tick', with the wave tables w; any other line 'answers FF', and nothing changes
abbrev pub on_frame : List ℕ → State → List ℕ → Option Frame → Step
on_frame w st s (Some (Write start count)) = wrote (write_of st start count (words_of count s))
on_frame w st s (Some (Read start count)) = step st (read_text (read_of st.settings st.card start count (replicate 64 0)))
on_frame w st s (Some (Ticks n)) = ticked 0x83 (ticks w n st)
on_frame w st s (Some (Event e)) = ticked 0x84 (tick_with w st e)
on_frame w st s None = step st (hex2 0xFF)

-- what a line does
unfoldable pub step_of : List ℕ → State → List ℕ → Step
step_of w st s = on_frame w st s (frame_of s)

-- ---- a line that is not answered 0: it 'answers FF', or with a number; ticks and events have none

abbrev pub refused_frame : State → List ℕ → Option Frame → Bool
refused_frame st s (Some (Write start count)) = not (eqb (number_of (write_of st start count (words_of count s)).answer) 0)
refused_frame st s (Some (Read start count)) = not (eqb (number_of (read_of st.settings st.card start count (replicate 64 0)).answer) 0)
refused_frame st s (Some (Ticks n)) = false
refused_frame st s (Some (Event e)) = false
refused_frame st s None = true

-- as its answer tells it
abbrev pub refused_in : List ℕ → Bool
refused_in x = eqb (byte_at x 0) 0xFF || ((eqb (byte_at x 0) 0x81 || eqb (byte_at x 0) 0x82) && not (eqb (byte_at x 2) 0))

-- ---- what the functions that answer show

-- the text x stands in the buffer from `at` on, and where it ends
pub record Puts (x : List ℕ) (at : ℕ) (before after : List ℕ) (to : ℕ) : Type 0 where
  pub buffer : after ≡ sets before at x
  pub ends : to ≡ at + length x
  pub short : to ≤ at + 264

-- the same, and the state after it
pub record Answers (d : Step) (at : ℕ) (before after settings tables : List ℕ) (r : Answered) : Type 0 where
  pub same : state r.card settings tables ≡ d.state
  pub puts : Puts d.text at before after r.end

-- the same of a call: the buffer as it is lent and left, and the memory left
abbrev pub Gives : Step → ℕ → List ℕ → List ℕ → List ℕ → List ℕ → Answered → Type 0
Gives d at out out' settings tables r = Answers d at out out' settings tables r
