-- The whole session; the same byte by byte; and chunk by chunk, as the program takes its input. The wave tables w, which no line changes, stand
-- beside it.
use Rattle.std.specs.Prelude.{◌≡◌, cond, List, [], ◌∷◌, ◌++◌, ℕ, zero, suc, ◌+◌, ◌≤◌, min, eqb, ltb, leb, length, take, drop, set}
use Rattle.std.proofs.lemmas.List.Edits.{sets}
use Rattle.sum.specs.declared.Edition.TheVariants.{First}
use Rattle.card.specs.declared.Card.{Card}
use Rattle.card.specs.Card.{State, state}
use Rattle.card.specs.Reset.{waves_reset, fresh_of}
use Rattle.line.specs.declared.Answered.{Answered}
use Rattle.line.specs.declared.Stream.{Stream}
use Rattle.line.specs.Answer.{step_of}

-- ---- the session

-- 'lines end with LF; the last may lack it': the lines of s, after the bytes p of a line that has begun
unfoldable pub lines_from : List ℕ → List ℕ → List (List ℕ)
lines_from [] [] = []
lines_from (a ∷ p) [] = (a ∷ p) ∷ []
lines_from p (b ∷ s) = cond (eqb b 10) (p ∷ lines_from [] s) (lines_from (p ++ b ∷ []) s)

-- a final LF opens no further line, and no input has no line
abbrev pub lines_of : List ℕ → List (List ℕ)
lines_of input = lines_from [] input

-- the lines in order, on one card: 'each answer ends with LF'
unfoldable pub answers_of : List ℕ → State → List (List ℕ) → List ℕ
answers_of w st [] = []
answers_of w st (l ∷ ls) = ((step_of w st l).text ++ 10 ∷ []) ++ answers_of w (step_of w st l).state ls

-- and the state that they leave
unfoldable pub played_of : List ℕ → State → List (List ℕ) → State
played_of w st [] = st
played_of w st (l ∷ ls) = played_of w (step_of w st l).state ls

-- 'from standard input on a reset card', whatever the lent words were before; 'the line program's card is edition 1' (document 02, Six)
unfoldable pub session : List ℕ → List ℕ → List ℕ → List ℕ → List ℕ
session settings tables waves input = answers_of (waves_reset waves) (fresh_of First settings tables) (lines_of input)

-- ---- byte by byte

-- the card's state, the open line's buffer and how many bytes of it are held, and the answers given
pub record Flow : Type 0 where
  pub state : State
  pub line : List ℕ
  pub held : ℕ
  pub text : List ℕ

abbrev pub flow : State → List ℕ → ℕ → List ℕ → Flow
flow st l h x = record { state = st; line = l; held = h; text = x }

-- the same with no answers given yet
abbrev pub bare : Flow → Flow
bare t = flow t.state t.line t.held []

-- the same with the answers x before its own
abbrev pub after : List ℕ → Flow → Flow
after x t = flow t.state t.line t.held (x ++ t.text)

-- 263 bytes decide a line, being one more than the longest frame has
abbrev pub most : ℕ
most = 263

-- the most bytes that an answer has, LF included: 82, number, processed, 64 words
abbrev pub longest : ℕ
longest = 265

-- what a call finds open: more bytes held than 263 count as 263
abbrev pub opened : Card → List ℕ → List ℕ → List ℕ → ℕ → Flow
opened k s l line held = flow (state k s l) line (min held most) []

-- the same of what it is lent
abbrev pub found : Card → List ℕ → List ℕ → List ℕ → ℕ → Flow
found k settings tables line held = opened k settings tables line held

-- a line ends: it is answered
unfoldable pub ended : List ℕ → Flow → Flow
ended w t =
    flow (step_of w t.state (take t.held t.line)).state
    t.line
    0
    (t.text ++ ((step_of w t.state (take t.held t.line)).text ++ 10 ∷ []))

-- a line goes on: the byte is kept, up to 263 of them
unfoldable pub kept : Flow → ℕ → Flow
kept t b = cond (ltb t.held most) (flow t.state (set t.line t.held b) (t.held + 1) t.text) t

-- one byte: LF ends the line
unfoldable pub byte_of : List ℕ → Flow → ℕ → Flow
byte_of w t b = cond (eqb b 10) (ended w t) (kept t b)

-- bytes one after the other
unfoldable pub feed_of : List ℕ → Flow → List ℕ → Flow
feed_of w t [] = t
feed_of w t (b ∷ s) = feed_of w (byte_of w t b) s

-- how many bytes are taken: one after the other as long as there is room for one more answer
unfoldable pub taken_of : List ℕ → ℕ → Flow → List ℕ → ℕ
taken_of w room t [] = 0
taken_of w room t (b ∷ s) = cond (leb (length t.text + longest) room) (suc (taken_of w room (byte_of w t b) s)) 0

-- the input ends: a line that has begun is answered, if there is room for it
unfoldable pub finish_of : List ℕ → ℕ → Flow → Flow
finish_of w room t = cond (eqb t.held 0) t (cond (leb longest room) (ended w t) t)

-- ---- what the functions that take bytes show

-- the flow after it, with its answers in the buffer from `at` on
pub record Feeds (d : Flow) (at : ℕ) (before after settings tables line : List ℕ) (card : Card) (held end : ℕ) : Type 0 where
  pub same : state card settings tables ≡ d.state
  pub lined : line ≡ d.line
  pub holds : held ≡ d.held
  pub at_most : held ≤ most
  pub buffer : after ≡ sets before at d.text
  pub ends : end ≡ at + length d.text

-- what a call hands back
abbrev pub stream_of : Card → ℕ → ℕ → ℕ → Stream
stream_of k held end taken = record { card = k; held = held; end = end; taken = taken }

-- a chunk: what is taken of it is fed, and its answers stand at the front of the buffer
pub record Fed (w : List ℕ) (t : Flow) (chunk before after settings tables line : List ℕ) (r : Stream) : Type 0 where
  pub took : r.taken ≡ taken_of w (length before) t chunk
  pub feeds : Feeds (feed_of w t (take r.taken chunk)) 0 before after settings tables line r.card r.held r.end
  pub fits : r.end ≤ length before

-- the end of the input
pub record Finished (w : List ℕ) (t : Flow) (before after settings tables line : List ℕ) (r : Stream) : Type 0 where
  pub took : r.taken ≡ 0
  pub feeds : Feeds (finish_of w (length before) t) 0 before after settings tables line r.card r.held r.end
  pub fits : r.end ≤ length before

-- the same of a call: the buffer as it is lent and left, and the memory left
abbrev pub Takes : List ℕ → Flow → List ℕ → List ℕ → List ℕ → List ℕ → List ℕ → List ℕ → Stream → Type 0
Takes w t chunk out out' settings tables line r = Fed w t chunk out out' settings tables line r

abbrev pub Finishes : List ℕ → Flow → List ℕ → List ℕ → List ℕ → List ℕ → List ℕ → Stream → Type 0
Finishes w t out out' settings tables line r = Finished w t out out' settings tables line r

-- a line that ends at a call
abbrev pub Ends : List ℕ → Flow → ℕ → List ℕ → List ℕ → List ℕ → List ℕ → List ℕ → Answered → Type 0
Ends w t at out out' settings tables line r = Feeds (ended w t) at out out' settings tables line r.card 0 r.end

-- keeping a byte: the buffer before and after, and how many bytes it holds
pub record Keeps (before : List ℕ) (held b : ℕ) (after : List ℕ) (r : ℕ) : Type 0 where
  pub lined : after ≡ cond (ltb held most) (set before held b) before
  pub holds : r ≡ cond (ltb held most) (held + 1) held
  pub at_most : r ≤ most

-- ---- chunk by chunk, for any way in which the input comes; the text is all that has been written

-- a chunk fed again and again, at most n times: each call writes its answers, and what it did not take is fed again
unfoldable pub serve_of : List ℕ → ℕ → ℕ → Flow → List ℕ → Flow
serve_of w zero room t s = t
serve_of w (suc n) room t s =
    serve_of w n room (after t.text (feed_of w (bare t) (take (taken_of w room (bare t) s) s))) (drop (taken_of w room (bare t) s) s)

-- each chunk as many times as it has bytes, then the end of the input
unfoldable pub written_of : List ℕ → ℕ → Flow → List (List ℕ) → List ℕ
written_of w room t [] = t.text ++ (finish_of w room (bare t)).text
written_of w room t (c ∷ cs) = written_of w room (serve_of w (length c) room t c) cs

-- the whole input
unfoldable pub joined : List (List ℕ) → List ℕ
joined [] = []
joined (c ∷ cs) = c ++ joined cs

-- how many lines a text has whose lines all end with LF
unfoldable pub ends_in : List ℕ → ℕ
ends_in [] = 0
ends_in (b ∷ s) = cond (eqb b 10) (suc (ends_in s)) (ends_in s)
