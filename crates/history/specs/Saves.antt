-- Demand 1 of a save. Document 02, Four: '10 exactly if the lent buffer is shorter than the lines need, and then it is unchanged; else bytes
-- past the lines stay'.
use Rattle.std.specs.Prelude.{◌≡◌, List, [], ◌∷◌, ℕ, ltb, length, take, drop}
use Rattle.saved.specs.Saved.{Kept, saved_text, saved_number, bytes_of}
use Rattle.history.specs.Numbers.{case, first}

-- a save of the settings s into the buffer o comes to x
pub record SaveAnswered (s o : List ℕ) (x : Kept) : Type 0 where
  pub number : saved_number x.answer ≡ first (case 10 (ltb (length o) (length (saved_text s))) ∷ [])
  -- refused: nothing changes, and no byte is written
  pub refused : (saved_number x.answer ≡ 0 → ⊥) → (x.buffer ≡ o) × (bytes_of x.answer ≡ 0)
  -- else the bytes written are the lines, and those past them stay
  pub lines : saved_number x.answer ≡ 0 → take (bytes_of x.answer) x.buffer ≡ saved_text s
  pub past : saved_number x.answer ≡ 0 → drop (bytes_of x.answer) x.buffer ≡ drop (bytes_of x.answer) o
  pub many : length x.buffer ≡ length o
