-- A run of words that are all set to one word, and the erased slots: every word of the result, by its place. Assumes nothing.
use mathlib.Core.Path.{◌≡◌, refl, ◌∙◌}
use mathlib.Core.Bool.{Bool, true, false}
use mathlib.Core.List.{List}
use Prim.Native.Nat.{ℕ, zero, suc, ◌+◌, ◌≤◌, ◌<◌}
use native.Mathlib.Omega.{arith}
use lib.Dec.{eqb}
use lib.ListN.{length, get_or, set, length-set}
use lib.Seq.{set_out, get_or-set_same, get_or-set_other}
use borrow.Author.Tests.{eqb-true, eqb-false}
use Rattle.slots.specs.Slots.{slot_of, filled, erased}

-- ---- n words from `first` on

pub filled_length : (n : ℕ) (words : List ℕ) (first word : ℕ) → length (filled n words first word) ≡ length words
unfolding filled
filled_length zero words first word = refl
filled_length (suc n) words first word = length-set (filled n words first word) (first + n) word ∙ filled_length n words first word

-- a place of the run that is inside the list has the word
pub filled_in : (n : ℕ) (words : List ℕ) (first word at : ℕ) → first ≤ at → at < first + n → at < length words → get_or (filled n words first word) at 0 ≡ word
unfolding filled
filled_in zero words first word at f g l = absurd (omega arith)
filled_in (suc n) words first word at f g l = go (eqb at (first + n)) refl (λ h. filled_in n words first word at f h l)
  where
    go : (b : Bool) → eqb at (first + n) ≡ b → (at < first + n → get_or (filled n words first word) at 0 ≡ word) → get_or (set (filled n words first word) (first + n) word) at 0 ≡ word
    go true e r =
        let d = eqb-true at (first + n) e in
        rw d (get_or-set_same (filled n words first word) (first + n) word 0 (rw (filled_length n words first word) (omega arith)))
    go false e r = let d = eqb-false at (first + n) e in get_or-set_other (filled n words first word) (first + n) at word 0 d ∙ r (omega arith)

-- any other place, before the run, after it or past the list's end, has the list's own word
pub filled_out : (n : ℕ) (words : List ℕ) (first word at : ℕ) → (first ≤ at → at < first + n → at < length words → ⊥) → get_or (filled n words first word) at 0 ≡ get_or words at 0
unfolding filled
filled_out zero words first word at o = refl
filled_out (suc n) words first word at o = go (eqb at (first + n)) refl ∙ filled_out n words first word at (λ f g l. o f (omega arith) l)
  where
    go : (b : Bool) → eqb at (first + n) ≡ b → get_or (set (filled n words first word) (first + n) word) at 0 ≡ get_or (filled n words first word) at 0
    go true e =
        let d = eqb-true at (first + n) e in
        let p : at < length words → ⊥ = o (omega arith) (omega arith) in
        rw (set_out (filled n words first word) (first + n) word (rw (filled_length n words first word) (omega arith)))
    go false e = get_or-set_other (filled n words first word) (first + n) at word 0 (eqb-false at (first + n) e)

-- ---- the erased slots

pub erased_length : (words : List ℕ) → length (erased words) ≡ length words
erased_length words = filled_length 256 words 0x4000 0xFE

-- every slot is null
pub erased_slot : (words : List ℕ) (n : ℕ) → 0x4100 ≤ length words → n < 256 → slot_of (erased words) n ≡ 0xFE
erased_slot words n l h = filled_in 256 words 0x4000 0xFE (0x4000 + n) (omega arith) (omega arith) (omega arith)

-- and no other word is changed
pub erased_else : (words : List ℕ) (at : ℕ) → (0x4000 ≤ at → at < 0x4100 → ⊥) → get_or (erased words) at 0 ≡ get_or words at 0
erased_else words at o = filled_out 256 words 0x4000 0xFE at (λ f g l. o f g)
