-- A test of every word of a list. Assumes nothing.
use Rattle.std.proofs.Common.{◌≡◌, ℕ, Bool, ◌&&◌, List, refl}
use Rattle.std.specs.List.{list_all}
use Rattle.std.proofs.lemmas.List.Recursion.{same_from_clauses}
use Rattle.word.specs.Every.{every}

-- the library's test of a whole list, as an iterator's `all` answers it, is the same
pub all_every : (test : ℕ → Bool) (l : List ℕ) → list_all test l ≡ every test l
unfolding every
all_every test l = same_from_clauses (list_all test) (every test) (λ x b. test x && b) refl (λ _ _. refl) (λ _ _. refl) l
