-- A table's rule: one test that is computed over the whole table says it of each entry. Assumes nothing.
use Rattle.std.proofs.Common.{◌≡◌, ℕ, zero, suc, ◌+◌, ◌<◌, Bool, true, ◌&&◌, T, List, [], ◌∷◌, length, get_or, subst, le_of_suc-le-suc, not-suc-le-zero, arith}
use lib.Ieee.Fits.{and_l, and_r}

module _ {A : Type 0} (test : ℕ → A → Bool) (d : A) where
  -- every entry passes the test of its place, counted from j
  abbrev pub all_pass : ℕ → List A → Bool
  all_pass j [] = true
  all_pass j (x ∷ l) = test j x && all_pass (suc j) l

  from : (j : ℕ) (l : List A) → T (all_pass j l) → (k : ℕ) → k < length l → T (test (j + k) (get_or l k d))
  from j [] t k h = absurd (not-suc-le-zero h)
  from j (x ∷ l) t zero h = let e : j ≡ j + 0 = omega arith in subst (λ (n : ℕ). T (test n x)) e (and_l (test j x) (all_pass (suc j) l) t)
  from j (x ∷ l) t (suc k) h =
      let e : suc j + k ≡ j + suc k = omega arith in
      subst (λ (n : ℕ). T (test n (get_or l k d))) e (from (suc j) l (and_r (test j x) (all_pass (suc j) l) t) k (le_of_suc-le-suc h))

  pub at_place : (l : List A) → T (all_pass 0 l) → (k : ℕ) → k < length l → T (test k (get_or l k d))
  at_place l t k h = let e : 0 + k ≡ k = omega arith in subst (λ (n : ℕ). T (test n (get_or l k d))) e (from 0 l t k h)
