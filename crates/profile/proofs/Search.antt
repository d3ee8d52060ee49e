-- What the searches find: samples that are each in range, the first point that is not, and the first of some verdicts that names a ramp.
-- Assumes nothing.
use Rattle.std.specs.Prelude.{Option, Result, Ok, Err}
use mathlib.Core.Path.{◌≡◌, refl, ap, sym, ◌∙◌}
use mathlib.Core.Bool.{Bool, true, false, not, ◌&&◌}
use Prim.Native.Nat.{ℕ, zero, suc, ◌+◌, ◌-◌, ◌≤◌, ◌<◌}
use native.Mathlib.Omega.{arith}
use lib.Dec.{ltb}
use borrow.Author.Tests.{ltb-true, ltb-false}
use Rattle.channel.specs.Signal.{overflows}
use Rattle.profile.specs.declared.Break.{Break}
use Rattle.profile.specs.Profile.{each_in, first_out, or_else, first_from}

-- what is so of n, and from n + 1 on, is so from n on
pub from_on : (P : ℕ → Type 0) (n i : ℕ) → n ≤ i → P n → (n + 1 ≤ i → P i) → P i
from_on P n i h p q = go (ltb n i) refl
  where
    go : (b : Bool) → ltb n i ≡ b → P i
    go true e = q (omega (arith, ltb-true))
    go false e = let s : n ≡ i = omega (arith, ltb-false) in rw s at p

-- ---- samples

and_not : (a b : Bool) → a && not b ≡ true → (a ≡ true) × (b ≡ false)
and_not true false e = (refl, refl)
and_not true true e = let z : ◌≡◌ {A = ℕ} 0 1 = cc in absurd (omega arith)
and_not false b e = let z : ◌≡◌ {A = ℕ} 0 1 = cc in absurd (omega arith)

module _ (sums : ℕ → Option ℕ) where
  pub each_in_lem : (n : ℕ) → ((k : ℕ) → k < n → overflows (sums k) ≡ false) → each_in sums n ≡ true
  unfolding each_in
  each_in_lem zero h = refl
  each_in_lem (suc n) h = rw (each_in_lem n (λ k l. h k (omega arith)), h n (omega arith))

  pub in_each : (n : ℕ) → each_in sums n ≡ true → (k : ℕ) → k < n → overflows (sums k) ≡ false
  unfolding each_in
  in_each zero e k l = absurd (omega arith)
  in_each (suc n) e k l =
      let last = and_not (each_in sums n) (overflows (sums n)) e in
      from_on (λ m. overflows (sums m) ≡ false → overflows (sums k) ≡ false) k n (omega arith) (λ d. d) (λ h d. in_each n last.0 k (omega arith)) last.1

  -- ---- points

  -- point m is out of range, and no point before it from n on
  pub first_out_lem : (f n m : ℕ) → n ≤ m → m ≤ n + f → overflows (sums m) ≡ true → ((i : ℕ) → n ≤ i → i < m → overflows (sums i) ≡ false) → first_out sums f n ≡ m
  unfolding first_out
  first_out_lem zero n m l g e b = omega arith
  first_out_lem (suc f) n m l g e b = go (ltb n m) refl (λ h. first_out_lem f (n + 1) m h (omega arith) e (λ i j k. b i (omega arith) k))
    where
      go : (x : Bool) → ltb n m ≡ x → (n + 1 ≤ m → first_out sums f (n + 1) ≡ m) → first_out sums (suc f) n ≡ m
      go true q ih = let h : n < m = omega (arith, ltb-true) in rw (b n (omega arith) h) (ih (omega arith))
      go false q ih = let h : n ≡ m = omega (arith, ltb-false) in rw (h, e)

-- ---- verdicts

-- verdict k names a ramp, and none before it from i on does
pub record Named (f : ℕ → Result Unit Break) (i n : ℕ) (b : Break) : Type 0 where
  pub place : ℕ
  pub from : i ≤ place
  pub below : place < i + n
  pub names : f place ≡ Err b
  pub earlier : (k : ℕ) → i ≤ k → k < place → f k ≡ Ok tt

module _ (f : ℕ → Result Unit Break) where
  pub all_pass : (i n : ℕ) → ((k : ℕ) → i ≤ k → k < i + n → f k ≡ Ok tt) → first_from f i n ≡ Ok tt
  unfolding first_from
  all_pass i zero h = refl
  all_pass i (suc n) h = rw (h i (omega arith) (omega arith)) (all_pass (i + 1) n (λ k l g. h k (omega arith) (omega arith)))

  pub each_passes : (i n : ℕ) → first_from f i n ≡ Ok tt → (k : ℕ) → i ≤ k → k < i + n → f k ≡ Ok tt
  unfolding first_from
  each_passes i zero e k l g = absurd (omega arith)
  each_passes i (suc n) e k l g = go (f i) refl e (λ u h. each_passes (i + 1) n u k h (omega arith))
    where
      go : (v : Result Unit Break) → f i ≡ v → or_else v (first_from f (i + 1) n) ≡ Ok tt → (first_from f (i + 1) n ≡ Ok tt → i + 1 ≤ k → f k ≡ Ok tt) → f k ≡ Ok tt
      go (Ok tt) p u ih = from_on (λ j. f j ≡ Ok tt) i k l p (ih u)
      go (Err b) p u ih = let z : ◌≡◌ {A = ℕ} 0 1 = cc in absurd (omega arith)

  pub first_named : (i n : ℕ) (b : Break) → first_from f i n ≡ Err b → Named f i n b
  unfolding first_from
  first_named i zero b e = let z : ◌≡◌ {A = ℕ} 0 1 = cc in absurd (omega arith)
  first_named i (suc n) b e = go (f i) refl e (first_named (i + 1) n b)
    where
      later : f i ≡ Ok tt → Named f (i + 1) n b → Named f i (suc n) b
      later p y =
          record {
            place = y.place;
            from = omega (arith, y.from);
            below = omega (arith, y.below);
            names = y.names;
            earlier = λ k l g. from_on (λ j. f j ≡ Ok tt) i k l p (λ h. y.earlier k h g);
          }

      go : (v : Result Unit Break) → f i ≡ v → or_else v (first_from f (i + 1) n) ≡ Err b → (first_from f (i + 1) n ≡ Err b → Named f (i + 1) n b) → Named f i (suc n) b
      go (Err d) p u ih = record { place = i; from = omega arith; below = omega arith; names = p ∙ u; earlier = λ k l g. absurd (omega arith) }
      go (Ok tt) p u ih = later p (ih u)

-- ---- a loop over n verdicts: what is left to look at from i on, x, is the whole

module _ (f : ℕ → Result Unit Break) (i n : ℕ) {x : Result Unit Break} (e : x ≡ first_from f i (n - i)) where
  next : i < n → x ≡ or_else (f i) (first_from f (i + 1) (n - (i + 1)))
  unfolding first_from
  next h = let d : n - i ≡ suc (n - (i + 1)) = omega arith in e ∙ rw d

  -- the verdict r passes, or names a ramp
  pub goes_on : {r : Result Unit Break} → i < n → r ≡ f i → r ≡ Ok tt → x ≡ first_from f (i + 1) (n - (i + 1))
  goes_on h p q = next h ∙ ap (λ (v : Result Unit Break). or_else v (first_from f (i + 1) (n - (i + 1)))) (sym p ∙ q)

  pub stops : {r : Result Unit Break} {b : Break} → i < n → r ≡ f i → r ≡ Err b → Err b ≡ x
  stops h p q = sym (next h ∙ ap (λ (v : Result Unit Break). or_else v (first_from f (i + 1) (n - (i + 1)))) (sym p ∙ q))

  -- none is left
  pub all_passed : n ≤ i → (Ok tt) ≡ x
  unfolding first_from
  all_passed h = let d : n - i ≡ 0 = omega arith in sym (e ∙ rw d)
