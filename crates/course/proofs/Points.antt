-- The end point, T and the places are what the points say: every table has exactly one end point, T is the sum of the time steps before
-- it (`samples`), and each sample's place leads to the next point. Assumes nothing.
use mathlib.Core.Path.{◌≡◌, refl}
use mathlib.Core.Bool.{Bool, true, false}
use mathlib.Core.List.{List}
use Prim.Native.Nat.{ℕ, zero, suc, ◌+◌, ◌-◌, ◌≤◌, ◌<◌}
use native.Mathlib.Omega.{arith}
use native.Mathlib.Nat.{add-zero}
use native.Mathlib.Numerals.{add-one}
use lib.Dec.{ltb}
use borrow.Author.Tests.{ltb-true, ltb-false, le-ltb}
use Rattle.word.specs.Table.{step_at, steps_before}
use Rattle.channel.specs.Ramp.{place}
use Rattle.course.specs.Points.{end_from, end_point, total, place_from, place_of, EndPoint, Within, Samples}
use Rattle.course.proofs.Walk.{end_63, ends, to_come, total_all}

module _ (w : List ℕ) (first : ℕ) where
  -- what holds below n and at n holds below n + 1
  below_next : (n : ℕ) → ends w first n ≡ false → ((i : ℕ) → i < n → ends w first i ≡ false) → (i : ℕ) → i < n + 1 → ends w first i ≡ false
  below_next n e b i h = grind (arith, b i)

  found : (f n : ℕ) → f + n ≡ 63 → ((i : ℕ) → i < n → ends w first i ≡ false) → EndPoint w first (end_from w first f n)
  found zero n h b = record { here = end_63 n (step_at w first n) (omega arith); earlier = b }
  found (suc f) n h b = go (ends w first n) refl (found f (n + 1) (omega arith))
    where
      go : (x : Bool) → ends w first n ≡ x → (((i : ℕ) → i < n + 1 → ends w first i ≡ false) → EndPoint w first (end_from w first f (n + 1)))
          → EndPoint w first (end_from w first (suc f) n)
      go true q ih = rw q (record { here = q; earlier = b })
      go false q ih = rw q (ih (below_next n q b))

  -- the end point that is sought ends the ramp, and no earlier point does
  pub the_end : EndPoint w first (end_point w first)
  unfolding end_point
  the_end = found 63 0 (omega arith) (λ i h. absurd (omega arith))

  -- and there is no other
  pub one_end : (m n : ℕ) → EndPoint w first m → EndPoint w first n → m ≡ n
  one_end m n x y = grind arith

  -- ---- the samples, with e the end point

  steps_next : (n : ℕ) → steps_before w first (n + 1) ≡ steps_before w first n + step_at w first n
  unfolding steps_before
  steps_next n = rw (add-one n)

  pub steps_suc : (n : ℕ) → steps_before w first (suc n) ≡ steps_before w first n + step_at w first n
  unfolding steps_before
  steps_suc n = refl

  module _ (e : ℕ) (end : EndPoint w first e) where
    -- the test finds the end point
    pub at_end : (n : ℕ) → n ≤ e → ends w first n ≡ true → n ≡ e
    at_end n h q = grind arith

    pub not_end : (n : ℕ) → n ≤ e → ends w first n ≡ false → n < e
    not_end n h q = grind arith

    most : e ≤ 63
    most = grind arith

    within_from : (f n k : ℕ) → f + n ≡ 63 → n ≤ e → k < to_come w first f n → Within w first e (k + steps_before w first n) (place_from w first f n k)
    within_from zero n k h g u = absurd (omega arith)
    within_from (suc f) n k h g u = go (ends w first n) refl (ltb k (step_at w first n)) refl (within_from f (n + 1) (k - step_at w first n) (omega arith))
      where
        go : (x : Bool) → ends w first n ≡ x → (y : Bool) → ltb k (step_at w first n) ≡ y
            → (n + 1 ≤ e → k - step_at w first n < to_come w first f (n + 1)
            → Within w first e (k - step_at w first n + steps_before w first (n + 1)) (place_from w first f (n + 1) (k - step_at w first n)))
            → Within w first e (k + steps_before w first n) (place_from w first (suc f) n k)
        go true q y r ih = let z : k < 0 = rw q at u in absurd (omega arith)
        go false q true r ih =
            rw (q, r)
            (record { inside = not_end n g q; some = omega (arith, ltb-true); few = omega arith; adds = omega (arith, ltb-true, steps_suc n) })
        go false q false r ih =
            let z : k < step_at w first n + to_come w first f (n + 1) = rw q at u in
            let s : k - step_at w first n + steps_before w first (n + 1) ≡ k + steps_before w first n = omega (arith, ltb-false, steps_next n) in
            rw (q, r) (rw s at (ih (omega (arith, not_end n g q)) (omega (arith, ltb-false))))

    last_from : (f n k : ℕ) → f + n ≡ 63 → n ≤ e → k ≡ to_come w first f n → place_from w first f n k ≡ place e 0
    last_from zero n k h g u = let le : e ≤ 63 = most in let s : n ≡ e = omega arith in rw s
    last_from (suc f) n k h g u = go (ends w first n) refl (last_from f (n + 1) (k - step_at w first n) (omega arith))
      where
        go : (x : Bool) → ends w first n ≡ x
            → (n + 1 ≤ e → k - step_at w first n ≡ to_come w first f (n + 1) → place_from w first f (n + 1) (k - step_at w first n) ≡ place e 0)
            → place_from w first (suc f) n k ≡ place e 0
        go true q ih = rw (q, at_end n g q)
        go false q ih =
            let z : k ≡ step_at w first n + to_come w first f (n + 1) = rw q at u in
            rw (q, le-ltb k (step_at w first n) (omega arith)) (ih (omega (arith, not_end n g q)) (omega arith))

    steps_none : steps_before w first 0 ≡ 0
    unfolding steps_before
    steps_none = refl

    -- T is the sum of the time steps before the end point, and each sample has its place
    pub samples : Samples w first e
    unfolding total place_of
    samples =
        record {
          all = cc (one_end (end_point w first) e the_end end);
          within = λ k h. rw (steps_none, add-zero) at (within_from 63 0 k (omega arith) (omega arith) (rw (total_all w first) at h));
          last = last_from 63 0 (total w first) (omega arith) (omega arith) (total_all w first);
        }
