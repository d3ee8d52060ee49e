-- The places of a table's samples, found by walking from one to the next, are those that the table gives directly. Assumes nothing.
use mathlib.Core.Path.{◌≡◌, refl, ap, sym, ◌∙◌}
use mathlib.Core.Bool.{Bool, true, false, cond}
use mathlib.Core.List.{List}
use Prim.Native.Nat.{ℕ, zero, suc, ◌+◌, ◌-◌, ◌≤◌, ◌<◌}
use native.Mathlib.Omega.{arith}
use native.Mathlib.Numerals.{add-one}
use lib.Dec.{ltb}
use borrow.Author.Tests.{ltb-true, ltb-false, lt-ltb, le-ltb, le-leb}
use Rattle.word.specs.Table.{step_at, is_end, steps_before}
use Rattle.channel.specs.declared.Place.{Place}
use Rattle.channel.specs.Ramp.{place, enter, next}
use Rattle.course.specs.Points.{end_from, end_point, total, place_from, place_of}
use Rattle.course.proofs.Tables.{Placed, grown_small}

-- ---- an end point, as the test has it

pub end_63 : (n step : ℕ) → 63 ≤ n → is_end n step ≡ true
end_63 n step h = rw (le-leb 63 n h)

-- a point that is no end lies before point 63 and has a time step
pub on : (n step : ℕ) → is_end n step ≡ false → (n < 63) × (1 ≤ step)
on n step e = grind arith

module _ (w : List ℕ) (first : ℕ) where
  -- point n ends the ramp
  abbrev pub ends : ℕ → Bool
  ends n = is_end n (step_at w first n)

  -- the samples to come at point n, with f points after it
  abbrev pub to_come : ℕ → ℕ → ℕ
  to_come zero n = 0
  to_come (suc f) n = cond (ends n) 0 (step_at w first n + to_come f (n + 1))

  all_from : (f n : ℕ) → steps_before w first n + to_come f n ≡ steps_before w first (end_from w first f n)
  unfolding steps_before
  all_from zero n = omega arith
  all_from (suc f) n = go (ends n) refl (all_from f (n + 1))
    where
      go : (b : Bool) → ends n ≡ b → steps_before w first (n + 1) + to_come f (n + 1) ≡ steps_before w first (end_from w first f (n + 1))
          → steps_before w first n + to_come (suc f) n ≡ steps_before w first (end_from w first (suc f) n)
      go true e r = rw e (omega arith)
      go false e r =
          let s : steps_before w first (n + 1) ≡ steps_before w first n + step_at w first n = rw (add-one n) in
          rw e (omega arith ∙ r)

  pub total_all : total w first ≡ to_come 63 0
  unfolding total end_point steps_before
  total_all = sym (all_from 63 0) ∙ omega arith

  -- ---- the places from point n on

  place_enter : (f n : ℕ) → f + n ≡ 63 → place_from w first f n 0 ≡ enter w first n
  unfolding enter
  place_enter zero n h = rw (end_63 n (step_at w first n) (omega arith))
  place_enter (suc f) n h = grind arith

  -- while the end is not reached, some samples are left in the segment
  place_left : (f n k : ℕ) → k < to_come f n → 1 ≤ (place_from w first f n k).left.0
  place_left zero n k h = omega arith
  place_left (suc f) n k h = go (ends n) refl (ltb k (step_at w first n)) refl (place_left f (n + 1) (k - step_at w first n))
    where
      go : (b : Bool) → ends n ≡ b → (c : Bool) → ltb k (step_at w first n) ≡ c
          → (k - step_at w first n < to_come f (n + 1) → 1 ≤ (place_from w first f (n + 1) (k - step_at w first n)).left.0)
          → 1 ≤ (place_from w first (suc f) n k).left.0
      go true e c q ih = let z : k < 0 = rw e at h in omega arith
      go false e true q ih = rw (e, q) (omega (arith, ltb-true))
      go false e false q ih = let z : k < step_at w first n + to_come f (n + 1) = rw e at h in rw (e, q) (ih (omega (arith, ltb-false)))

  -- at the end none is left
  place_end : (f n k : ℕ) → k ≡ to_come f n → (place_from w first f n k).left.0 ≡ 0
  place_end zero n k h = refl
  place_end (suc f) n k h = go (ends n) refl (place_end f (n + 1) (k - step_at w first n))
    where
      go : (b : Bool) → ends n ≡ b
          → (k - step_at w first n ≡ to_come f (n + 1) → (place_from w first f (n + 1) (k - step_at w first n)).left.0 ≡ 0)
          → (place_from w first (suc f) n k).left.0 ≡ 0
      go true e ih = rw e
      go false e ih =
          let z : k ≡ step_at w first n + to_come f (n + 1) = rw e at h in
          rw (e, le-ltb k (step_at w first n) (omega arith)) (ih (omega arith))

  placed_from : (f n k : ℕ) → f + n ≡ 63 → Placed (place_from w first f n k)
  placed_from zero n k h = record { most = omega arith; inner = λ z. absurd (omega arith) }
  placed_from (suc f) n k h = go (ends n) refl (ltb k (step_at w first n)) refl (placed_from f (n + 1) (k - step_at w first n) (omega arith))
    where
      go : (b : Bool) → ends n ≡ b → (c : Bool) → ltb k (step_at w first n) ≡ c
          → Placed (place_from w first f (n + 1) (k - step_at w first n)) → Placed (place_from w first (suc f) n k)
      go true e c q ih = rw e (record { most = omega arith; inner = λ z. absurd (omega arith) })
      go false e true q ih = rw (e, q) (record { most = omega arith; inner = λ z. omega arith })
      go false e false q ih = rw (e, q) ih

  -- the walk goes from sample k to sample k + 1
  place_next : (f n k : ℕ) → f + n ≡ 63 → k < to_come f n → next w first (place_from w first f n k) ≡ place_from w first f n (k + 1)
  unfolding next
  place_next zero n k h g = absurd (omega arith)
  place_next (suc f) n k h g =
      go (ends n) refl (ltb k (step_at w first n)) refl (ltb (k + 1) (step_at w first n)) refl (place_next f (n + 1) (k - step_at w first n) (omega arith))
    where
      go : (b : Bool) → ends n ≡ b → (c : Bool) → ltb k (step_at w first n) ≡ c → (d : Bool) → ltb (k + 1) (step_at w first n) ≡ d
          → (k - step_at w first n < to_come f (n + 1)
          → next w first (place_from w first f (n + 1) (k - step_at w first n)) ≡ place_from w first f (n + 1) (k - step_at w first n + 1))
          → next w first (place_from w first (suc f) n k) ≡ place_from w first (suc f) n (k + 1)
      go true e c q d r ih = let z : k < 0 = rw e at g in absurd (omega arith)
      go false e true q true r ih =
          rw (e, q, r, lt-ltb 1 (step_at w first n - k) (omega (arith, ltb-true))) (ap (λ (m : ℕ). place n m) (omega arith))
      go false e true q false r ih =
          let s1 : k + 1 ≡ step_at w first n = omega (arith, ltb-true, ltb-false) in
          let s0 : k + 1 - step_at w first n ≡ 0 = omega arith in
          rw (e, q, r, le-ltb 1 (step_at w first n - k) (omega arith), grown_small n (omega arith), s0) (sym (place_enter f (n + 1) (omega arith)))
      go false e false q true r ih = absurd (omega (arith, ltb-true, ltb-false))
      go false e false q false r ih =
          let z : k < step_at w first n + to_come f (n + 1) = rw e at g in
          let s1 : k + 1 - step_at w first n ≡ k - step_at w first n + 1 = omega (arith, ltb-false) in
          rw (e, q, r, s1) (ih (omega (arith, ltb-false)))

  -- ---- the same of a whole table

  pub placed : (k : ℕ) → Placed (place_of w first k)
  unfolding place_of
  placed k = placed_from 63 0 k (omega arith)

  pub place_first : enter w first 0 ≡ place_of w first 0
  unfolding place_of
  place_first = sym (place_enter 63 0 (omega arith))

  pub place_step : (k : ℕ) → k < total w first → next w first (place_of w first k) ≡ place_of w first (k + 1)
  unfolding place_of
  place_step k h = place_next 63 0 k (omega arith) (rw total_all at h)

  pub place_more : (k : ℕ) → k < total w first → 1 ≤ (place_of w first k).left.0
  unfolding place_of
  place_more k h = place_left 63 0 k (rw total_all at h)

  pub place_last : (k : ℕ) → k ≡ total w first → (place_of w first k).left.0 ≡ 0
  unfolding place_of
  place_last k h = place_end 63 0 k (rw total_all at h)

-- ---- where a ramp comes to from any place before point 63

pub placed_enter : (w : List ℕ) (first n : ℕ) → n ≤ 63 → Placed (enter w first n)
unfolding enter
placed_enter w first n h = grind arith

pub placed_next : (w : List ℕ) (first : ℕ) (p : Place) → p.segment < 63 → Placed (next w first p)
unfolding next
placed_next w first p h = grind (arith, placed_enter)
