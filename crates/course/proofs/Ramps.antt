-- The samples of a table's ramp, in order, are those of its points (`in_order`): point by point, from the last one back. So the checked
-- examples of `sum` speak of the samples of demand 3. Assumes nothing.
use Rattle.std.specs.Prelude.{Option, None}
use mathlib.Core.Path.{◌≡◌, refl, ap, sym, ◌∙◌}
use mathlib.Core.Bool.{Bool, true, false, cond}
use mathlib.Core.List.{List}
use Prim.Native.Nat.{ℕ, zero, suc, ◌+◌, ◌-◌, ◌≤◌, ◌<◌}
use native.Mathlib.Omega.{arith}
use lib.Dec.{ltb, eqb}
use lib.ListN.{length, get_or}
use borrow.Author.Tests.{ltb-true, ltb-false, lt-leb, ne_eqb}
use Rattle.word.specs.Table.{value_at, step_at, is_end}
use Rattle.sum.specs.declared.Edition.{Edition}
use Rattle.sum.specs.Sample.{sample_of}
use Rattle.sum.specs.Ramp.{down_to, ending, ramp_from, steps_from}
use Rattle.channel.specs.declared.Loaded.{Loaded}
use Rattle.channel.specs.Ramp.{place, sample_at}
use Rattle.course.specs.Points.{place_from, place_of}
use Rattle.course.specs.Ramps.{point_at, points_after, points_of, InOrder}
use Rattle.course.proofs.Walk.{to_come, total_all}

-- ---- m samples left down to 1

down_to_in : (at : ℕ → Option ℕ) (m : ℕ) (rest : List (Option ℕ)) (k : ℕ) → k < m → get_or (down_to at m rest) k None ≡ at (m - k)
down_to_in at zero rest k h = absurd (omega arith)
down_to_in at (suc m) rest zero h = ap at (omega arith)
down_to_in at (suc m) rest (suc k) h = down_to_in at m rest k (omega arith) ∙ ap at (omega arith)

down_to_past : (at : ℕ → Option ℕ) (m : ℕ) (rest : List (Option ℕ)) (k : ℕ) → m ≤ k → get_or (down_to at m rest) k None ≡ get_or rest (k - m) None
down_to_past at zero rest k h = ap (λ (i : ℕ). get_or rest i None) (omega arith)
down_to_past at (suc m) rest zero h = absurd (omega arith)
down_to_past at (suc m) rest (suc k) h = down_to_past at m rest k (omega arith) ∙ ap (λ (i : ℕ). get_or rest i None) (omega arith)

down_to_length : (at : ℕ → Option ℕ) (m : ℕ) (rest : List (Option ℕ)) → length (down_to at m rest) ≡ m + length rest
down_to_length at zero rest = omega arith
down_to_length at (suc m) rest = ap suc (down_to_length at m rest) ∙ omega arith

-- before point 63 a time step of 0 is what ends the ramp
end_step : (n step : ℕ) → n < 63 → is_end n step ≡ eqb step 0
end_step n step h = rw (lt-leb 63 n h)

module _ (ed : Edition) (w : List ℕ) (first : ℕ) (l : Loaded) where
  -- from point n on, with f points after it
  abbrev from : ℕ → ℕ → List (Option ℕ)
  from f n = ramp_from ed l.scale l.offset (point_at w first n) (points_after w first f n)

  abbrev along : ℕ → ℕ → Option ℕ
  along n m = sample_of ed l.scale (value_at w first n) (value_at w first (n + 1)) (step_at w first n) m l.offset

  sample_end : (n : ℕ) → sample_of ed l.scale (value_at w first n) (value_at w first n) 0 0 l.offset ≡ sample_at ed w first l (place n 0)
  unfolding sample_at
  sample_end n = refl

  sample_along : (n m : ℕ) → 1 ≤ m → along n m ≡ sample_at ed w first l (place n m)
  unfolding sample_at
  sample_along n m h = rw (ne_eqb m 0 (λ e. absurd (omega arith)))

  steps_from_lem : (f n : ℕ) → f + n ≡ 63 → steps_from (point_at w first n) (points_after w first f n) ≡ to_come w first f n
  steps_from_lem zero n h = refl
  steps_from_lem (suc f) n h =
      rw (end_step n (step_at w first n) (omega arith), steps_from_lem f (n + 1) (omega arith))

  many_from : (f n : ℕ) → f + n ≡ 63 → length (from f n) ≡ to_come w first f n + 1
  many_from zero n h = refl
  many_from (suc f) n h = rw (end_step n (step_at w first n) (omega arith)) (go (eqb (step_at w first n) 0) (many_from f (n + 1) (omega arith)))
    where
      go : (b : Bool) → length (from f (n + 1)) ≡ to_come w first f (n + 1) + 1
          → length (cond b (ending ed l.scale l.offset (point_at w first n)) (down_to (along n) (step_at w first n) (from f (n + 1))))
          ≡ cond b 0 (step_at w first n + to_come w first f (n + 1)) + 1
      go true e = refl
      go false e = down_to_length (along n) (step_at w first n) (from f (n + 1)) ∙ omega arith

  each_from : (f n k : ℕ) → f + n ≡ 63 → k ≤ to_come w first f n → get_or (from f n) k None ≡ sample_at ed w first l (place_from w first f n k)
  each_from zero n k h g = let k0 : k ≡ 0 = omega arith in rw k0 (sample_end n)
  each_from (suc f) n k h g =
      rw (end_step n (step_at w first n) (omega arith))
      (go (eqb (step_at w first n) 0) (ltb k (step_at w first n)) refl
      (rw (end_step n (step_at w first n) (omega arith)) at g)
      (each_from f (n + 1) (k - step_at w first n) (omega arith)))
    where
      go : (b d : Bool) → ltb k (step_at w first n) ≡ d → k ≤ cond b 0 (step_at w first n + to_come w first f (n + 1))
          → (k - step_at w first n ≤ to_come w first f (n + 1)
          → get_or (from f (n + 1)) (k - step_at w first n) None ≡ sample_at ed w first l (place_from w first f (n + 1) (k - step_at w first n)))
          → get_or (cond b (ending ed l.scale l.offset (point_at w first n)) (down_to (along n) (step_at w first n) (from f (n + 1)))) k None
          ≡ sample_at ed w first l
          (cond b (place n 0) (cond d (place n (step_at w first n - k)) (place_from w first f (n + 1) (k - step_at w first n))))
      go true d e u ih = let k0 : k ≡ 0 = omega arith in rw k0 (sample_end n)
      go false true e u ih =
          down_to_in (along n) (step_at w first n) (from f (n + 1)) k (omega (arith, ltb-true))
          ∙ sample_along n (step_at w first n - k) (omega (arith, ltb-true))
      go false false e u ih =
          down_to_past (along n) (step_at w first n) (from f (n + 1)) k (omega (arith, ltb-false)) ∙ ih (omega (arith, ltb-false))

  -- The samples of a table's ramp are those of its points, in order
  pub in_order : InOrder ed w first l
  unfolding points_of place_of
  in_order =
      record {
        steps = steps_from_lem 63 0 (omega arith) ∙ sym (total_all w first);
        many = rw (total_all w first) (many_from 63 0 (omega arith));
        each = λ k h. each_from 63 0 k (omega arith) (rw (total_all w first) at h);
      }
