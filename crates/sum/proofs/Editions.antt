-- The two roundings: where they agree, and how far apart they are. f lies between its own cut q and q + 1, and the sum goes one way with f,
-- so the bound is that of one step from q to q + 1. Assumes nothing.
use mathlib.Core.Path.{◌≡◌, refl, sym, ap, ◌∙◌}
use Prim.Native.Nat.{ℕ, zero, suc, ◌*◌, ◌<◌}
use native.Mathlib.Omega.{arith}
use lib.Dec.{eqb-suc-zero}
use lib.IntN.{ℤ, pos, negsuc, ◌+ℤ◌, ◌-ℤ◌, ◌*ℤ◌}
use lib.Signed.{◌≤ℤ◌}
use Rattle.word.specs.Word.{signed_of}
use Rattle.word.proofs.Split.{of_add, of_minus, of_mul, up_neg, dn_neg, le_split, le_join, eq_join}
use Rattle.sum.specs.Floor.{floor, ceil}
use Rattle.sum.specs.Fraction.{Fraction, whole, along, fraction, Order}
use Rattle.sum.specs.Sample.{once_of, sum_of}
use Rattle.sum.specs.Editions.{AsBefore, Near, TwoRoundings}
use Rattle.sum.specs.declared.Edition.{Edition}
use Rattle.sum.specs.declared.Edition.TheVariants.{First, Second}
use Rattle.sum.proofs.Floors.{of_floor, floor_one, floor_cancel, ceil_is}
use Rattle.sum.proofs.Samples.{rises_once, falls_once, at_whole, at_point}

-- ---- where they agree

-- at a table point, whichever two editions
pub agree_at : (ed ed' : Edition) (S o a b : ℤ) (step : ℕ) → sum_of ed S (fraction a b step step) o ≡ sum_of ed' S (fraction a b step step) o
agree_at ed ed' S o a b step = at_point ed S o a b step ∙ at_whole ed S o a ∙ sym (at_whole ed' S o a) ∙ sym (at_point ed' S o a b step)

-- a factor of 1, which is 256, goes against the 256 below it
module _ (x : ℤ) (d : ℕ) (h : 0 < d) where
  one_is : floor (pos 256 *ℤ x) (256 * d) ≡ floor x d
  one_is =
      ap (λ (z : ℤ). floor z (256 * d)) (eq_join (pos 256 *ℤ x) (x *ℤ pos 256) (omega (arith, of_mul (pos 256) x, of_mul x (pos 256))))
      ∙ ap (floor (x *ℤ pos 256)) (omega arith) ∙ floor_cancel x d 256 h (omega arith)

scale_one : (f : Fraction) (o : ℤ) → 0 < f.den → sum_of First (pos 256) f o ≡ sum_of Second (pos 256) f o
scale_one f o h =
    let q = floor f.num f.den in
    let e : floor (pos 256 *ℤ f.num) (256 * f.den) ≡ floor (pos 256 *ℤ q) (256 * 1) = one_is f.num f.den h ∙ sym (one_is q 1 (omega arith) ∙ floor_one q) in
    ap (λ (z : ℤ). z +ℤ o) e

agree_one : (a b o : ℤ) (step left : ℕ) → sum_of First (pos 256) (fraction a b step left) o ≡ sum_of Second (pos 256) (fraction a b step left) o
agree_one a b o zero left = scale_one (whole a) o (omega arith)
agree_one a b o (suc k) left = rw (eqb-suc-zero k) (scale_one (along a b (suc k) left) o (omega arith))

-- ---- how far apart they are

-- one step more is at most the step rounded up
step_up : (x : ℤ) (s : ℕ) → floor (x +ℤ pos s) 256 ≤ℤ (floor x 256 +ℤ pos (ceil s 256))
step_up x s =
    let y = x +ℤ pos s in
    le_join (floor y 256) (floor x 256 +ℤ pos (ceil s 256))
    (omega (arith, of_floor y 256 (omega arith), of_floor x 256 (omega arith), of_add x (pos s), of_add (floor x 256) (pos (ceil s 256)), (ceil_is s 256 (omega arith)).enough))

step_down : (x : ℤ) (s : ℕ) → (floor x 256 -ℤ pos (ceil s 256)) ≤ℤ floor (x -ℤ pos s) 256
step_down x s =
    let y = x -ℤ pos s in
    le_join (floor x 256 -ℤ pos (ceil s 256)) (floor y 256)
    (omega (arith, of_floor y 256 (omega arith), of_floor x 256 (omega arith), of_minus x (pos s), of_minus (floor x 256) (pos (ceil s 256)), (ceil_is s 256 (omega arith)).enough))

-- S·(q + 1) is a step of S from S·q
next_up : (s : ℕ) (q : ℤ) → pos s *ℤ (q +ℤ pos 1) ≡ pos s *ℤ q +ℤ pos s
next_up s q = eq_join _ _ (omega (arith, of_mul (pos s) (q +ℤ pos 1), of_mul (pos s) q, of_add (pos s *ℤ q) (pos s), ap (λ (k : ℕ). s * k) (of_add q (pos 1))))

next_down : (s : ℕ) (q : ℤ) → negsuc s *ℤ (q +ℤ pos 1) ≡ negsuc s *ℤ q -ℤ pos (suc s)
next_down s q = eq_join _ _ (omega (arith, of_mul (negsuc s) (q +ℤ pos 1), of_mul (negsuc s) q, of_minus (negsuc s *ℤ q) (pos (suc s)), ap (λ (k : ℕ). suc s * k) (of_add q (pos 1))))

module _ (f : Fraction) (h : 0 < f.den) where
  abbrev q : ℤ
  q = floor f.num f.den

  -- q ≤ f ≤ q + 1
  below : Order (whole q) f
  below = record { order = le_join _ _ (omega (arith, of_floor f.num f.den h, of_mul q (pos f.den), of_mul f.num (pos 1))) }

  above : Order f (whole (q +ℤ pos 1))
  above =
      record {
        order = le_join _ _ (omega (arith, of_floor f.num f.den h, of_mul (q +ℤ pos 1) (pos f.den), of_mul f.num (pos 1), ap (λ (k : ℕ). k * f.den) (of_add q (pos 1))));
      }

  near_by : (S o : ℤ) → Near S (sum_of First S f o -ℤ sum_of Second S f o)
  near_by (pos s) o =
      let A = once_of (pos s) f o in
      let B = once_of (pos s) (whole q) o in
      let C = once_of (pos s) (whole (q +ℤ pos 1)) o in
      let x = floor (pos s *ℤ q) 256 in
      let y = floor (pos s *ℤ (q +ℤ pos 1)) 256 in
      let up_to : y ≤ℤ (x +ℤ pos (ceil s 256)) = rw (next_up s q) (step_up (pos s *ℤ q) s) in
      let low = le_split B A (rises_once s o (whole q) f (omega arith) h below) in
      let high = le_split A C (rises_once s o f (whole (q +ℤ pos 1)) h (omega arith) above) in (
        le_join (pos 0) (A -ℤ B) (omega (arith, of_minus A B, low)),
        le_join (A -ℤ B) (pos (ceil s 256)) (omega (arith, of_minus A B, high, of_add y o, of_add x o, le_split _ _ up_to, of_add x (pos (ceil s 256)))),
      )
  near_by (negsuc s) o =
      let A = once_of (negsuc s) f o in
      let B = once_of (negsuc s) (whole q) o in
      let C = once_of (negsuc s) (whole (q +ℤ pos 1)) o in
      let x = floor (negsuc s *ℤ q) 256 in
      let y = floor (negsuc s *ℤ (q +ℤ pos 1)) 256 in
      let b = pos (ceil (suc s) 256) in
      let down_to : (x -ℤ b) ≤ℤ y = rw (next_down s q) (step_down (negsuc s *ℤ q) (suc s)) in
      let high = le_split A B (falls_once s o (whole q) f (omega arith) h below) in
      let low = le_split C A (falls_once s o f (whole (q +ℤ pos 1)) h (omega arith) above) in (
        le_join _ (A -ℤ B) (omega (arith, of_minus A B, low, of_add y o, of_add x o, le_split _ _ down_to, of_minus x b, up_neg b, dn_neg b)),
        le_join (A -ℤ B) (pos 0) (omega (arith, of_minus A B, high)),
      )

near_at : (S o a b : ℤ) (step left : ℕ) → Near S (sum_of First S (fraction a b step left) o -ℤ sum_of Second S (fraction a b step left) o)
near_at S o a b zero left = near_by (whole a) (omega arith) S o
near_at S o a b (suc k) left = rw (eqb-suc-zero k) (near_by (along a b (suc k) left) (omega arith) S o)

-- WHERE THE EDITIONS AGREE, AND HOW FAR APART THEY ARE
pub two_roundings : TwoRoundings
unfolding signed_of
two_roundings =
    record {
      twice = λ S f o. refl;
      points = λ scale from to step offset. agree_at First Second (signed_of scale) (signed_of offset) (signed_of from) (signed_of to) step;
      one = λ from to step left offset. agree_one (signed_of from) (signed_of to) (signed_of offset) step left;
      near = λ scale from to step left offset. near_at (signed_of scale) (signed_of offset) (signed_of from) (signed_of to) step left;
    }

-- IN EDITION 1 EACH DEFINITION IS WHAT IT WAS
pub as_before : (scale from to step left offset : ℕ) → AsBefore scale from to step left offset
as_before scale from to step left offset = record { total = refl; sample = refl }
