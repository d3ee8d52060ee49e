-- `sum::rise`: each number, read back, is its part of `above`, and each part fits.
use mathlib.Core.Path.{◌≡◌}
use Prim.Native.Nat.{ℕ, ◌<◌, ◌^◌}
use native.Mathlib.Nat.{le_of_lt}
use lib.IntN.{ℤ, pos, ◌-ℤ◌, ◌*ℤ◌}
use mir.Syntax.{w64}
use mir.Val.{to_z, of_z}
use mir.Facts.{to_z-of_z}
use Rattle.word.specs.Word.{signed_of}
use Rattle.word.proofs.Sizes.{back}
use Rattle.word.proofs.Number.{size}
use Rattle.sum.specs.Fraction.{above}
use Rattle.sum.proofs.Machine.{Words, fits_turn, fits_end, fits_back, fits_above}
use Rattle.sum.proofs.rise.Goals as goal

words : {from to step left : ℕ} → from < 2 ^ 16 → to < 2 ^ 16 → step < 2 ^ 16 → left < 2 ^ 16 → Words from to step left
words f t s l = record { from16 = f; to16 = t; step16 = s; left16 = l }

-- a word's number, as a call gives it, read back
told : (w : ℕ) (r : ℤ) → w < 2 ^ 16 → r ≡ signed_of w → to_z w64 (of_z w64 r) ≡ signed_of w
told w r h e = back w64 _ e (size w h) tt

counted : (n : ℕ) (r : ℤ) → n < 2 ^ 16 → r ≡ pos n → to_z w64 (of_z w64 r) ≡ pos n
counted n r h e = back w64 (pos n) e (le_of_lt h) tt

-- the difference of the two products, each read back
difference : {from to step left : ℕ} (a b s m : ℤ) → Words from to step left → a ≡ signed_of from → b ≡ signed_of to → s ≡ pos step → m ≡ pos left
    → to_z w64 (of_z w64 (to_z w64 (of_z w64 b) *ℤ to_z w64 (of_z w64 s))) -ℤ to_z w64 (of_z w64 (to_z w64 (of_z w64 (to_z w64 (of_z w64 b) -ℤ to_z w64 (of_z w64 a))) *ℤ to_z w64 (of_z w64 m)))
    ≡ above (signed_of from) (signed_of to) step left
difference a b s m k e f g h =
    rw (
      told _ _ k.to16 f,
      told _ _ k.from16 e,
      counted _ _ k.step16 g,
      counted _ _ k.left16 h,
      to_z-of_z (fits_end k),
      to_z-of_z (fits_turn k),
      to_z-of_z (fits_back k),
    )

pub overflow_mul-result : goal.overflow_mul-result
overflow_mul-result c =
    let r = c.ranges in
    let k = words r.from.fits r.to.fits r.step.fits r.left.fits in
    rw (told _ _ r.to.fits c.number-b.ensures, counted _ _ r.step.fits c.from.ensures) (fits_end k)

pub overflow_sub-result : goal.overflow_sub-result
overflow_sub-result c =
    let r = c.ranges in
    let k = words r.from.fits r.to.fits r.step.fits r.left.fits in
    rw (told _ _ r.to.fits c.number-b.ensures, told _ _ r.from.fits c.number-a.ensures) (fits_turn k)

pub overflow_mul-result-2 : goal.overflow_mul-result-2
overflow_mul-result-2 c =
    let r = c.ranges in
    let k = words r.from.fits r.to.fits r.step.fits r.left.fits in
    rw (told _ _ r.to.fits c.number-b.ensures, told _ _ r.from.fits c.number-a.ensures, counted _ _ r.left.fits c.from-2.ensures, to_z-of_z (fits_turn k)) (fits_back k)

pub overflow_sub-result-2 : goal.overflow_sub-result-2
overflow_sub-result-2 c =
    let r = c.ranges in
    let k = words r.from.fits r.to.fits r.step.fits r.left.fits in
    rw (difference _ _ _ _ k c.number-a.ensures c.number-b.ensures c.from.ensures c.from-2.ensures) (fits_above k)

pub returns : goal.returns
returns c =
    let r = c.ranges in
    let k = words r.from.fits r.to.fits r.step.fits r.left.fits in
    rw (difference _ _ _ _ k c.number-a.ensures c.number-b.ensures c.from.ensures c.from-2.ensures, to_z-of_z (fits_above k))
