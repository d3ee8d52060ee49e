-- `sum::scaled`: the product of a word and an i32 fits an i64, and so does its floor.
use mathlib.Core.Path.{◌≡◌, refl, ◌∙◌}
use Prim.Native.Nat.{ℕ, ◌*◌, ◌≤◌, ◌<◌, ◌^◌}
use native.Mathlib.Omega.{arith}
use lib.IntN.{ℤ, pos, negsuc, nat_abs, ◌*ℤ◌}
use lib.Signed.{mag}
use mir.Syntax.{w32, w64}
use mir.Val.{SFits, to_z, of_z}
use mir.Facts.{to_z-of_z}
use Rattle.word.specs.Word.{signed_of}
use Rattle.word.proofs.Sizes.{size_mul, fits, back}
use Rattle.word.proofs.Number.{size}
use Rattle.sum.specs.Floor.{floor}
use Rattle.sum.proofs.Floors.{size_floor}
use Rattle.sum.proofs.scaled.Goals as goal

-- an i32 is at most 2^31 in size
size32 : (z : ℤ) → mag z < 2 ^ 31 → nat_abs z ≤ 2 ^ 31
size32 (pos n) h = omega arith
size32 (negsuc n) h = omega arith

module _ (a : ℕ) (ha : a < 2 ^ 16) (w : ℤ) (hw : SFits w32 w) where
  wide_is : (r : ℤ) → r ≡ to_z w32 (of_z w32 w) → to_z w64 (of_z w64 r) ≡ w
  wide_is r e = back w64 w (e ∙ to_z-of_z hw) (size32 w hw.sfits) tt

  product_size : nat_abs (signed_of a *ℤ w) ≤ 2 ^ 15 * 2 ^ 31
  product_size = size_mul (signed_of a) w (size a ha) (size32 w hw.sfits)

  amplitude_is : (r : ℤ) → r ≡ signed_of a → to_z w64 (of_z w64 r) ≡ signed_of a
  amplitude_is r e = back w64 _ e (size a ha) tt

pub overflow_mul-number : goal.overflow_mul-number
overflow_mul-number c =
    let ha = c.ranges.amplitude.fits in
    let hw = c.ranges.word in
    rw (amplitude_is _ ha _ hw _ c.number.ensures, wide_is _ ha _ hw _ c.from.ensures) (fits w64 _ (product_size _ ha _ hw) tt)

pub returns : goal.returns
returns c =
    let ha = c.ranges.amplitude.fits in
    let hw = c.ranges.word in
    let p = signed_of c.args.amplitude *ℤ c.args.word in
    back w64 (floor p 16384)
    (c.floor_div.ensures ∙ rw (amplitude_is _ ha _ hw _ c.number.ensures, wide_is _ ha _ hw _ c.from.ensures, back w64 p refl (product_size _ ha _ hw) tt))
    (size_floor p 16384 (product_size _ ha _ hw)) tt
