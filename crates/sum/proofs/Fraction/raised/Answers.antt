-- `sum::Fraction::raised`: the product, its floor and the sum fit, and are the definition's.
use mathlib.Core.Path.{◌≡◌, refl, ◌∙◌}
use Prim.Native.Nat.{◌*◌}
use lib.IntN.{◌+ℤ◌, ◌*ℤ◌}
use mir.Syntax.{w64}
use mir.Val.{SFits}
use mir.Facts.{to_z-of_z}
use borrow.Author.Rules.{rules}
use Rattle.word.specs.Word.{signed_of}
use Rattle.word.proofs.Sizes.{fits, back}
use Rattle.word.proofs.Number.{size}
use Rattle.sum.specs.Floor.{floor}
use Rattle.sum.proofs.Machine.{size_product, size_scaled, size_total}
use Rattle.sum.proofs.Fraction.raised.Goals as goal

pub overflow_mul-number : goal.overflow_mul-number
overflow_mul-number c =
    let num : SFits w64 c.args.self.num = search rules in
    let p = signed_of c.args.scale *ℤ c.args.self.num in
    rw (back w64 _ c.number.ensures (size _ c.ranges.scale.fits) tt, to_z-of_z num)
    (fits w64 p (size_product _ c.args.offset c.ranges.scale.fits c.ranges.offset.fits _ c.args.self.bounded 0) tt)

pub overflow_add-result : goal.overflow_add-result
overflow_add-result c =
    let num : SFits w64 c.args.self.num = search rules in
    let p = signed_of c.args.scale *ℤ c.args.self.num in
    let q = floor p (256 * c.args.self.den) in
    let hs = c.ranges.scale.fits in
    let ho = c.ranges.offset.fits in
    let e : c.floor_div.result ≡ q = c.floor_div.ensures ∙ rw (back w64 _ c.number.ensures (size _ hs) tt, to_z-of_z num, back w64 p refl (size_product _ c.args.offset hs ho _ c.args.self.bounded 0) tt, c.from.ensures) in
    rw (back w64 q e (size_scaled _ c.args.offset hs ho _ c.args.self.bounded _) tt, back w64 _ c.number-2.ensures (size _ ho) tt)
    (fits w64 (q +ℤ signed_of c.args.offset) (size_total _ _ hs ho _ c.args.self.bounded _) tt)

pub returns : goal.returns
returns c =
    let num : SFits w64 c.args.self.num = search rules in
    let p = signed_of c.args.scale *ℤ c.args.self.num in
    let q = floor p (256 * c.args.self.den) in
    let hs = c.ranges.scale.fits in
    let ho = c.ranges.offset.fits in
    let e : c.floor_div.result ≡ q = c.floor_div.ensures ∙ rw (back w64 _ c.number.ensures (size _ hs) tt, to_z-of_z num, back w64 p refl (size_product _ c.args.offset hs ho _ c.args.self.bounded 0) tt, c.from.ensures) in
    rw (back w64 q e (size_scaled _ c.args.offset hs ho _ c.args.self.bounded _) tt, back w64 _ c.number-2.ensures (size _ ho) tt)
    (back w64 (q +ℤ signed_of c.args.offset) refl (size_total _ _ hs ho _ c.args.self.bounded _) tt)
