-- `sum::total`: at an end point, and along a segment.
use mathlib.Core.Path.{sym, ◌∙◌}
use Prim.Native.Nat.{◌<◌, ◌^◌}
use native.Mathlib.Nat.{le_trans}
use native.Mathlib.Omega.{arith}
use lib.Dec.{lit≤}
use mir.Syntax.{w64}
use borrow.Author.Rules.{rules}
use Rattle.word.specs.Word.{signed_of}
use Rattle.word.proofs.Sizes.{back, kept}
use Rattle.word.proofs.Number.{size}
use Rattle.sum.proofs.Samples.{at_whole}
use Rattle.sum.proofs.Machine.{size_above}
use Rattle.sum.proofs.total.Goals as goal

pub invariant_of-raised : goal.invariant_of-raised
invariant_of-raised c =
    let h = size _ c.ranges.from.fits in
    record { bounded = rw (back w64 _ c.number-num.ensures h tt) (le_trans h (lit≤ tt)); positive = lit≤ tt }

pub invariant_of-rounded : goal.invariant_of-rounded
invariant_of-rounded c =
    let s : c.args.step.0 < 2 ^ 16 = search rules in
    let l : c.args.left.0 < 2 ^ 16 = search rules in
    let h = size_above (record { from16 = c.ranges.from.fits; to16 = c.ranges.to.fits; step16 = s; left16 = l }) in
    record { bounded = rw (back w64 _ c.rise-num.ensures h tt) h; positive = omega arith }

pub returns-then-den-eq0 : goal.returns-then-den-eq0
returns-then-den-eq0 c =
    let a = c.args in
    kept w64 _ c.raised.type_inv ∙ c.raised.ensures
    ∙ rw (back w64 _ c.number-num.ensures (size _ c.ranges.from.fits) tt, c.if-den-eq0.true) (sym (at_whole a.edition (signed_of a.scale) (signed_of a.offset) (signed_of a.from)))
