-- `profile::first_out`: a point out of range, the ramp's end, a point more, and no point left.
use mathlib.Core.Path.{◌≡◌, sym, ◌∙◌}
use native.Mathlib.Omega.{arith}
use Rattle.map.specs.Addresses.{table_at}
use Rattle.profile.specs.Points.{out_from}
use Rattle.profile.proofs.Points.{here, end_here, not_here}
use Rattle.profile.proofs.first_out.Goals as goal

pub returns-then-is_none : goal.returns-then-is_none
returns-then-is_none c =
    let a = c.args in
    let v = rw (c.from.ensures, c.from-2.ensures, c.from-in-loop-n.ensures) at c.get.ensures in
    sym (here a.settings.now (table_at a.c a.loaded.table) a.loaded c.loop-n.n c.loop-n-test.true v c.own_sum.ensures c.if-is_none.ensures) ∙ c.loop-n.invariant

pub returns-then-ends : goal.returns-then-ends
returns-then-ends c =
    let a = c.args in
    let v = rw (c.from.ensures, c.from-2.ensures, c.from-in-loop-n.ensures) at c.get.ensures in
    let d = rw (c.from.ensures, c.from-2.ensures, c.from-in-loop-n.ensures) at c.get-in-loop-n.ensures in
    let e = rw c.from-in-loop-n-2.ensures at c.ends.ensures in
    sym (end_here a.settings.now (table_at a.c a.loaded.table) a.loaded c.loop-n.n c.loop-n-test.true v c.own_sum.ensures c.if-is_none.ensures d e c.if-ends.true)
    ∙ c.loop-n.invariant

pub loop-n-preserved : goal.loop-n-preserved
loop-n-preserved c =
    let a = c.args in
    let v = rw (c.from.ensures, c.from-2.ensures, c.from-in-loop-n.ensures) at c.get.ensures in
    let d = rw (c.from.ensures, c.from-2.ensures, c.from-in-loop-n.ensures) at c.get-in-loop-n.ensures in
    let e = rw c.from-in-loop-n-2.ensures at c.ends.ensures in
    sym (not_here a.settings.now (table_at a.c a.loaded.table) a.loaded c.loop-n.n c.loop-n-test.true v c.own_sum.ensures c.if-is_none.ensures d e c.if-ends.false)
    ∙ c.loop-n.invariant

pub returns : goal.returns
unfolding out_from
returns c =
    let l = c.loop-n in
    let e : l.n ≡ 64 = omega arith in
    rw e at l.invariant
