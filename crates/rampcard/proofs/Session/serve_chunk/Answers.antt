-- `rampcard::Session::serve_chunk`: each call takes the bytes that `Turns` says, and some while any are left.
use Rattle.std.proofs.Common.{length, refl, ◌<◌, ◌≤◌, arith, rules, tests}
use Rattle.std.proofs.lemmas.Result.{IfOk-from_err}
use Rattle.rampcard.proofs.Turns.{all_left, turn_most, turn_some, turn_length, turn_left}
use Rattle.rampcard.proofs.Session.serve_chunk.Goals as goal

pub loop-rest-init : goal.loop-rest-init
loop-rest-init c = all_left _ _ _ _ _ _ _

pub slice_bounds-rest-count : goal.slice_bounds-rest-count
slice_bounds-rest-count c = turn_most c.loop-rest.invariant c.feed-s.ensures

pub slice_bounds-rest-start : goal.slice_bounds-rest-start
slice_bounds-rest-start c = turn_most c.loop-rest.invariant c.feed-s.ensures

pub loop-rest-smaller : goal.loop-rest-smaller
loop-rest-smaller c =
    let z : 0 < length c.loop-rest.rest.now = search (rules, tests) in
    let room : 265 ≤ length c.loop-rest.self.out = omega arith in
    let n = turn_some c.loop-rest.invariant c.feed-s.ensures z room in
    omega (arith, turn_length c.loop-rest.invariant c.feed-s.ensures refl)

pub loop-rest-preserved : goal.loop-rest-preserved
loop-rest-preserved c = turn_left c.loop-rest.invariant c.feed-s.ensures refl

pub returns-in_err-write_answers-clause-served : goal.returns-in_err-write_answers-clause-served
returns-in_err-write_answers-clause-served c =
    record {
      taken = _;
      takes = (turn_left c.loop-rest.invariant c.feed-s.ensures refl).taken;
      whole = IfOk-from_err c.from_residual.result _ c.from_residual.ensures.0;
    }

pub returns-clause-served : goal.returns-clause-served
returns-clause-served c =
    record { taken = _; takes = c.loop-rest.invariant.taken; whole = search (rules, tests) }
