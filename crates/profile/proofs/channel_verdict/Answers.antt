-- `profile::channel_verdict`: a level that passes leaves those after it, one that breaks the profile decides, and at the end none is left.
use Rattle.std.proofs.lemmas.Result.{err_from_is_err_and}
use Rattle.profile.proofs.Search.{goes_on, stops, all_passed}
use Rattle.profile.proofs.channel_verdict.Goals as goal

pub loop-level-preserved : goal.loop-level-preserved
loop-level-preserved c = λ ed. let l = c.loop-level in goes_on _ l.level 32 (l.invariant ed) c.loop-level-test.true (c.level_verdict.ensures ed) c.in_ok-level_verdict.was

pub returns-in_err-level_verdict : goal.returns-in_err-level_verdict
returns-in_err-level_verdict c = λ ed.
    let l = c.loop-level in
    let p = err_from_is_err_and c.from_residual.result c.from_residual.ensures.1 in
    rw (p.1, p.2) (stops _ l.level 32 (l.invariant ed) c.loop-level-test.true (c.level_verdict.ensures ed) c.in_err-level_verdict.was)

pub returns : goal.returns
returns c = λ ed. let l = c.loop-level in all_passed _ l.level 32 (l.invariant ed) c.loop-level-test.false
