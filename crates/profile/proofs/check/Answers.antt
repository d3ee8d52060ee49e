-- `profile::check`: a channel that passes leaves those after it, one that breaks the profile decides, and at the end none is left.
use Rattle.std.proofs.lemmas.Result.{err_from_is_err_and}
use Rattle.profile.proofs.Search.{goes_on, stops, all_passed}
use Rattle.profile.proofs.check.Goals as goal

pub loop-c-preserved : goal.loop-c-preserved
loop-c-preserved c = λ ed. let l = c.loop-c in goes_on _ l.c 4 (l.invariant ed) c.loop-c-test.true (c.channel_verdict.ensures ed) c.in_ok-channel_verdict.was

pub returns-in_err-channel_verdict : goal.returns-in_err-channel_verdict
returns-in_err-channel_verdict c = λ ed.
    let l = c.loop-c in
    let p = err_from_is_err_and c.from_residual.result c.from_residual.ensures.1 in
    rw (p.1, p.2) (stops _ l.c 4 (l.invariant ed) c.loop-c-test.true (c.channel_verdict.ensures ed) c.in_err-channel_verdict.was)

pub returns : goal.returns
returns c = λ ed. let l = c.loop-c in all_passed _ l.c 4 (l.invariant ed) c.loop-c-test.false
