-- `profile::check`: the channels that are left to look at decide.
use Rattle.std.proofs.Common.{◌-◌, ◌≡◌}
use Rattle.sum.specs.declared.Edition.{Edition}
use Rattle.profile.specs.Profile.{first_from, channel_verdict, verdict_of}
use Rattle.profile.proofs.check.Given as goal

abbrev pub invariant-loop-c : goal.invariant-loop-c
invariant-loop-c l = (ed : Edition) → verdict_of ed l.settings ≡ first_from (channel_verdict ed l.settings) l.c (4 - l.c)
