-- `profile::channel_verdict`: the levels that are left to look at decide.
use Rattle.std.proofs.Common.{◌-◌, ◌≡◌}
use Rattle.sum.specs.declared.Edition.{Edition}
use Rattle.profile.specs.Profile.{first_from, level_verdict, channel_verdict}
use Rattle.profile.proofs.channel_verdict.Given as goal

abbrev pub invariant-loop-level : goal.invariant-loop-level
invariant-loop-level l =
    (ed : Edition) → channel_verdict ed l.settings l.c ≡ first_from (level_verdict ed l.settings l.c) l.level (32 - l.level)
