-- `profile::level_verdict`: points up to the ramp's end decide.
use Rattle.profile.proofs.Points.{walked}
use Rattle.profile.proofs.level_verdict.Goals as goal

pub returns-in-None : goal.returns-in-None
returns-in-None c = λ ed. walked ed c.args.settings.now c.args.c c.args.level c.settings_for-loaded.ensures c.first_out.ensures _ c.in-None.is

pub returns-in-Some : goal.returns-in-Some
returns-in-Some c = λ ed. walked ed c.args.settings.now c.args.c c.args.level c.settings_for-loaded.ensures c.first_out.ensures _ c.in-Some.is
