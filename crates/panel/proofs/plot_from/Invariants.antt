-- `panel::plot_from`: up to point n the ramp goes on, and the microseconds are those of the steps passed.
use Rattle.std.proofs.Common.{◌≡◌, ◌≤◌, ◌*◌, true}
use Rattle.panel.specs.Plots.{reached, since}
use Rattle.panel.proofs.plot_from.Given as goal

abbrev pub invariant-loop-n : goal.invariant-loop-n
invariant-loop-n l = (l.micros ≡ since l.words l.first l.n) × (l.micros ≤ 655350 * l.n) × (reached l.words l.first l.n ≡ true)
