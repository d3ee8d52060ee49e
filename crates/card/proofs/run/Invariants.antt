-- `card::run`: what is left to do from here equals the whole.
use Rattle.std.proofs.Common.{◌-◌, ◌≡◌}
use Rattle.card.specs.Card.{state}
use Rattle.card.specs.Tick.{ticks}
use Rattle.card.proofs.run.Given as goal

abbrev pub invariant-loop : goal.invariant-loop
invariant-loop l = ticks l.waves (l.n - l.counter) (state l.card l.settings l.tables) ≡ ticks l.waves l.n (state l.initial.card l.settings l.initial.tables)
