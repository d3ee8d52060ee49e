-- `card::reset_settings`: the channels so far have their scale factors.
use Rattle.std.proofs.Common.{◌≡◌}
use Rattle.card.proofs.Resets.{scaled}
use Rattle.card.proofs.reset_settings.Given as goal

abbrev pub invariant-loop-c : goal.invariant-loop-c
invariant-loop-c l = l.settings ≡ scaled l.c l.initial.settings
