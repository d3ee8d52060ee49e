-- `card::strike`: the channels so far, each over the tables that the one before left.
use Rattle.channel.specs.Channel.{triggered}
use Rattle.card.proofs.All.{Done}
use Rattle.card.proofs.strike.Given as goal

abbrev pub invariant-loop-c : goal.invariant-loop-c
invariant-loop-c l = Done (λ c t ch. triggered l.settings t c ch l.level) l.initial.card l.initial.tables l.card l.tables l.c
