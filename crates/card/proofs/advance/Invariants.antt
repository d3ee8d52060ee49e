-- `card::advance`: the channels so far, each a whole tick over the tables that the one before left.
use Rattle.channel.specs.Channel.{tick_of}
use Rattle.card.proofs.All.{Done}
use Rattle.card.proofs.advance.Given as goal

abbrev pub invariant-loop-c : goal.invariant-loop-c
invariant-loop-c l = Done (λ c t ch. tick_of l.initial.card.edition l.settings l.waves t c ch) l.initial.card l.initial.tables l.card l.tables l.c
