-- `card::strike`: one channel more, and all four.
use Rattle.std.proofs.Common.{rules, arith}
use Rattle.card.proofs.All.{none, more, all_four}
use Rattle.card.proofs.strike.Goals as goal

pub loop-c-init : goal.loop-c-init
loop-c-init c = none _ _ _

pub loop-c-preserved : goal.loop-c-preserved
loop-c-preserved c = more _ _ _ _ c.loop-c.invariant (record { channel = c.trigger.ensures.0; tables = c.trigger.ensures.1 })

pub returns : goal.returns
returns c = all_four _ _ _ (search rules) (omega arith) c.loop-c.invariant
