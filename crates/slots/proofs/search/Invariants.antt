-- `slots::search`: the search from slot n on has the answer of the whole search.
use Rattle.std.proofs.Common.{unwrap_or, ◌-◌, ◌≡◌}
use Rattle.slots.specs.Slots.{holder_from}
use Rattle.slots.proofs.search.Given as goal

abbrev pub invariant-loop-n : goal.invariant-loop-n
invariant-loop-n l = holder_from l.words l.event (unwrap_or l.but 32) (256 - l.n) l.n ≡ holder_from l.words l.event (unwrap_or l.but 32) 256 0
