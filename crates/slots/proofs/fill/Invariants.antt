-- `slots::fill`: the words before place i of the run are stored.
use Rattle.std.proofs.Common.{◌≡◌, length}
use Rattle.slots.specs.Slots.{filled}
use Rattle.slots.proofs.fill.Given as goal

abbrev pub invariant-loop-i : goal.invariant-loop-i
invariant-loop-i l = (l.words ≡ filled l.i l.initial.words l.first l.word) × (length l.words ≡ length l.initial.words)
