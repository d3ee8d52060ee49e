-- `word::copy`: i words are copied.
use Rattle.std.proofs.Common.{◌≡◌, length}
use Rattle.word.specs.Copy.{copied}
use Rattle.word.proofs.copy.Given as goal

abbrev pub invariant-loop-i : goal.invariant-loop-i
invariant-loop-i l = (l.into ≡ copied l.i l.words l.from l.initial.into l.to) × (length l.into ≡ length l.initial.into)
