-- `saved::save`: the spans before span k stand in the buffer.
use Rattle.std.proofs.Common.{length, take, ◌*◌, ◌≡◌, ◌≤◌}
use Rattle.saved.specs.Saved.{spans, frames_of, text_of, Laid}
use Rattle.saved.proofs.save.Given as goal

abbrev pub invariant-loop-k : goal.invariant-loop-k
invariant-loop-k l = Laid (text_of l.settings (frames_of (take l.k spans))) 0 l.initial.out l.out l.at × (l.at ≤ 7890 * l.k) × (length l.out ≡ length l.initial.out)
