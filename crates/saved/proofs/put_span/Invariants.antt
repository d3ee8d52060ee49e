-- `saved::put_span`: the frames before frame j stand in the buffer.
use Rattle.std.proofs.Common.{length, ◌+◌, ◌*◌, ◌≡◌, ◌≤◌}
use Rattle.saved.specs.Saved.{cut, text_of, Laid}
use Rattle.saved.proofs.put_span.Given as goal

abbrev pub invariant-loop-j : goal.invariant-loop-j
invariant-loop-j l =
    Laid (text_of l.settings (cut l.x 0 l.j)) l.at l.initial.out l.out l.end × (l.end ≤ l.at + 263 * l.j) × (length l.out ≡ length l.initial.out)
