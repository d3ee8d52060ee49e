-- `line::feed`: the bytes before place i are fed, their answers stand in the buffer, and what is taken of the chunk is i and what is taken from there.
use Rattle.std.proofs.Common.{◌≡◌, ◌≤◌, ◌+◌, length, take, drop}
use Rattle.line.specs.Session.{opened, feed_of, taken_of, Feeds}
use Rattle.line.proofs.feed.Given as goal

abbrev pub invariant-loop-i : goal.invariant-loop-i
invariant-loop-i l =
    let t = opened l.initial.at.card l.initial.settings l.initial.tables l.initial.line l.held in
    let u = feed_of l.waves t (take l.i l.chunk) in
    Feeds u 0 l.initial.out l.out l.settings l.tables l.line l.at.card l.at.held l.at.end
    × (l.at.end ≤ length l.initial.out)
    × (length l.out ≡ length l.initial.out)
    × (taken_of l.waves (length l.initial.out) t l.chunk ≡ l.i + taken_of l.waves (length l.initial.out) u (drop l.i l.chunk))
