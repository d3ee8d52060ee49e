-- `rampcard::Session::serve_chunk`: the bytes before what is left are taken. The measure is what is left of the chunk, and each call takes some of it.
use Rattle.std.proofs.Common.{length}
use Rattle.line.specs.Session.{opened}
use Rattle.rampcard.proofs.Turns.{Left}
use Rattle.rampcard.proofs.Session.serve_chunk.Given as goal

abbrev pub invariant-loop-rest : goal.invariant-loop-rest
invariant-loop-rest l =
    let k = l.initial.self in
    Left k.waves (opened k.card k.settings k.tables k.line k.held) l.chunk l.rest l.self.waves l.self.settings l.self.tables l.self.line l.self.card l.self.held

abbrev pub decreases-loop-rest : goal.decreases-loop-rest
decreases-loop-rest l = length l.rest
