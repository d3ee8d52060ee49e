-- `bench::Session::serve_chunk`: there is room for one more answer.
use Rattle.std.proofs.Common.{◌≤◌}
use Rattle.bench.specs.Room.{last_room}
use Rattle.bench.proofs.Session.serve_chunk.Given as goal

abbrev pub invariant-loop-byte : goal.invariant-loop-byte
invariant-loop-byte l = l.end ≤ last_room
