-- `save::Session::play`: the wave tables are those that the call finds.
use Rattle.std.proofs.Common.{◌≡◌}
use Rattle.save.proofs.Session.play.Given as goal

abbrev pub invariant-loop-byte : goal.invariant-loop-byte
invariant-loop-byte l = l.self.waves ≡ l.initial.self.waves
