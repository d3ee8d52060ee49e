-- `profile::first_out`: the walk from point n on has the answer of the whole walk.
use Rattle.std.proofs.Common.{◌-◌, ◌≡◌}
use Rattle.map.specs.Addresses.{table_at}
use Rattle.profile.specs.Points.{out_from}
use Rattle.profile.proofs.first_out.Given as goal

abbrev pub invariant-loop-n : goal.invariant-loop-n
invariant-loop-n l =
    let first = table_at l.c l.loaded.table in
    out_from l.settings first l.loaded (64 - l.n) l.n ≡ out_from l.settings first l.loaded 64 0
