-- Demand 1 of a save. Assumes nothing.
use mathlib.Core.Path.{◌≡◌}
use mathlib.Core.List.{List, ◌++◌}
use Prim.Native.Nat.{ℕ, ◌+◌, ◌≤◌}
use native.Mathlib.Omega.{arith}
use lib.ListN.{length, drop}
use lib.Seq.{sets, sets-eq, take_at, drop_at, length-sets}
use Rattle.saved.specs.Saved.{save_of}
use Rattle.history.specs.Saves.{SaveAnswered}

-- a text laid at the front of a buffer that has room for it
front : (t o : List ℕ) → length t ≤ length o → sets o 0 t ≡ t ++ drop (length t) o
front t o h = let e : 0 + length t ≡ length t = omega arith in cc (sets-eq t o 0 (omega arith))

pub save_answered : (s o : List ℕ) → SaveAnswered s o (save_of s o)
unfolding save_of
save_answered s o = grind (arith, front, take_at, drop_at, length-sets)
