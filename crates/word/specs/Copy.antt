-- Words copied from one list into another.
use Rattle.std.specs.Prelude.{ℕ, zero, suc, ◌+◌, List, slice_index, slice_set}

-- n words of s, from `from` on, stored in l from `to` on; past the end of s they are 0, past the end of l nothing is stored
unfoldable pub copied : ℕ → List ℕ → ℕ → List ℕ → ℕ → List ℕ
copied zero s from l to = l
copied (suc n) s from l to = slice_set (copied n s from l to) (to + n) (slice_index s (from + n))
