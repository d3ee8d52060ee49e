-- A table among lent words: 'table r, point n: its value V is at base + 128r + 2n, its time step Δt at the next address'.
use Rattle.std.specs.Prelude.{ℕ, zero, suc, ◌+◌, ◌*◌, Bool, ◌||◌, List, ◌==◌, nat_le, slice_index}

-- point n of the table whose first word is at `first`
abbrev pub value_at : List ℕ → ℕ → ℕ → ℕ
value_at words first n = slice_index words (first + 2 * n)

abbrev pub step_at : List ℕ → ℕ → ℕ → ℕ
step_at words first n = slice_index words (first + 2 * n + 1)

-- 'End: at a point with Δt 0, and at point 63 whatever its Δt'
abbrev pub is_end : ℕ → ℕ → Bool
is_end n step = nat_le 63 n || step == 0

-- the sum of the time steps before point n
unfoldable pub steps_before : List ℕ → ℕ → ℕ → ℕ
steps_before words first zero = 0
steps_before words first (suc n) = steps_before words first n + step_at words first n
