-- The room that an answer takes.
use Rattle.std.specs.Prelude.{ℕ, ◌+◌, ◌-◌, ◌*◌, ◌≤◌}

-- the longest: 92, number, processed, address, and 4,096 words, four digits each
abbrev pub longest : ℕ
longest = 12 + 4 * 4096

-- an answer that ends there is no longer
abbrev pub Short : ℕ → Type 0
Short end = end ≤ longest

-- the last place of the 65,536 from which there is room for it and its LF
abbrev pub last_room : ℕ
last_room = 65536 - (longest + 1)
