-- Document 02, Three: 'Keep the rows once and work the channel out from the address.'
use Rattle.std.specs.Prelude.{cond, List, ◌++◌, ℕ, ◌+◌, ◌-◌, ◌/◌, ltb, Option, Some, None}
use Rattle.map.specs.Map.{Row, channel_rows, card_rows, base, scan, found_in}
use Rattle.map.specs.declared.Region.{Region}

-- a channel's rows once, and the card's own
unfoldable pub once : List Row
once = channel_rows ++ card_rows

-- the base that an address is counted from: its channel's; the card's own rows are counted from 0
abbrev pub base_of : ℕ → ℕ
base_of a = cond (ltb a 0x4000) (base (a / 0x1000)) 0

-- a region, raised to a base
abbrev pub raised_to : ℕ → Option Region → Option Region
raised_to b (Some r) = Some (record { first = b + r.first; last = b + r.last; access = r.access })
raised_to b None = None

-- the region of an address: of the row that holds its offset from the base. It is the map's, at every address (proofs/Once)
abbrev pub region_once : ℕ → Option Region
region_once a = raised_to (base_of a) (found_in (scan once (a - base_of a)))
