-- 'The map of words'.
use Rattle.std.specs.Prelude.{Bool, true, false, ◌&&◌, cond, List, [], ◌∷◌, ◌++◌, map, ℕ, ◌+◌, ◌-◌, ◌*◌, ◌/◌, ◌%◌, leb, ltb, eqb, get_or, Option, Some, None}
use Rattle.map.specs.declared.Access.{Access}
use Rattle.map.specs.declared.Access.TheVariants.{ReadWrite, Read, Write}
use Rattle.map.specs.declared.Region.{Region}
use Rattle.map.specs.declared.Setting.{Setting}
use Rattle.map.specs.declared.Setting.TheVariants as S
use Rattle.map.specs.declared.Field.TheVariants as F
use Rattle.map.specs.declared.Register.{Register}
use Rattle.map.specs.declared.Register.TheVariants as R
use Rattle.map.specs.Register.{is_mode}

-- ---- the columns of the table

-- 'Meaning' is by the channel and the offset in the region, 'Accepted values' by that offset and the value
pub record Row : Type 0 where
  pub region : Region
  pub meaning : ℕ → ℕ → Register
  pub accepted : ℕ → ℕ → Bool

abbrev row : ℕ → ℕ → (ℕ → ℕ → Register) → Access → (ℕ → ℕ → Bool) → Row
row f l m a v = record { region = record { first = f; last = l; access = a }; meaning = m; accepted = v }

-- a setting, of whose region the first `fixed` words are fixed
abbrev pub settings : ℕ → (ℕ → Setting) → ℕ → ℕ → Register
settings fixed s channel o = cond (ltb o fixed) (R.Fixed (s o)) (R.Setting (s o))

abbrev all : Setting → ℕ → Setting
all s o = s

-- table r, point n: V is at 128r + 2n, its time step at the next address
abbrev pub point : ℕ → Setting
point o = cond (eqb (o % 2) 0) S.Value S.Step

abbrev any : ℕ → ℕ → Bool
any o v = true

abbrev up_to : ℕ → ℕ → ℕ → Bool
up_to most o v = leb v most

abbrev none : ℕ → ℕ → Bool
none o v = false

-- ---- the table

-- a channel's rows, from its base
unfoldable pub channel_rows : List Row
channel_rows =
    row 0x000 0x7FF (settings 128 point) ReadWrite any
    ∷ row 0x800 0x81F (settings 0 (all S.RampMap)) ReadWrite (up_to 15)
    ∷ row 0x840 0x85F (settings 0 (all S.ScaleMap)) ReadWrite (up_to 31)
    ∷ row 0x860 0x87F (settings 1 (all S.Scale)) ReadWrite any
    ∷ row 0x880 0x89F (settings 0 (all S.OffsetMap)) ReadWrite (up_to 31)
    ∷ row 0x8A0 0x8BF (settings 1 (all S.Offset)) ReadWrite any
    ∷ row 0x8E0 0x8FF (settings 0 (all S.Delay)) ReadWrite any
    ∷ row 0x900 0x91F (settings 0 (all S.FrequencyMap)) ReadWrite (up_to 31)
    ∷ row 0x920 0x93F (settings 0 (all S.Frequency)) ReadWrite any
    ∷ row 0x940 0x95F (settings 0 (all S.PhaseMap)) ReadWrite (up_to 31)
    ∷ row 0x960 0x97F (settings 0 (all S.Phase)) ReadWrite any
    ∷ row 0xA00 0xA00 (settings 0 (all S.WaveformEnable)) ReadWrite (up_to 1)
    ∷ row 0xA01 0xA01 (settings 0 (all S.WaveformMode)) ReadWrite (λ o v. is_mode v)
    ∷ row 0xA04 0xA04 (λ c o. R.Output c) ReadWrite any
    ∷ row 0xA30 0xA30 (λ c o. R.Status c F.Table) Read none
    ∷ row 0xA31 0xA31 (λ c o. R.Status c F.Scale) Read none
    ∷ row 0xA32 0xA32 (λ c o. R.Status c F.Offset) Read none
    ∷ row 0xA33 0xA33 (λ c o. R.Status c F.Segment) Read none
    ∷ row 0xA34 0xA34 (λ c o. R.Status c F.Left) Read none
    ∷ row 0xA39 0xA39 (λ c o. R.Overflow c) ReadWrite any
    ∷ []

-- the card's own; level L, slot s is 0x4000 + 8L + s
unfoldable pub card_rows : List Row
card_rows =
    row 0x4000 0x40FF (λ c o. R.Slot (o / 8)) ReadWrite (up_to 0xFF)
    ∷ row 0x4100 0x41FF (λ c o. R.Image o) Read none
    ∷ row 0x4200 0x4200 (settings 0 (all S.ClockEnable)) ReadWrite (up_to 1)
    ∷ row 0x4201 0x4201 (λ c o. R.Erase) Write (up_to 1)
    ∷ row 0x4202 0x4202 (λ c o. R.Manual) Write (up_to 31)
    ∷ row 0x4210 0x4210 (λ c o. R.ActiveLevel) Read none
    ∷ row 0x4211 0x4211 (λ c o. R.ActiveEvent) Read none
    ∷ row 0x4220 0x423F (λ c o. R.Count o) ReadWrite any
    ∷ []

-- channel c has base c × 0x1000
abbrev pub base : ℕ → ℕ
base c = c * 0x1000

abbrev pub raised : ℕ → Row → Row
raised b r =
    record {
      region = record { first = b + r.region.first; last = b + r.region.last; access = r.region.access };
      meaning = r.meaning;
      accepted = r.accepted;
    }

unfoldable pub block : ℕ → List Row
block c = map (raised (base c)) channel_rows

-- every row for every channel, and the card's own; nothing else
unfoldable pub regions : List Row
regions = block 0 ++ (block 1 ++ (block 2 ++ (block 3 ++ card_rows)))

-- ---- the row that an address belongs to

abbrev pub holds : Region → ℕ → Bool
holds r a = leb r.first a && leb a r.last

pub data Hit : Type 0 where
  hit : Row → Hit
  miss : Hit

unfoldable pub scan : List Row → ℕ → Hit
scan [] a = miss
scan (r ∷ rs) a = cond (holds r.region a) (hit r) (scan rs a)

-- the region of an address, or none
abbrev pub found_in : Hit → Option Region
found_in (hit r) = Some r.region
found_in miss = None

abbrev pub region_of : ℕ → Option Region
region_of a = found_in (scan regions a)

-- what its word is: 'any address not listed belongs to no region'
abbrev pub named_in : Hit → ℕ → ℕ → Register
named_in (hit r) c a = r.meaning c (a - r.region.first)
named_in miss c a = R.Unlisted

abbrev pub register_of : ℕ → Register
register_of a = named_in (scan regions a) (a / 0x1000) a

-- the values that it accepts
abbrev pub accepted_in : Hit → ℕ → ℕ → Bool
accepted_in (hit r) a v = r.accepted (a - r.region.first) v
accepted_in miss a v = false

abbrev pub accepted_at : ℕ → ℕ → Bool
accepted_at a v = accepted_in (scan regions a) a v

-- row k
abbrev pub no_row : Row
no_row = row 0 0 (λ c o. R.Unlisted) ReadWrite none

unfoldable pub row_of : ℕ → Row
row_of k = get_or regions k no_row

-- an address is in a region, and its word has a name: the same addresses (proofs/Listed)
abbrev pub in_region : Option Region → Bool
in_region (Some r) = true
in_region None = false

abbrev pub named : Register → Bool
named (R.Setting s) = true
named (R.Fixed s) = true
named (R.Output c) = true
named (R.Status c f) = true
named (R.Overflow c) = true
named (R.Slot l) = true
named (R.Image e) = true
named R.Erase = true
named R.Manual = true
named R.ActiveLevel = true
named R.ActiveEvent = true
named (R.Count l) = true
named R.Unlisted = false
