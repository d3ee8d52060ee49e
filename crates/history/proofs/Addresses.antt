-- Where each register is: a rule of every row, and the rows of the words that theorems name by their address. Assumes nothing.
use mathlib.Core.Path.{◌≡◌, refl, sym, ap, ◌∙◌}
use mathlib.Core.Bool.{Bool, true, false}
use mathlib.Core.List.{List}
use Prim.Native.Nat.{ℕ, ◌+◌, ◌-◌, ◌/◌, ◌%◌, ◌≤◌, ◌<◌}
use native.Mathlib.Omega.{arith}
use lib.Dec.{ltb}
use lib.ListN.{length, get_or}
use borrow.Author.Tests.{ltb-true, ltb-false}
use Rattle.map.specs.declared.Setting.{Setting}
use Rattle.map.specs.declared.Setting.TheVariants as S
use Rattle.map.specs.declared.Field.TheVariants as F
use Rattle.map.specs.declared.Register.{Register}
use Rattle.map.specs.declared.Register.TheVariants as R
use Rattle.map.specs.Map.{Row, Hit, hit, miss, scan, channel_rows, card_rows, base, settings, point, no_row, named_in, register_of}
use Rattle.map.proofs.Rows.{All, hits, scan_all, in_row_k}
use Rattle.map.proofs.Blocks.{channel_ordered, card_ordered, in_card, channel_register}

-- register r may be at address a
abbrev pub Sits : Register → ℕ → Type 0
Sits (R.Setting s) a = Unit
Sits (R.Fixed s) a = Unit
Sits (R.Output c) a = (c < 4) × (a ≡ base c + 0xA04)
Sits (R.Status c f) a = Unit
Sits (R.Overflow c) a = (c < 4) × (a ≡ base c + 0xA39)
Sits (R.Slot l) a = (0x4000 ≤ a) × (a < 0x4100)
Sits (R.Image e) a = Unit
Sits R.Erase a = a ≡ 0x4201
Sits R.Manual a = a ≡ 0x4202
Sits R.ActiveLevel a = Unit
Sits R.ActiveEvent a = Unit
Sits (R.Count l) a = (l < 32) × (a ≡ 0x4220 + l)
Sits R.Unlisted a = Unit

-- of a row that is raised by b for channel c
abbrev SitsBy : (ℕ → ℕ) → (ℕ → Type 0) → Row → Type 0
SitsBy b In r = (c o : ℕ) → In c → r.region.first + o ≤ r.region.last → Sits (r.meaning c o) (b c + (r.region.first + o))

setting : (fixed : ℕ) (s : ℕ → Setting) (c o a : ℕ) → Sits (settings fixed s c o) a
setting fixed s c o a = grind arith

channel_sits : All (SitsBy base (λ c. c < 4)) channel_rows
unfolding channel_rows
channel_sits = (
  (λ c o i f. setting 128 (point) c o (base c + (0x000 + o))),
  ((λ c o i f. setting 0 (λ n. S.RampMap) c o (base c + (0x800 + o))), ((λ c o i f. setting 0 (λ n. S.ScaleMap) c o (base c + (0x840 + o))), ((λ c o i f. setting 1 (λ n. S.Scale) c o (base c + (0x860 + o))), ((λ c o i f. setting 0 (λ n. S.OffsetMap) c o (base c + (0x880 + o))), ((λ c o i f. setting 1 (λ n. S.Offset) c o (base c + (0x8A0 + o))), ((λ c o i f. setting 0 (λ n. S.Delay) c o (base c + (0x8E0 + o))), ((λ c o i f. setting 0 (λ n. S.FrequencyMap) c o (base c + (0x900 + o))), ((λ c o i f. setting 0 (λ n. S.Frequency) c o (base c + (0x920 + o))), ((λ c o i f. setting 0 (λ n. S.PhaseMap) c o (base c + (0x940 + o))), ((λ c o i f. setting 0 (λ n. S.Phase) c o (base c + (0x960 + o))), ((λ c o i f. setting 0 (λ n. S.WaveformEnable) c o (base c + (0xA00 + o))), ((λ c o i f. setting 0 (λ n. S.WaveformMode) c o (base c + (0xA01 + o))), ((λ c o i f. (i, omega arith)), ((λ c o i f. tt), ((λ c o i f. tt), ((λ c o i f. tt), ((λ c o i f. tt), ((λ c o i f. tt), ((λ c o i f. (i, omega arith)), tt))))))))))))))))))),
)

card_sits : All (SitsBy (λ c. 0) (λ c. Unit)) card_rows
unfolding card_rows
card_sits = (
  (λ c o i f. (omega arith, omega arith)),
  ((λ c o i f. tt), ((λ c o i f. setting 0 (λ n. S.ClockEnable) c o (0 + (0x4200 + o))), ((λ c o i f. omega arith), ((λ c o i f. omega arith), ((λ c o i f. tt), ((λ c o i f. tt), ((λ c o i f. (omega arith, omega arith)), tt))))))),
)

-- the register of an offset in rows that are raised
row_sits : (b : ℕ → ℕ) (In : ℕ → Type 0) (l : List Row) → All (SitsBy b In) l → (h : Hit) (c x : ℕ) → In c → scan l x ≡ h → Sits (named_in h c x) (b c + x)
row_sits b In l p (hit r) c x i e = grind (arith, hits, scan_all)
row_sits b In l p miss c x i e = tt

-- EVERY REGISTER IS AT ITS ADDRESS
pub sits : (a : ℕ) → Sits (register_of a) a
sits a = go (ltb a 0x4000) refl
  where
    go : (x : Bool) → ltb a 0x4000 ≡ x → Sits (register_of a) a
    go true e =
        let h = ltb-true a 0x4000 e in
        let d : base (a / 0x1000) + a % 0x1000 ≡ a = omega arith in
        rw (channel_register a h) (rw d at (row_sits base (λ c. c < 4) channel_rows channel_sits (scan channel_rows (a % 0x1000)) (a / 0x1000) (a % 0x1000) (omega arith) refl))
    go false e =
        let h = ltb-false a 0x4000 e in
        let d : 0 + a ≡ a = omega arith in
        rw (in_card a h) (rw d at (row_sits (λ c. 0) (λ c. Unit) card_rows card_sits (scan card_rows a) (a / 0x1000) a tt refl))

-- ---- the register of an address, by its row

-- row k of a channel's rows, at offset o
pub channel_row : (c o k : ℕ) → c < 4 → o < 0x1000 → k < length channel_rows → (get_or channel_rows k no_row).region.first ≤ o → o ≤ (get_or channel_rows k no_row).region.last
    → register_of (base c + o) ≡ (get_or channel_rows k no_row).meaning c (o - (get_or channel_rows k no_row).region.first)
channel_row c o k h l n f g =
    let d : (base c + o) / 0x1000 ≡ c = omega arith in
    let m : (base c + o) % 0x1000 ≡ o = omega arith in
    rw (channel_register (base c + o) (omega arith), d, m) (sym (in_row_k c channel_rows channel_ordered k o n f g))

-- row k of the card's own
card_row : (a k : ℕ) → 0x4000 ≤ a → k < length card_rows → (get_or card_rows k no_row).region.first ≤ a → a ≤ (get_or card_rows k no_row).region.last
    → register_of a ≡ (get_or card_rows k no_row).meaning (a / 0x1000) (a - (get_or card_rows k no_row).region.first)
card_row a k h n f g = rw (in_card a h) (sym (in_row_k (a / 0x1000) card_rows card_ordered k a n f g))

module _ (c : ℕ) (inside : c < 4) where
  pub output_register : register_of (base c + 0xA04) ≡ R.Output c
  unfolding channel_rows
  output_register = channel_row c 0xA04 13 inside (omega arith) (omega arith) (omega arith) (omega arith)

  pub table_register : register_of (base c + 0xA30) ≡ R.Status c F.Table
  unfolding channel_rows
  table_register = channel_row c 0xA30 14 inside (omega arith) (omega arith) (omega arith) (omega arith)

  pub scale_register : register_of (base c + 0xA31) ≡ R.Status c F.Scale
  unfolding channel_rows
  scale_register = channel_row c 0xA31 15 inside (omega arith) (omega arith) (omega arith) (omega arith)

  pub offset_register : register_of (base c + 0xA32) ≡ R.Status c F.Offset
  unfolding channel_rows
  offset_register = channel_row c 0xA32 16 inside (omega arith) (omega arith) (omega arith) (omega arith)

  pub segment_register : register_of (base c + 0xA33) ≡ R.Status c F.Segment
  unfolding channel_rows
  segment_register = channel_row c 0xA33 17 inside (omega arith) (omega arith) (omega arith) (omega arith)

  pub left_register : register_of (base c + 0xA34) ≡ R.Status c F.Left
  unfolding channel_rows
  left_register = channel_row c 0xA34 18 inside (omega arith) (omega arith) (omega arith) (omega arith)

  pub overflow_register : register_of (base c + 0xA39) ≡ R.Overflow c
  unfolding channel_rows
  overflow_register = channel_row c 0xA39 19 inside (omega arith) (omega arith) (omega arith) (omega arith)

-- a slot's register names its level
pub slot_register : (a : ℕ) → 0x4000 ≤ a → a < 0x4100 → register_of a ≡ R.Slot ((a - 0x4000) / 8)
unfolding card_rows
slot_register a f g = card_row a 0 f (omega arith) f (omega arith)

pub image_register : (e : ℕ) → e < 256 → register_of (0x4100 + e) ≡ R.Image e
unfolding card_rows
image_register e h =
    let d : 0x4100 + e - 0x4100 ≡ e = omega arith in
    card_row (0x4100 + e) 1 (omega arith) (omega arith) (omega arith) (omega arith) ∙ ap R.Image d

pub clock_register : register_of 0x4200 ≡ R.Setting S.ClockEnable
unfolding card_rows
clock_register = card_row 0x4200 2 (omega arith) (omega arith) (omega arith) (omega arith)

pub erase_register : register_of 0x4201 ≡ R.Erase
unfolding card_rows
erase_register = card_row 0x4201 3 (omega arith) (omega arith) (omega arith) (omega arith)

pub manual_register : register_of 0x4202 ≡ R.Manual
unfolding card_rows
manual_register = card_row 0x4202 4 (omega arith) (omega arith) (omega arith) (omega arith)

pub level_register : register_of 0x4210 ≡ R.ActiveLevel
unfolding card_rows
level_register = card_row 0x4210 5 (omega arith) (omega arith) (omega arith) (omega arith)

pub event_register : register_of 0x4211 ≡ R.ActiveEvent
unfolding card_rows
event_register = card_row 0x4211 6 (omega arith) (omega arith) (omega arith) (omega arith)

pub count_register : (level : ℕ) → level < 32 → register_of (0x4220 + level) ≡ R.Count level
unfolding card_rows
count_register level h =
    let d : 0x4220 + level - 0x4220 ≡ level = omega arith in
    card_row (0x4220 + level) 7 (omega arith) (omega arith) (omega arith) (omega arith) ∙ ap R.Count d
