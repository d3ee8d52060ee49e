-- NO ANSWER CHANGES FOR ANY ADDRESS: the rows kept once give the region that the whole map gives. Assumes nothing.
use mathlib.Core.Path.{◌≡◌, refl, sym, ap, ◌∙◌}
use mathlib.Core.Bool.{Bool, true, false, not, cond}
use Prim.Native.Nat.{ℕ, ◌+◌, ◌-◌, ◌/◌, ◌%◌, ◌≤◌, ◌<◌}
use native.Mathlib.Omega.{arith}
use lib.Dec.{T, ltb, ltb→lt, nltb→le}
use lib.ListN.{length}
use Rattle.map.specs.Map.{Hit, hit, miss, channel_rows, card_rows, base, regions, scan, found_in, region_of}
use Rattle.map.proofs.Rows.{ordered, nowhere}
use Rattle.map.proofs.Order.{short, scan_past, order_earlier, order_append}
use Rattle.map.proofs.Blocks.{raise, or_miss, scan_append, channel_ordered, channel_short, card_high, in_channel, in_card}
use Rattle.regions.specs.Once.{once, base_of, raised_to, region_once}

-- the rows are in order: a channel's, which end within its block, then the card's, which begin past every block
pub once_ordered : T (ordered 0 once)
unfolding once
once_ordered = order_append 0 0x1000 channel_rows card_rows (omega arith) channel_ordered channel_short card_low
  where
    card_low : T (ordered 0x1000 card_rows)
    card_low = order_earlier 0x4000 0x1000 card_rows (omega arith) card_high

pub once_short : T (short 0x4240 once)
unfolding once channel_rows card_rows
once_short = tt

pub once_count : length once ≡ 28
unfolding once channel_rows card_rows
once_count = refl

-- the base that an address is counted from is a channel's, and not past the address
pub base_within : (a : ℕ) → (base_of a < 0x4000) × (base_of a ≤ a)
base_within a = by (ltb a 0x4000) (ltb→lt a 0x4000)
  where
    by : (t : Bool) → (T t → a < 0x4000) → (cond t (base (a / 0x1000)) 0 < 0x4000) × (cond t (base (a / 0x1000)) 0 ≤ a)
    by true f = let h = f tt in (omega arith, omega arith)
    by false f = (omega arith, omega arith)

-- an offset in a block is looked for among the channel's rows, an address past the blocks among the card's
low : (o : ℕ) → o < 0x1000 → scan once o ≡ scan channel_rows o
unfolding once
low o h = scan_append channel_rows card_rows o ∙ rw (nowhere 0x4000 card_rows card_high o (omega arith)) (or_miss (scan channel_rows o))

high : (a : ℕ) → 0x4000 ≤ a → scan once a ≡ scan card_rows a
unfolding once
high a h = scan_append channel_rows card_rows a ∙ rw (scan_past 0x1000 channel_rows a channel_short (omega arith)) refl

raise_none : (h : Hit) → raise 0 h ≡ h
raise_none (hit r) = rw (zero r.region.first, zero r.region.last) refl
  where
    zero : (n : ℕ) → 0 + n ≡ n
    zero n = omega arith
raise_none miss = refl

found_raised : (b : ℕ) (h : Hit) → raised_to b (found_in h) ≡ found_in (raise b h)
found_raised b (hit r) = refl
found_raised b miss = refl

in_once : (a : ℕ) → raise (base_of a) (scan once (a - base_of a)) ≡ scan regions a
in_once a = by (ltb a 0x4000) (ltb→lt a 0x4000) (nltb→le a 0x4000)
  where
    by : (t : Bool) → (T t → a < 0x4000) → (T (not t) → 0x4000 ≤ a) → raise (cond t (base (a / 0x1000)) 0) (scan once (a - cond t (base (a / 0x1000)) 0)) ≡ scan regions a
    by true f g =
        let h = f tt in
        let e : a - base (a / 0x1000) ≡ a % 0x1000 = omega arith in
        rw (e, low (a % 0x1000) (omega arith)) (sym (in_channel a h))
    by false f g = let h = g tt in let e : a - 0 ≡ a = omega arith in rw e (raise_none (scan once a) ∙ high a h ∙ sym (in_card a h))

pub same_regions : (a : ℕ) → region_once a ≡ region_of a
same_regions a = found_raised (base_of a) (scan once (a - base_of a)) ∙ ap found_in (in_once a)
