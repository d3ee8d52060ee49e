-- The whole table against the rows that the paper lists once. It is in order, since they are; below 0x4000 the scan comes out where a
-- channel's rows, raised to its base, hold the address; from there up, in the card's rows. By induction over the channels. Assumes nothing.
use mathlib.Core.Path.{◌≡◌, refl, sym, ap, ◌∙◌, subst}
use mathlib.Core.Bool.{Bool, true, false, cond}
use mathlib.Core.List.{List, [], ◌∷◌, ◌++◌, map}
use mathlib.Core.Logic.{⊎_elim}
use Prim.Native.Nat.{ℕ, zero, suc, ◌+◌, ◌/◌, ◌%◌, ◌≤◌, ◌<◌}
use native.Mathlib.Nat.{eq-or-lt_of_le}
use native.Mathlib.Omega.{arith}
use lib.Dec.{T, leb}
use borrow.Author.Tests.{le-leb, lt-leb, leb-true, leb-false}
use Rattle.map.specs.Map.{Row, Hit, hit, miss, holds, scan, channel_rows, card_rows, base, raised, block, regions, named_in, register_of, accepted_in, accepted_at}
use Rattle.map.proofs.Rows.{ordered, nowhere}
use Rattle.map.proofs.Order.{short, scan_past, order_raised, order_earlier, short_raised, order_append}

-- ---- two tables, one after the other

abbrev pub or_else : Hit → Hit → Hit
or_else (hit r) h = hit r
or_else miss h = h

pub or_miss : (h : Hit) → or_else h miss ≡ h
or_miss (hit r) = refl
or_miss miss = refl

pub scan_append : (xs ys : List Row) (a : ℕ) → scan (xs ++ ys) a ≡ or_else (scan xs a) (scan ys a)
unfolding scan
scan_append [] ys a = refl
scan_append (r ∷ xs) ys a = go (holds r.region a) (scan_append xs ys a)
  where
    go : (b : Bool) → scan (xs ++ ys) a ≡ or_else (scan xs a) (scan ys a) → cond b (hit r) (scan (xs ++ ys) a) ≡ or_else (cond b (hit r) (scan xs a)) (scan ys a)
    go true e = refl
    go false e = e

-- ---- rows that are raised by b

abbrev pub raise : ℕ → Hit → Hit
raise b (hit r) = hit (raised b r)
raise b miss = miss

leb_raised : (b m n : ℕ) → leb (b + m) (b + n) ≡ leb m n
leb_raised b m n = go (leb m n) refl
  where
    go : (t : Bool) → leb m n ≡ t → leb (b + m) (b + n) ≡ t
    go true e = let h = leb-true m n e in le-leb (b + m) (b + n) (omega arith)
    go false e = let h = leb-false m n e in lt-leb (b + m) (b + n) (omega arith)

scan_raised : (b : ℕ) (l : List Row) (o : ℕ) → scan (map (raised b) l) (b + o) ≡ raise b (scan l o)
unfolding scan
scan_raised b [] o = refl
scan_raised b (r ∷ l) o = rw (leb_raised b r.region.first o, leb_raised b o r.region.last) (go (holds r.region o) (scan_raised b l o))
  where
    go : (t : Bool) → scan (map (raised b) l) (b + o) ≡ raise b (scan l o) → cond t (hit (raised b r)) (scan (map (raised b) l) (b + o)) ≡ raise b (cond t (hit r) (scan l o))
    go true e = refl
    go false e = e

-- ---- the channels' blocks and the card's rows: each row is tested once

pub channel_ordered : T (ordered 0 channel_rows)
unfolding channel_rows
channel_ordered = tt

pub channel_short : T (short 0x1000 channel_rows)
unfolding channel_rows
channel_short = tt

pub card_high : T (ordered 0x4000 card_rows)
unfolding card_rows
card_high = tt

pub card_ordered : T (ordered 0 card_rows)
card_ordered = order_earlier 0x4000 0 card_rows (omega arith) card_high

-- a block's rows are in order and stay within the block, whichever channel's it is
block_ordered : (c : ℕ) → T (ordered (base c) (block c))
unfolding block
block_ordered c = subst (λ (n : ℕ). T (ordered n (block c))) (omega arith) (order_raised (base c) 0 channel_rows channel_ordered)

block_short : (c : ℕ) → T (short (base (suc c)) (block c))
unfolding block
block_short c = subst (λ (n : ℕ). T (short n (block c))) (omega arith) (short_raised (base c) 0x1000 channel_rows channel_short)

-- n channels from channel c on, and the card
from : ℕ → ℕ → List Row
from c zero = card_rows
from c (suc n) = block c ++ from (suc c) n

all_from : regions ≡ from 0 4
unfolding regions from
all_from = refl

from_ordered : (n c : ℕ) → c + n ≡ 4 → T (ordered (base c) (from c n))
unfolding from
from_ordered zero c h = order_earlier 0x4000 (base c) card_rows (omega arith) card_high
from_ordered (suc n) c h =
    order_append (base c) (base (suc c)) (block c) (from (suc c) n) (omega arith) (block_ordered c) (block_short c) (from_ordered n (suc c) (omega arith))

-- THE WHOLE TABLE IS IN ORDER
pub in_order : T (ordered 0 regions)
in_order = subst (λ (l : List Row). T (ordered 0 l)) (sym all_from) (from_ordered 4 0 refl)

in_block : (n c d o : ℕ) → c ≤ d → d < c + n → c + n ≡ 4 → o < 0x1000 → scan (from c n) (base d + o) ≡ raise (base d) (scan channel_rows o)
unfolding from block
in_block zero c d o g h l k = absurd (omega arith)
in_block (suc n) c d o g h l k = scan_append (block c) (from (suc c) n) (base d + o) ∙ ⊎_elim here (λ m. there m (in_block n (suc c) d o m (omega arith) (omega arith) k)) (eq-or-lt_of_le g)
  where
    here : c ≡ d → or_else (scan (block c) (base d + o)) (scan (from (suc c) n) (base d + o)) ≡ raise (base d) (scan channel_rows o)
    here e =
        rw (nowhere (base (suc c)) (from (suc c) n) (from_ordered n (suc c) (omega arith)) (base d + o) (omega arith), e, scan_raised (base d) channel_rows o)
        (or_miss (raise (base d) (scan channel_rows o)))

    there : c < d → scan (from (suc c) n) (base d + o) ≡ raise (base d) (scan channel_rows o) → or_else (scan (block c) (base d + o)) (scan (from (suc c) n) (base d + o)) ≡ raise (base d) (scan channel_rows o)
    there m e = rw (scan_past (base (suc c)) (block c) (base d + o) (block_short c) (omega arith)) e

past_all : (n c a : ℕ) → c + n ≡ 4 → 0x4000 ≤ a → scan (from c n) a ≡ scan card_rows a
unfolding from
past_all zero c a l h = refl
past_all (suc n) c a l h =
    scan_append (block c) (from (suc c) n) a
    ∙ rw (scan_past (base (suc c)) (block c) a (block_short c) (omega arith)) (past_all n (suc c) a (omega arith) h)

-- ---- the scan of the whole table

pub in_channel : (a : ℕ) → a < 0x4000 → scan regions a ≡ raise (base (a / 0x1000)) (scan channel_rows (a % 0x1000))
in_channel a h =
    ap (λ (l : List Row). scan l a) all_from
    ∙ subst (λ (z : ℕ). scan (from 0 4) z ≡ raise (base (a / 0x1000)) (scan channel_rows (a % 0x1000))) (omega arith)
    (in_block 4 0 (a / 0x1000) (a % 0x1000) (omega arith) (omega arith) refl (omega arith))

pub in_card : (a : ℕ) → 0x4000 ≤ a → scan regions a ≡ scan card_rows a
in_card a h = ap (λ (l : List Row). scan l a) all_from ∙ past_all 4 0 a refl h

-- what a row says of the offset in its region, it says wherever the row is raised to
named_raised : (h : Hit) (c b o : ℕ) → named_in (raise b h) c (b + o) ≡ named_in h c o
named_raised (hit r) c b o = ap (r.meaning c) (omega arith)
named_raised miss c b o = refl

accepted_raised : (h : Hit) (b o v : ℕ) → accepted_in (raise b h) (b + o) v ≡ accepted_in h o v
accepted_raised (hit r) b o v = ap (λ (n : ℕ). r.accepted n v) (omega arith)
accepted_raised miss b o v = refl

-- AN ADDRESS OF A CHANNEL IS WHAT ITS OFFSET FROM THE CHANNEL'S BASE IS
module _ (a : ℕ) (h : a < 0x4000) where
  split : a ≡ base (a / 0x1000) + a % 0x1000
  split = omega arith

  pub channel_register : register_of a ≡ named_in (scan channel_rows (a % 0x1000)) (a / 0x1000) (a % 0x1000)
  channel_register =
      rw (in_channel a h)
      (ap (λ (z : ℕ). named_in (raise (base (a / 0x1000)) (scan channel_rows (a % 0x1000))) (a / 0x1000) z) split
      ∙ named_raised (scan channel_rows (a % 0x1000)) (a / 0x1000) (base (a / 0x1000)) (a % 0x1000))

  pub channel_accepted : (v : ℕ) → accepted_at a v ≡ accepted_in (scan channel_rows (a % 0x1000)) (a % 0x1000) v
  channel_accepted v =
      rw (in_channel a h)
      (ap (λ (z : ℕ). accepted_in (raise (base (a / 0x1000)) (scan channel_rows (a % 0x1000))) z v) split
      ∙ accepted_raised (scan channel_rows (a % 0x1000)) (base (a / 0x1000)) (a % 0x1000) v)
