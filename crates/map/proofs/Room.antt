-- No region reaches past the level counts, so every listed word has its place among the 16,960 words lent as settings. Assumes nothing.
use Rattle.std.specs.Prelude.{Some}
use mathlib.Core.Path.{◌≡◌, refl, sym}
use mathlib.Core.Bool.{true, true≢false}
use Prim.Native.Nat.{ℕ, ◌/◌, ◌<◌}
use native.Mathlib.Omega.{arith}
use lib.Dec.{T}
use Rattle.map.specs.declared.Region.{Region}
use Rattle.map.specs.Map.{Hit, hit, miss, scan, channel_rows, card_rows, block, regions, named_in, named, region_of, register_of}
use Rattle.map.proofs.Rows.{Hits, at, hits}
use Rattle.map.proofs.Order.{short, scan_short}
use Rattle.map.proofs.Regions.{Row-of, row_of_lem, row_at}

all_short : T (short 16960 regions)
unfolding regions block channel_rows card_rows
all_short = tt

-- NO REGION REACHES PAST THE LEVEL COUNTS
pub region_below : (a : ℕ) (q : Region) → region_of a ≡ Some q → q.last < 16960
region_below a q e = go (row_at a q e)
  where
    go : Row-of a q → q.last < 16960
    go (row_of_lem r w m) = rw (← m) (scan_short 16960 regions all_short a r w)

-- SO NO LISTED WORD DOES
pub named_below : (a : ℕ) → named (register_of a) ≡ true → a < 16960
named_below a = go (scan regions a) refl
  where
    go : (h : Hit) → scan regions a ≡ h → named (named_in h (a / 0x1000) a) ≡ true → a < 16960
    go (hit r) e n = by (hits regions a r e)
      where
        by : Hits regions a r → a < 16960
        by (at k m x u v) = let s = scan_short 16960 regions all_short a r e in omega arith
    go miss e n = absurd (true≢false (sym n))
