-- What a caller needs of the table: the regions are disjoint, an address lies in its region, and every address there has the same one.
-- Assumes nothing.
use Rattle.std.specs.Prelude.{Some}
use mathlib.Core.Path.{◌≡◌, refl, ap}
use Prim.Native.Nat.{ℕ, ◌≤◌, ◌<◌}
use lib.ListN.{length}
use Rattle.map.specs.declared.Region.{Region}
use Rattle.map.specs.Map.{Row, Hit, hit, miss, scan, channel_rows, card_rows, block, regions, row_of, found_in, region_of}
use Rattle.map.proofs.Rows.{apart, found, Hits, at, hits}
use Rattle.map.proofs.Blocks.{in_order}

row_count : length regions ≡ 88
unfolding regions block channel_rows card_rows
row_count = refl

-- THE REGIONS ARE DISJOINT: of two rows, the one before ends before the other begins
pub disjoint : (k : ℕ) → k < 88 → (j : ℕ) → j < k → (row_of j).region.last < (row_of k).region.first
unfolding row_of
disjoint k h j g = apart 0 regions in_order j k g (rw row_count h)

-- ---- the region of an address

pub data Row-of (a : ℕ) (q : Region) : Type 0 where
  row_of_lem : (r : Row) → scan regions a ≡ hit r → r.region ≡ q → Row-of a q

pub row_at : (a : ℕ) (q : Region) → region_of a ≡ Some q → Row-of a q
row_at a q e = go (scan regions a) refl e
  where
    go : (h : Hit) → scan regions a ≡ h → found_in h ≡ Some q → Row-of a q
    go (hit r) w f = row_of_lem r w cc
    go miss w f = absurd cc

-- an address lies in its region
pub lies : (a : ℕ) (q : Region) → region_of a ≡ Some q → (q.first ≤ a) × (a ≤ q.last)
lies a q e = go (row_at a q e)
  where
    go : Row-of a q → (q.first ≤ a) × (a ≤ q.last)
    go (row_of_lem r w m) = in_row (hits regions a r w)
      where
        in_row : Hits regions a r → (q.first ≤ a) × (a ≤ q.last)
        in_row (at k h x f g) = rw (← m) (f, g)

-- and every address from its first to its last has the same region
pub same_region : (a b : ℕ) (q : Region) → region_of a ≡ Some q → q.first ≤ b → b ≤ q.last → region_of b ≡ Some q
same_region a b q e f g = go (row_at a q e)
  where
    go : Row-of a q → region_of b ≡ Some q
    go (row_of_lem r w m) = in_row (hits regions a r w)
      where
        in_row : Hits regions a r → region_of b ≡ Some q
        in_row (at k h x u v) = rw (found 0 regions in_order k b h (rw (x, m) f) (rw (x, m) g), x) (ap Some m)
