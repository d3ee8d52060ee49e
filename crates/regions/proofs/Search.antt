-- A search of rows that are in order: what a look at one of them tells, and what the rows left come to. Assumes nothing.
use mathlib.Core.Path.{◌≡◌, subst, ◌∙◌}
use mathlib.Core.List.{List, map}
use mathlib.Core.Bool.{Bool, true, false}
use Rattle.std.proofs.Common.{inl, inr}
use Prim.Native.Nat.{ℕ, ◌+◌, ◌≤◌, ◌<◌}
use native.Mathlib.Omega.{arith}
use lib.Dec.{ltb}
use lib.ListN.{length, get_or, get_or-map}
use Rattle.std.specs.List.Sorted.{IsNonDecreasingBy, IsPartitionedBy, IsPartitionPoint}
use Rattle.std.proofs.lemmas.Bool.{cases_lt, ltb-true, ltb-false}
use Rattle.std.proofs.lemmas.List.{length-map}
use Rattle.std.proofs.lemmas.List.Sorted.{IsNonDecreasingBy-from_default, IsPartitionedBy-ltb}
use Rattle.map.specs.Map.{Row, hit, miss, no_row, scan}
use Rattle.map.proofs.Rows.{found, missed, not_empty, before_later, past_earlier}
use Rattle.map.proofs.Order.{short_at}
use Rattle.regions.specs.Once.{once}
use Rattle.regions.specs.declared.Row as code
use Rattle.regions.proofs.Once.{once_ordered, once_short, once_count}

-- ---- the code's table

-- a row as the code has it; its table is that of the rows kept once, by computation
abbrev coded : Row → code.Row
coded r = record { 0 = r.region.first; 1 = r.region.last; 2 = r.region.access }

abbrev pub table : List code.Row
table = map coded once

abbrev pub code_row : ℕ → code.Row
code_row k = get_or table k (coded no_row)

abbrev pub row : ℕ → Row
row k = get_or once k no_row

pub known : (k : ℕ) → code_row k ≡ coded (row k)
known k = get_or-map {A = Row} {B = code.Row} coded once k no_row

counted : (k : ℕ) → k < 28 → k < length once
counted k h = rw once_count h

-- ---- a look at row m

-- the offset lies past every row before k, and before every row from `end` on
abbrev pub Past : ℕ → ℕ → Type 0
Past o k = (j : ℕ) → j < k → (row j).region.last < o

abbrev pub Before : ℕ → ℕ → Type 0
Before o end = (j : ℕ) → end ≤ j → j < 28 → o < (row j).region.first

module _ (m o : ℕ) (h : m < 28) where
  pub rules_out_later : o < (code_row m).0 → Before o m
  rules_out_later f j g i = before_later 0 once once_ordered m (counted m h) o (subst (λ (r : code.Row). o < r.0) (known m) f) j g (counted j i)

  pub holds_it : (code_row m).0 ≤ o → o ≤ (code_row m).1 → scan once o ≡ hit (row m)
  holds_it f g = found 0 once once_ordered m o (counted m h) (subst (λ (r : code.Row). r.0 ≤ o) (known m) f) (subst (λ (r : code.Row). o ≤ r.1) (known m) g)

-- a row raised to a base: its addresses have 16 bits
pub fits : (k : ℕ) → k < 28 → (b : ℕ) → b < 0x4000 → (b + (code_row k).0 < 65536) × (b + (code_row k).1 < 65536)
fits k h b g =
    let s = short_at 0x4240 once once_short k (counted k h) in
    let n = not_empty 0 once once_ordered k (counted k h) in
    rw known (omega arith, omega arith)

-- none is left
none_left : (o k : ℕ) → Past o k → Before o k → scan once o ≡ miss
none_left o k p b = missed once o none
  where
    none : (j : ℕ) → j < length once → (row j).region.first ≤ o → o ≤ (row j).region.last → ⊥
    none j h f g = elim (cases_lt j k) [
      | inl u ↦ let x = p j u in omega arith
      | inr u ↦ let x = b j u (rw once_count at h) in omega arith
    ]

-- ---- the place in the order

-- the rows that end before the offset are the first ones
row_ends : (i j : ℕ) → i ≤ j → j < 28 → (row i).region.last ≤ (row j).region.last
row_ends i j g h =
    let e : (row i).region.last < (row j).region.last + 1 = past_earlier 0 once once_ordered j (counted j h) ((row j).region.last + 1) (omega arith) i g in
    omega arith

table_count : length table ≡ 28
table_count = length-map once coded ∙ once_count

rising : IsNonDecreasingBy (λ (r : code.Row). r.1) table
rising = IsNonDecreasingBy-from_default (λ (r : code.Row). r.1) table (coded no_row) (λ i j g h. rw (known i, known j) (row_ends i j g (rw table_count at h)))

abbrev pub ends_before : ℕ → code.Row → Bool
ends_before o r = ltb r.1 o

pub parted : (o : ℕ) → IsPartitionedBy (ends_before o) table
parted o = IsPartitionedBy-ltb (λ (r : code.Row). r.1) table o rising

-- row k is the first that does not end before the offset; there is none if k is 28
abbrev pub Point : ℕ → ℕ → Type 0
Point o k = IsPartitionPoint (λ (r : code.Row). ends_before o r ≡ true) (λ (r : code.Row). ends_before o r ≡ false) table k

module _ (o k : ℕ) (p : Point o k) where
  -- every row before row k ends before the offset, and row k does not
  earlier_past : k ≤ 28 → Past o k
  earlier_past h j g = subst (λ (r : code.Row). r.1 < o) (known j) (ltb-true _ _ (p.0 j (coded no_row) (omega arith) g))

  pub ends_past : k < 28 → o ≤ (code_row k).1
  ends_past h = ltb-false _ _ (p.1 k (coded no_row) (omega arith) (rw table_count h))

  -- so an offset before row k is in no row, and nor is one past all rows
  pub in_no_row : k < 28 → o < (code_row k).0 → scan once o ≡ miss
  in_no_row h f = none_left o k (earlier_past (omega arith)) (rules_out_later k o h f)

  pub past_all : 28 ≤ k → k ≤ 28 → scan once o ≡ miss
  past_all g h = none_left o k (earlier_past h) (λ j i l. absurd (omega arith))
