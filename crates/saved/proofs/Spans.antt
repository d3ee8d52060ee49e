-- The code's rows, a channel's thirteen once and the card's two, give the 54 spans: one test over all of them. Assumes nothing.
use mathlib.Core.Path.{◌≡◌, refl, ap, ◌∙◌}
use mathlib.Core.Bool.{Bool, ◌&&◌, cond}
use mathlib.Core.List.{List, ◌++◌, map}
use Prim.Native.Nat.{ℕ, ◌+◌, ◌-◌, ◌*◌, ◌/◌, ◌%◌, ◌≤◌, ◌<◌, ◌^◌}
use native.Mathlib.Omega.{arith}
use lib.Dec.{T, leb, ltb, eqb, leb→le, eqb→eq}
use lib.Ieee.Fits.{and_l, and_r}
use lib.ListN.{length, get_or}
use borrow.Author.Tests.{lt-ltb, le-ltb}
use Rattle.word.proofs.Place.{all_pass, at_place}
use Rattle.map.specs.Map.{channel_rows, card_rows, block, regions}
use Rattle.saved.specs.declared.Span.{Span}
use Rattle.saved.specs.Saved.{holding, fixed_from, span, span_of, spans}

-- the code's table: a channel's spans from its base, then the card's
abbrev coded : Span → ℕ × ℕ
coded x = (x.first, x.count)

abbrev rows : List (ℕ × ℕ)
rows = map coded (map span_of (holding channel_rows) ++ map span_of (holding card_rows))

abbrev row_at : ℕ → ℕ × ℕ
row_at k = get_or rows k (0, 0)

-- the span that the code makes of its table
abbrev code_span : ℕ → Span
code_span k = cond (ltb k 52) (span (k / 13 * 0x1000 + (row_at (k % 13)).0) (row_at (k % 13)).1) (span (row_at (k - 52 + 13)).0 (row_at (k - 52 + 13)).1)

-- it is span k; its words have their place among the settings, and no span is longer than the ramp tables
abbrev right : ℕ → Span → Bool
right k x = (eqb (code_span k).first x.first && eqb (code_span k).count x.count) && (leb (x.first + x.count) 16960 && leb x.count 1920)

all_right : T (all_pass right (span 0 0) 0 spans)
unfolding spans holding fixed_from regions block channel_rows card_rows
all_right = tt

pub many : length spans ≡ 54
unfolding spans holding regions block channel_rows card_rows
many = refl

module _ (k : ℕ) (h : k < 54) where
  abbrev x : Span
  x = get_or spans k (span 0 0)

  abbrev same : Bool
  same = eqb (code_span k).first x.first && eqb (code_span k).count x.count

  abbrev small : Bool
  small = leb (x.first + x.count) 16960 && leb x.count 1920

  here : T (same && small)
  here = at_place right (span 0 0) spans all_right k (rw many h)

  -- SPAN k IS WHAT THE CODE MAKES OF ITS ROWS
  pub is_span : code_span k ≡ get_or spans k (span 0 0)
  is_span =
      let t : T same = and_l same small here in
      let f = eqb→eq (code_span k).first x.first (and_l (eqb (code_span k).first x.first) (eqb (code_span k).count x.count) t) in
      let c = eqb→eq (code_span k).count x.count (and_r (eqb (code_span k).first x.first) (eqb (code_span k).count x.count) t) in
      ap (λ (n : ℕ). span n (code_span k).count) f ∙ ap (λ (n : ℕ). span x.first n) c

  pub in_bounds : (x.first + x.count ≤ 16960) × (x.count ≤ 1920)
  in_bounds =
      let t : T small = and_r same small here in
      (leb→le (x.first + x.count) 16960 (and_l (leb (x.first + x.count) 16960) (leb x.count 1920) t), leb→le x.count 1920 (and_r (leb (x.first + x.count) 16960) (leb x.count 1920) t))

-- a channel's span, and one of the card's
pub of_channel_lem : (k : ℕ) → k < 52 → span (k / 13 * 0x1000 + (row_at (k % 13)).0) (row_at (k % 13)).1 ≡ code_span k
of_channel_lem k h = rw (lt-ltb k 52 h)

-- and its first address, a sum in the code, fits
pub first_fits : (k : ℕ) → k < 52 → k / 13 * 0x1000 + (row_at (k % 13)).0 < 2 ^ 64
first_fits k h =
    let e : k / 13 * 0x1000 + (row_at (k % 13)).0 ≡ (get_or spans k (span 0 0)).first = ap (λ (y : Span). y.first) (of_channel_lem k h ∙ is_span k (omega arith)) in
    rw e (omega (arith, (in_bounds k (omega arith)).0))

pub of_card_lem : (k : ℕ) → 52 ≤ k → span (row_at (k - 52 + 13)).0 (row_at (k - 52 + 13)).1 ≡ code_span k
of_card_lem k h = rw (le-ltb k 52 h)
