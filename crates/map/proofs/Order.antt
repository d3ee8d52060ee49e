-- The order of a table that is raised by a base, and of two tables one after the other: so one test of the rows that the paper lists
-- once says it of every channel's. Assumes nothing.
use mathlib.Core.Path.{◌≡◌, refl, subst}
use mathlib.Core.Bool.{Bool, true, ◌&&◌}
use mathlib.Core.List.{List, [], ◌∷◌, ◌++◌, map}
use Prim.Native.Nat.{ℕ, zero, suc, ◌+◌, ◌≤◌, ◌<◌}
use native.Mathlib.Omega.{arith}
use native.Mathlib.Nat.{le_of_suc-le-suc, not-suc-le-zero}
use lib.Dec.{T, ltb, ltb→lt}
use lib.Ieee.Fits.{and_l, and_r}
use lib.ListN.{length, get_or}
use borrow.Author.Tests.{le-leb, lt-ltb}
use Rattle.map.specs.Map.{Row, hit, miss, scan, raised, no_row}
use Rattle.map.proofs.Rows.{ordered, begins, some, rest, off_row, Hits, at, hits}

-- a row before an ordered table
before : (p : ℕ) (r : Row) (l : List Row) → p ≤ r.region.first → r.region.first ≤ r.region.last → T (ordered (suc r.region.last) l) → T (ordered p (r ∷ l))
before p r l f g t = rw (le-leb p r.region.first f, le-leb r.region.first r.region.last g) t

pub order_raised : (b p : ℕ) (l : List Row) → T (ordered p l) → T (ordered (b + p) (map (raised b) l))
order_raised b p [] t = tt
order_raised b p (r ∷ l) t =
    let f = begins p r l t in
    let g = some p r l t in
    before (b + p) (raised b r) (map (raised b) l) (omega arith) (omega arith)
    (subst (λ (n : ℕ). T (ordered n (map (raised b) l))) (omega arith) (order_raised b (suc r.region.last) l (rest p r l t)))

pub order_earlier : (p q : ℕ) (l : List Row) → q ≤ p → T (ordered p l) → T (ordered q l)
order_earlier p q [] h t = tt
order_earlier p q (r ∷ l) h t = let f = begins p r l t in before q r l (omega arith) (some p r l t) (rest p r l t)

-- every row ends before e
abbrev pub short : ℕ → List Row → Bool
short e [] = true
short e (r ∷ l) = ltb r.region.last e && short e l

module _ (e : ℕ) (r : Row) (l : List Row) (t : T (short e (r ∷ l))) where
  pub ends : r.region.last < e
  ends = ltb→lt r.region.last e (and_l (ltb r.region.last e) (short e l) t)

  pub others : T (short e l)
  others = and_r (ltb r.region.last e) (short e l) t

pub short_at : (e : ℕ) (l : List Row) → T (short e l) → (k : ℕ) → k < length l → (get_or l k no_row).region.last < e
short_at e [] t k h = absurd (not-suc-le-zero h)
short_at e (r ∷ l) t zero h = ends e r l t
short_at e (r ∷ l) t (suc k) h = short_at e l (others e r l t) k (le_of_suc-le-suc h)

-- and so does the row that the scan hits
pub scan_short : (e : ℕ) (l : List Row) → T (short e l) → (a : ℕ) (r : Row) → scan l a ≡ hit r → r.region.last < e
scan_short e l t a r h = go (hits l a r h)
  where
    go : Hits l a r → r.region.last < e
    go (at k i x f g) = subst (λ (r : Row). r.region.last < e) x (short_at e l t k i)

-- past their ends no row holds an address
pub scan_past : (e : ℕ) (l : List Row) (a : ℕ) → T (short e l) → e ≤ a → scan l a ≡ miss
unfolding scan
scan_past e [] a t h = refl
scan_past e (r ∷ l) a t h =
    let k = ends e r l t in
    rw (off_row r.region a (λ f g. absurd (omega arith))) (scan_past e l a (others e r l t) h)

pub short_raised : (b e : ℕ) (l : List Row) → T (short e l) → T (short (b + e) (map (raised b) l))
short_raised b e [] t = tt
short_raised b e (r ∷ l) t = let h = ends e r l t in rw (lt-ltb (b + r.region.last) (b + e) (omega arith)) (short_raised b e l (others e r l t))

-- THE RULE OF BLOCKS: two tables in order, the first ending before the second begins, are in order one after the other
pub order_append : (p q : ℕ) (l m : List Row) → p ≤ q → T (ordered p l) → T (short q l) → T (ordered q m) → T (ordered p (l ++ m))
order_append p q [] m h t s o = order_earlier q p m h o
order_append p q (r ∷ l) m h t s o =
    let e = ends q r l s in
    before p r (l ++ m) (begins p r l t) (some p r l t) (order_append (suc r.region.last) q l m (omega arith) (rest p r l t) (others q r l s) o)
