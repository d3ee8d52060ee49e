-- A table of rows: its order, one test over the whole table, gives the rule at each row; and where the scan comes out. Assumes nothing.
use mathlib.Core.Path.{◌≡◌, refl, sym, ◌∙◌, subst}
use mathlib.Core.Bool.{Bool, true, false, ◌&&◌, ◌||◌, cond}
use mathlib.Core.List.{List, [], ◌∷◌}
use mathlib.Core.Logic.{⊎_elim}
use Prim.Native.Nat.{ℕ, zero, suc, ◌≤◌, ◌<◌, ◌-◌}
use native.Mathlib.Omega.{arith}
use native.Mathlib.Nat.{le_of_suc-le-suc, not-suc-le-zero, eq-or-lt_of_le}
use lib.Dec.{T, leb, ltb, eqb, leb→le, ltb→lt, eqb→eq}
use lib.Ieee.Fits.{and_l, and_r}
use lib.ListN.{length, get_or}
use borrow.Author.Tests.{le-leb}
use Rattle.map.specs.declared.Region.{Region}
use Rattle.map.specs.declared.Register.TheVariants.{Unlisted}
use Rattle.map.specs.Map.{Row, Hit, hit, miss, holds, scan, no_row, named_in}

-- ---- the order

-- no row is empty, and each begins at p or past it, and past the end of every row before
abbrev pub ordered : ℕ → List Row → Bool
ordered p [] = true
ordered p (r ∷ rs) = leb p r.region.first && (leb r.region.first r.region.last && ordered (suc r.region.last) rs)

module _ (p : ℕ) (r : Row) (rs : List Row) (t : T (ordered p (r ∷ rs))) where
  tail : T (leb r.region.first r.region.last && ordered (suc r.region.last) rs)
  tail = and_r (leb p r.region.first) (leb r.region.first r.region.last && ordered (suc r.region.last) rs) t

  pub begins : p ≤ r.region.first
  begins = leb→le p r.region.first (and_l (leb p r.region.first) (leb r.region.first r.region.last && ordered (suc r.region.last) rs) t)

  pub some : r.region.first ≤ r.region.last
  some = leb→le r.region.first r.region.last (and_l (leb r.region.first r.region.last) (ordered (suc r.region.last) rs) tail)

  pub rest : T (ordered (suc r.region.last) rs)
  rest = and_r (leb r.region.first r.region.last) (ordered (suc r.region.last) rs) tail

-- every row of an ordered table begins at p or past it
from : (p : ℕ) (l : List Row) → T (ordered p l) → (k : ℕ) → k < length l → p ≤ (get_or l k no_row).region.first
from p [] t k h = absurd (not-suc-le-zero h)
from p (r ∷ rs) t zero h = begins p r rs t
from p (r ∷ rs) t (suc k) h =
    let a = begins p r rs t in
    let b = some p r rs t in
    let d : suc r.region.last ≤ (get_or rs k no_row).region.first = from (suc r.region.last) rs (rest p r rs t) k (le_of_suc-le-suc h) in
    omega arith

-- THE RULE: of two rows, the one before ends before the other begins
pub apart : (p : ℕ) (l : List Row) → T (ordered p l) → (j k : ℕ) → j < k → k < length l → (get_or l j no_row).region.last < (get_or l k no_row).region.first
apart p [] t j k g h = absurd (not-suc-le-zero h)
apart p (r ∷ rs) t j zero g h = absurd (not-suc-le-zero g)
apart p (r ∷ rs) t zero (suc k) g h = from (suc r.region.last) rs (rest p r rs t) k (le_of_suc-le-suc h)
apart p (r ∷ rs) t (suc j) (suc k) g h = apart (suc r.region.last) rs (rest p r rs t) j k (le_of_suc-le-suc g) (le_of_suc-le-suc h)

-- no row of an ordered table is empty
pub not_empty : (p : ℕ) (l : List Row) → T (ordered p l) → (k : ℕ) → k < length l → (get_or l k no_row).region.first ≤ (get_or l k no_row).region.last
not_empty p [] t k h = absurd (not-suc-le-zero h)
not_empty p (r ∷ rs) t zero h = some p r rs t
not_empty p (r ∷ rs) t (suc k) h = not_empty (suc r.region.last) rs (rest p r rs t) k (le_of_suc-le-suc h)

-- an address before row k is before all rows after it, and one past row k is past all rows before it
module _ (p : ℕ) (l : List Row) (t : T (ordered p l)) (k : ℕ) (h : k < length l) (a : ℕ) where
  pub before_later : a < (get_or l k no_row).region.first → (j : ℕ) → k ≤ j → j < length l → a < (get_or l j no_row).region.first
  before_later f j g i = ⊎_elim same later (eq-or-lt_of_le g)
    where
      same : k ≡ j → a < (get_or l j no_row).region.first
      same e = rw (← e) f

      later : k < j → a < (get_or l j no_row).region.first
      later m = let x = apart p l t k j m i in let y = not_empty p l t k h in omega arith

  pub past_earlier : (get_or l k no_row).region.last < a → (j : ℕ) → j ≤ k → (get_or l j no_row).region.last < a
  past_earlier f j g = ⊎_elim same earlier (eq-or-lt_of_le g)
    where
      same : j ≡ k → (get_or l j no_row).region.last < a
      same e = rw e f

      earlier : j < k → (get_or l j no_row).region.last < a
      earlier m = let x = apart p l t j k m h in let y = not_empty p l t k h in omega arith

-- ---- a row and an address

pub in_row : (r : Region) (a : ℕ) → r.first ≤ a → a ≤ r.last → holds r a ≡ true
in_row r a p q = rw (le-leb r.first a p, le-leb a r.last q)

pub off_row : (r : Region) (a : ℕ) → (r.first ≤ a → a ≤ r.last → ⊥) → holds r a ≡ false
off_row r a h = go (leb r.first a) (leb a r.last) (leb→le r.first a) (leb→le a r.last)
  where
    go : (x y : Bool) → (T x → r.first ≤ a) → (T y → a ≤ r.last) → x && y ≡ false
    go false y p q = refl
    go true false p q = refl
    go true true p q = absurd (h (p tt) (q tt))

pub row_ends : (r : Region) (a : ℕ) → holds r a ≡ true → (r.first ≤ a) × (a ≤ r.last)
row_ends r a e =
    let t : T (holds r a) = subst T (sym e) tt in
    (leb→le r.first a (and_l (leb r.first a) (leb a r.last) t), leb→le a r.last (and_r (leb r.first a) (leb a r.last) t))

-- ---- the scan

-- an address before p is in none of the rows
pub nowhere : (p : ℕ) (l : List Row) → T (ordered p l) → (a : ℕ) → a < p → scan l a ≡ miss
unfolding scan
nowhere p [] t a h = refl
nowhere p (r ∷ rs) t a h =
    let b = begins p r rs t in
    let s = some p r rs t in
    rw (off_row r.region a (λ f g. absurd (omega arith))) (nowhere (suc r.region.last) rs (rest p r rs t) a (omega arith))

-- an address in row k is found there
pub found : (p : ℕ) (l : List Row) → T (ordered p l) → (k a : ℕ) → k < length l → (get_or l k no_row).region.first ≤ a → a ≤ (get_or l k no_row).region.last → scan l a ≡ hit (get_or l k no_row)
unfolding scan
found p [] t k a h f g = absurd (not-suc-le-zero h)
found p (r ∷ rs) t zero a h f g = rw (in_row r.region a f g)
found p (r ∷ rs) t (suc k) a h f g =
    let d : suc r.region.last ≤ (get_or rs k no_row).region.first = from (suc r.region.last) rs (rest p r rs t) k (le_of_suc-le-suc h) in
    rw (off_row r.region a (λ u v. absurd (omega arith))) (found (suc r.region.last) rs (rest p r rs t) k a (le_of_suc-le-suc h) f g)

-- so its word is what the row says
pub in_row_k : (c : ℕ) (l : List Row) → T (ordered 0 l) → (k a : ℕ) → k < length l → (get_or l k no_row).region.first ≤ a → a ≤ (get_or l k no_row).region.last
    → (get_or l k no_row).meaning c (a - (get_or l k no_row).region.first) ≡ named_in (scan l a) c a
in_row_k c l t k a h f g = rw (found 0 l t k a h f g)

-- what the scan hits is a row of the table that holds the address
pub data Hits (l : List Row) (a : ℕ) (r : Row) : Type 0 where
  at : (k : ℕ) → k < length l → get_or l k no_row ≡ r → r.region.first ≤ a → a ≤ r.region.last → Hits l a r

pub hits : (l : List Row) (a : ℕ) (r : Row) → scan l a ≡ hit r → Hits l a r
unfolding scan
hits [] a r e = absurd cc
hits (x ∷ l) a r e = go (holds x.region a) refl e (hits l a r)
  where
    later : Hits l a r → Hits (x ∷ l) a r
    later (at k h e f g) = at (suc k) (omega arith) e f g

    go : (b : Bool) → holds x.region a ≡ b → cond b (hit x) (scan l a) ≡ hit r → (scan l a ≡ hit r → Hits l a r) → Hits (x ∷ l) a r
    go true w e rec = let q : x ≡ r = cc in let p = row_ends x.region a w in at 0 (omega arith) q (rw q at p.0) (rw q at p.1)
    go false w e rec = later (rec e)

-- where no row holds the address, the scan misses
pub missed : (l : List Row) (a : ℕ) → ((k : ℕ) → k < length l → (get_or l k no_row).region.first ≤ a → a ≤ (get_or l k no_row).region.last → ⊥) → scan l a ≡ miss
missed l a n = go (scan l a) refl
  where
    no : (r : Row) → Hits l a r → ⊥
    no r (at k h e f g) = n k h (rw e f) (rw e g)

    go : (h : Hit) → scan l a ≡ h → h ≡ miss
    go (hit r) e = absurd (no r (hits l a r e))
    go miss e = refl

-- a rule of every row is a rule of the row that the scan hits

abbrev pub All : (Row → Type 0) → List Row → Type 0
All P [] = Unit
All P (r ∷ rs) = P r × All P rs

pub scan_all : (P : Row → Type 0) (l : List Row) → All P l → (a : ℕ) (r : Row) → scan l a ≡ hit r → P r
scan_all P l p a r e = go (hits l a r e)
  where
    nth : (l : List Row) → All P l → (k : ℕ) → k < length l → P (get_or l k no_row)
    nth [] p k h = absurd (not-suc-le-zero h)
    nth (r ∷ rs) p zero h = p.0
    nth (r ∷ rs) p (suc k) h = nth rs p.1 k (le_of_suc-le-suc h)

    go : Hits l a r → P r
    go (at k h x u v) = subst P x (nth l p k h)

-- ---- a stretch of addresses that no row holds: one test

-- the address is none of xs
abbrev pub Apart : List ℕ → ℕ → Type 0
Apart [] a = Unit
Apart (x ∷ xs) a = (a ≡ x → ⊥) × Apart xs a

abbrev member : ℕ → List ℕ → Bool
member f [] = false
member f (x ∷ xs) = eqb f x || member f xs

strange : (xs : List ℕ) (f a : ℕ) → T (member f xs) → Apart xs a → a ≡ f → ⊥
strange [] f a t d e = elim t [ ]
strange (x ∷ xs) f a t d e = go (eqb f x) (eqb→eq f x) (λ u. strange xs f a u d.1 e) t
  where
    go : (b : Bool) → (T b → f ≡ x) → (T (member f xs) → ⊥) → T (b || member f xs) → ⊥
    go true h k t = d.0 (e ∙ h tt)
    go false h k t = k t

-- every row ends before b, begins at e or past it, or is one address of xs
abbrev pub clear : List Row → List ℕ → ℕ → ℕ → Bool
clear [] xs b e = true
clear (r ∷ rs) xs b e =
    (leb e r.region.first || (ltb r.region.last b || (eqb r.region.first r.region.last && member r.region.first xs))) && clear rs xs b e

pub outside : (l : List Row) (xs : List ℕ) (b e a : ℕ) → T (clear l xs b e) → b ≤ a → a < e → Apart xs a → scan l a ≡ miss
unfolding scan
outside [] xs b e a t p q d = refl
outside (r ∷ rs) xs b e a t p q d =
    rw (off_row r.region a (go (leb e f) (ltb l b) (eqb f l) (member f xs) (leb→le e f) (ltb→lt l b) (eqb→eq f l) (λ m. strange xs f a m d) (and_l test (clear rs xs b e) t)))
    (outside rs xs b e a (and_r test (clear rs xs b e) t) p q d)
  where
    f : ℕ
    f = r.region.first

    l : ℕ
    l = r.region.last

    test : Bool
    test = leb e f || (ltb l b || (eqb f l && member f xs))

    go : (w x y z : Bool) → (T w → e ≤ f) → (T x → l < b) → (T y → f ≡ l) → (T z → a ≡ f → ⊥) → T (w || (x || (y && z))) → f ≤ a → a ≤ l → ⊥
    go true x y z u v i j t m n = let h = u tt in omega arith
    go false true y z u v i j t m n = let h = v tt in omega arith
    go false false true true u v i j t m n = let h = i tt in j tt (omega arith)
    go false false true false u v i j t m n = t
    go false false false z u v i j t m n = t

-- and its word is unlisted
pub in_none : (c : ℕ) (l : List Row) (xs : List ℕ) (b e a : ℕ) → T (clear l xs b e) → b ≤ a → a < e → Apart xs a → Unlisted ≡ named_in (scan l a) c a
in_none c l xs b e a t p q d = rw (outside l xs b e a t p q d)
