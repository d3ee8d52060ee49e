-- The frames hold every setting that isn't fixed, and nothing else (`saved_are`), and each frame lies in one region that is read and
-- written (`all_good`): rules of the rows that the paper lists once, and inductions over lists of any length. Assumes nothing.
use Rattle.std.specs.Prelude.{Some}
use mathlib.Core.Path.{◌≡◌, refl, sym, ap, ◌∙◌}
use mathlib.Core.Bool.{Bool, true, false, not, ◌&&◌, ◌||◌, cond, true≢false, or-true, or-false, or_assoc}
use mathlib.Core.List.{List, [], ◌∷◌, ◌++◌, map}
use Prim.Native.Nat.{ℕ, zero, suc, ◌+◌, ◌-◌, ◌*◌, ◌/◌, ◌≤◌, ◌<◌, min}
use native.Mathlib.Omega.{arith}
use lib.Dec.{T, leb, ltb}
use lib.ListN.{length, get_or}
use borrow.Author.Tests.{not-true, ltb-true, ltb-false, leb-true, lt-ltb, le-ltb, le-leb, lt-leb}
use Rattle.map.specs.declared.Access.TheVariants.{ReadWrite}
use Rattle.map.specs.declared.Region.{Region}
use Rattle.map.specs.declared.Setting.{Setting}
use Rattle.map.specs.declared.Register.TheVariants as R
use Rattle.map.specs.Map.{Row, Hit, hit, miss, holds, scan, settings, channel_rows, card_rows, base, raised, block, regions, no_row, named_in, region_of, register_of}
use Rattle.map.specs.Settings.{is_setting, is_fixed}
use Rattle.map.proofs.Rows.{ordered, rest, in_row, row_ends, nowhere, found, All}
use Rattle.map.proofs.Blocks.{in_order}
use Rattle.saved.specs.declared.Span.{Span}
use Rattle.saved.specs.Saved.{holding, size, fixed_from, fixed_in, span, span_of, spans, piece, pieces, cut, frames_of, frames}
use Rattle.saved.specs.Laws.{inside, within, SavedAre}

-- ---- the rows

-- its words are settings, or none is; the first of them are fixed; and settings are read and written
record Plain (r : Row) : Type 0 where
  same : (c o : ℕ) → is_setting (r.meaning c o) ≡ is_setting (r.meaning 0 0)
  many : ℕ
  fits : many ≤ size r
  fixed : (c o : ℕ) → is_fixed (r.meaning c o) ≡ ltb o many
  access : is_setting (r.meaning 0 0) ≡ true → r.region.access ≡ ReadWrite

-- a row of settings, the first n of them fixed
module _ (n : ℕ) (s : ℕ → Setting) (c o : ℕ) where
  are_settings : is_setting (settings n s c o) ≡ true
  are_settings = go (ltb o n)
    where
      go : (b : Bool) → is_setting (cond b (R.Fixed (s o)) (R.Setting (s o))) ≡ true
      go true = refl
      go false = refl

  pub first_fixed : is_fixed (settings n s c o) ≡ ltb o n
  first_fixed = go (ltb o n)
    where
      go : (b : Bool) → is_fixed (cond b (R.Fixed (s o)) (R.Setting (s o))) ≡ b
      go true = refl
      go false = refl

plain : (f l n : ℕ) (s : ℕ → Setting) (v : ℕ → ℕ → Bool) → n ≤ suc l - f
    → Plain (record { region = record { first = f; last = l; access = ReadWrite }; meaning = settings n s; accepted = v })
plain f l n s v h =
    record { same = λ c o. are_settings n s c o ∙ sym (are_settings n s 0 0); many = n; fits = h; fixed = first_fixed n s; access = λ e. refl }

-- a row of words that are no settings
other : (r : Row) → ((c o : ℕ) → is_setting (r.meaning c o) ≡ false) → ((c o : ℕ) → is_fixed (r.meaning c o) ≡ false) → Plain r
other r p q =
    record {
      same = λ c o. p c o ∙ sym (p 0 0);
      many = 0;
      fits = omega arith;
      fixed = λ c o. q c o ∙ sym (le-ltb o 0 (omega arith));
      access = λ e. absurd (true≢false (sym e ∙ p 0 0));
    }

channel_plain : All Plain channel_rows
unfolding channel_rows
channel_plain = (
  plain _ _ 128 _ _ (omega arith),
  (plain _ _ 0 _ _ (omega arith), (plain _ _ 0 _ _ (omega arith), (plain _ _ 1 _ _ (omega arith), (plain _ _ 0 _ _ (omega arith), (plain _ _ 1 _ _ (omega arith), (plain _ _ 0 _ _ (omega arith), (plain _ _ 0 _ _ (omega arith), (plain _ _ 0 _ _ (omega arith), (plain _ _ 0 _ _ (omega arith), (plain _ _ 0 _ _ (omega arith), (plain _ _ 0 _ _ (omega arith), (plain _ _ 0 _ _ (omega arith), (other _ (λ c o. refl) (λ c o. refl), (other _ (λ c o. refl) (λ c o. refl), (other _ (λ c o. refl) (λ c o. refl), (other _ (λ c o. refl) (λ c o. refl), (other _ (λ c o. refl) (λ c o. refl), (other _ (λ c o. refl) (λ c o. refl), (other _ (λ c o. refl) (λ c o. refl), tt))))))))))))))))))),
)

-- of the slots, which are settings, none is fixed
card_plain : All Plain card_rows
unfolding card_rows
card_plain = (
  record { same = λ c o. refl; many = 0; fits = omega arith; fixed = λ c o. sym (le-ltb o 0 (omega arith)); access = λ e. refl },
  (other _ (λ c o. refl) (λ c o. refl), (plain _ _ 0 _ _ (omega arith), (other _ (λ c o. refl) (λ c o. refl), (other _ (λ c o. refl) (λ c o. refl), (other _ (λ c o. refl) (λ c o. refl), (other _ (λ c o. refl) (λ c o. refl), (other _ (λ c o. refl) (λ c o. refl), tt))))))),
)

-- raised to a channel's base, a row says the same
raised_plain : (b : ℕ) (l m : List Row) → All Plain l → All Plain m → All Plain (map (raised b) l ++ m)
raised_plain b [] m p q = q
raised_plain b (r ∷ l) m p q =
    let x = p.0 in
    (record { same = x.same; many = x.many; fits = omega (arith, x.fits); fixed = x.fixed; access = x.access }, raised_plain b l m p.1 q)

with_block : (c : ℕ) (l : List Row) → All Plain l → All Plain (block c ++ l)
unfolding block
with_block c l p = raised_plain (base c) channel_rows l channel_plain p

all_plain : All Plain regions
unfolding regions
all_plain = with_block 0 _ (with_block 1 _ (with_block 2 _ (with_block 3 _ card_plain)))

-- so the frames begin past the fixed words
fixed_from_lem : (r : Row) (p : Plain r) (o n : ℕ) → fixed_from r o n ≡ min n (p.many - o)
unfolding fixed_from
fixed_from_lem r p o zero = omega arith
fixed_from_lem r p o (suc n) = ap (λ (b : Bool). cond b (suc (fixed_from r (suc o) n)) 0) (p.fixed 0 o) ∙ go (ltb o p.many) refl (fixed_from_lem r p (suc o) n)
  where
    go : (b : Bool) → ltb o p.many ≡ b → fixed_from r (suc o) n ≡ min n (p.many - suc o) → cond b (suc (fixed_from r (suc o) n)) 0 ≡ min (suc n) (p.many - o)
    go true e h = let l = ltb-true o p.many e in omega arith
    go false e h = let l = ltb-false o p.many e in omega arith

fixed_in_lem : (r : Row) (p : Plain r) → fixed_in r ≡ p.many
fixed_in_lem r p = let h = p.fits in fixed_from_lem r p 0 (size r) ∙ omega arith

-- ---- spans

same_tests : (b d : Bool) → (b ≡ true → d ≡ true) → (d ≡ true → b ≡ true) → b ≡ d
same_tests true d p q = sym (p refl)
same_tests false true p q = q refl
same_tests false false p q = refl

is_false : (b : Bool) → (b ≡ true → ⊥) → b ≡ false
is_false true p = absurd (p refl)
is_false false p = refl

pub is_inside : (x : Span) (a : ℕ) → x.first ≤ a → a < x.first + x.count → inside x a ≡ true
is_inside x a f g = rw (le-leb x.first a f, lt-ltb a (x.first + x.count) g)

pub inside_is : (x : Span) (a : ℕ) → inside x a ≡ true → (x.first ≤ a) × (a < x.first + x.count)
inside_is x a = go (leb x.first a) refl (ltb a (x.first + x.count)) refl
  where
    go : (b : Bool) → leb x.first a ≡ b → (d : Bool) → ltb a (x.first + x.count) ≡ d → b && d ≡ true → (x.first ≤ a) × (a < x.first + x.count)
    go true e true f t = (leb-true x.first a e, ltb-true a (x.first + x.count) f)
    go true e false f t = absurd (true≢false (sym t))
    go false e d f t = absurd (true≢false (sym t))

-- the first 64 words of a span, and the others
split_span : (f c a : ℕ) → inside (span f (min 64 c)) a || inside (span (f + 64) (c - 64)) a ≡ inside (span f c) a
split_span f c a = same_tests _ _ (to (inside (span f (min 64 c)) a) refl) from
  where
    to : (b : Bool) → inside (span f (min 64 c)) a ≡ b → b || inside (span (f + 64) (c - 64)) a ≡ true → inside (span f c) a ≡ true
    to true e t = let h = inside_is (span f (min 64 c)) a e in is_inside (span f c) a (omega arith) (omega arith)
    to false e t = let h = inside_is (span (f + 64) (c - 64)) a t in is_inside (span f c) a (omega arith) (omega arith)

    from : inside (span f c) a ≡ true → inside (span f (min 64 c)) a || inside (span (f + 64) (c - 64)) a ≡ true
    from t = let h = inside_is (span f c) a t in go h (ltb a (f + 64)) refl
      where
        go : (f ≤ a) × (a < f + c) → (b : Bool) → ltb a (f + 64) ≡ b → inside (span f (min 64 c)) a || inside (span (f + 64) (c - 64)) a ≡ true
        go h true e = let l = ltb-true a (f + 64) e in rw (is_inside (span f (min 64 c)) a (omega arith) (omega arith))
        go h false e = let l = ltb-false a (f + 64) e in rw (is_inside (span (f + 64) (c - 64)) a (omega arith) (omega arith)) (or-true (inside (span f (min 64 c)) a))

-- the frames of a span hold what it holds
cut_within : (x : Span) (l : List Span) (a j n : ℕ) → x.count ≤ 64 * (j + n)
    → within (cut x j n ++ l) a ≡ inside (span (x.first + 64 * j) (x.count - 64 * j)) a || within l a
unfolding cut
cut_within x l a j zero h = rw (is_false (inside (span (x.first + 64 * j) (x.count - 64 * j)) a) (λ t. let i = inside_is (span (x.first + 64 * j) (x.count - 64 * j)) a t in omega arith))
cut_within x l a j (suc n) h =
    let e : x.first + 64 * suc j ≡ x.first + 64 * j + 64 = omega arith in
    let f : x.count - 64 * suc j ≡ x.count - 64 * j - 64 = omega arith in
    ap (λ (b : Bool). inside (piece x j) a || b) (cut_within x l a (suc j) n (omega arith) ∙ rw (e, f))
    ∙ sym (or_assoc (inside (piece x j) a) (inside (span (x.first + 64 * j + 64) (x.count - 64 * j - 64)) a) (within l a))
    ∙ ap (λ (b : Bool). b || within l a) (split_span (x.first + 64 * j) (x.count - 64 * j) a)

frames_within : (l : List Span) (a : ℕ) → within (frames_of l) a ≡ within l a
unfolding frames_of
frames_within [] a = refl
frames_within (x ∷ l) a =
    let e : x.first + 64 * 0 ≡ x.first = omega arith in
    let f : x.count - 64 * 0 ≡ x.count = omega arith in
    (rw (e, f) at (cut_within x (frames_of l) a 0 (pieces x) (omega arith))) ∙ ap (λ (b : Bool). inside x a || b) (frames_within l a)

-- ---- the span of a row: its words that aren't fixed

module _ (r : Row) (p : Plain r) (a : ℕ) where
  in_span : holds r.region a ≡ true → inside (span_of r) a ≡ not (ltb (a - r.region.first) p.many)
  in_span e = rw (fixed_in_lem r p) (go (row_ends r.region a e) (ltb (a - r.region.first) p.many) refl)
    where
      go : (r.region.first ≤ a) × (a ≤ r.region.last) → (b : Bool) → ltb (a - r.region.first) p.many ≡ b
          → inside (span (r.region.first + p.many) (size r - p.many)) a ≡ not b
      go h true e = let l = ltb-true (a - r.region.first) p.many e in rw (lt-leb (r.region.first + p.many) a (omega arith))
      go h false e =
          let l = ltb-false (a - r.region.first) p.many e in
          is_inside (span (r.region.first + p.many) (size r - p.many)) a (omega arith) (omega arith)

  off_span : holds r.region a ≡ false → inside (span_of r) a ≡ false
  off_span e = is_false (inside (span_of r) a) (λ t. true≢false (sym (go (inside_is (span_of r) a t)) ∙ e))
    where
      go : (r.region.first + fixed_in r ≤ a) × (a < r.region.first + fixed_in r + (size r - fixed_in r)) → holds r.region a ≡ true
      go h = in_row r.region a (omega arith) (omega (arith, fixed_in_lem r p, p.fits))

-- ---- the table

module _ (a c : ℕ) where
  abbrev saved : Hit → Bool
  saved h = is_setting (named_in h c a) && not (is_fixed (named_in h c a))

  spans_within : (p : ℕ) (l : List Row) → T (ordered p l) → All Plain l → within (map span_of (holding l)) a ≡ saved (scan l a)
  unfolding holding scan
  spans_within p [] t q = refl
  spans_within p (r ∷ l) t q = go (holds r.region a) refl (is_setting (r.meaning 0 0)) refl (spans_within (suc r.region.last) l (rest p r l t) q.1)
    where
      -- past the row nothing more is held
      alone : holds r.region a ≡ true → scan l a ≡ miss
      alone e = let h = row_ends r.region a e in nowhere (suc r.region.last) l (rest p r l t) a (omega arith)

      go : (h : Bool) → holds r.region a ≡ h → (s : Bool) → is_setting (r.meaning 0 0) ≡ s → within (map span_of (holding l)) a ≡ saved (scan l a)
          → within (map span_of (cond s (r ∷ holding l) (holding l))) a ≡ saved (cond h (hit r) (scan l a))
      go true e true f i =
          rw (in_span r q.0 a e, i, alone e, q.0.same c (a - r.region.first), f, q.0.fixed c (a - r.region.first)) (or-false _)
      go true e false f i = rw (i, alone e, q.0.same c (a - r.region.first), f)
      go false e true f i = rw (off_span r q.0 a e) i
      go false e false f i = i

-- THE FRAMES HOLD EVERY SETTING THAT ISN'T FIXED, AND NOTHING ELSE
pub saved_are : SavedAre
unfolding SavedAre frames spans
saved_are a = frames_within (map span_of (holding regions)) a ∙ spans_within a (a / 0x1000) 0 regions in_order all_plain

-- ---- each frame

-- 1 to 64 words of a region that is read and written, each a setting that isn't fixed
pub record Good (x : Span) : Type 0 where
  pub some : 1 ≤ x.count
  pub few : x.count ≤ 64
  pub region : Region
  pub starts : region_of x.first ≡ Some region
  pub access : region.access ≡ ReadWrite
  pub ends : x.first + x.count ≤ suc region.last
  pub free : (a : ℕ) → inside x a ≡ true → (is_setting (register_of a) ≡ true) × (is_fixed (register_of a) ≡ false)

-- a rule of every span of a list
abbrev pub AllSpans : (Span → Type 0) → List Span → Type 0
AllSpans P [] = Unit
AllSpans P (x ∷ xs) = P x × AllSpans P xs

-- the scan finds a row at each of its addresses
Scanned : Row → Type 0
Scanned r = (a : ℕ) → holds r.region a ≡ true → scan regions a ≡ hit r

all_rows : (P : Row → Type 0) (l : List Row) → ((k : ℕ) → k < length l → P (get_or l k no_row)) → All P l
all_rows P [] f = tt
all_rows P (r ∷ l) f = (f 0 (omega arith), all_rows P l (λ k h. f (suc k) (omega arith)))

all_scanned : All Scanned regions
unfolding Scanned
all_scanned =
    all_rows Scanned regions (λ k h a e. let i = row_ends (get_or regions k no_row).region a e in found 0 regions in_order k a h i.0 i.1)

module _ (r : Row) (p : Plain r) (q : Scanned r) (s : is_setting (r.meaning 0 0) ≡ true) where
  free_at : (a : ℕ) → inside (span_of r) a ≡ true → holds r.region a ≡ true → (is_setting (register_of a) ≡ true) × (is_fixed (register_of a) ≡ false)
  unfolding Scanned
  free_at a i e =
      rw (q a e) (p.same (a / 0x1000) (a - r.region.first) ∙ s, p.fixed (a / 0x1000) (a - r.region.first) ∙ not-true _ (sym (in_span r p a e) ∙ i))

  piece_good : (j : ℕ) → 64 * j < size r - fixed_in r → Good (piece (span_of r) j)
  unfolding Scanned
  piece_good j h =
      let f : fixed_in r ≤ size r = omega (arith, fixed_in_lem r p, p.fits) in
      record {
        some = omega arith;
        few = omega arith;
        region = r.region;
        starts = rw (q (r.region.first + fixed_in r + 64 * j) (in_row r.region _ (omega arith) (omega arith)));
        access = p.access s;
        ends = omega arith;
        free =
            λ a e. let i = inside_is (piece (span_of r) j) a e in
            free_at a (is_inside (span_of r) a (omega arith) (omega arith)) (in_row r.region a (omega arith) (omega arith));
      }

  cut_good : (l : List Span) → AllSpans Good l → (j n : ℕ) → 64 * (j + n) < size r - fixed_in r + 64 → AllSpans Good (cut (span_of r) j n ++ l)
  unfolding cut
  cut_good l g j zero h = g
  cut_good l g j (suc n) h = (piece_good j (omega arith), cut_good l g (suc j) n (omega arith))

frames_good : (l : List Row) → All Plain l → All Scanned l → AllSpans Good (frames_of (map span_of (holding l)))
unfolding frames_of holding
frames_good [] p q = tt
frames_good (r ∷ l) p q = go (is_setting (r.meaning 0 0)) refl (frames_good l p.1 q.1)
  where
    go : (s : Bool) → is_setting (r.meaning 0 0) ≡ s → AllSpans Good (frames_of (map span_of (holding l))) → AllSpans Good (frames_of (map span_of (cond s (r ∷ holding l) (holding l))))
    go true e i = cut_good r p.0 q.0 e (frames_of (map span_of (holding l))) i 0 (pieces (span_of r)) (omega arith)
    go false e i = i

-- EVERY FRAME LIES IN ONE REGION, AND EACH OF ITS WORDS MAY BE WRITTEN
pub all_good : AllSpans Good frames
unfolding frames spans
all_good = frames_good regions all_plain all_scanned
