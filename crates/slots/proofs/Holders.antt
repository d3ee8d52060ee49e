-- The search of the slots: what its answer means, slot by slot; and that no event but 0xFE is held by two levels, which a store keeps
-- where no other level holds the new event. Assumes nothing.
use Rattle.std.specs.Prelude.{Option, Some, None}
use mathlib.Core.Path.{◌≡◌, refl, sym, ap, ◌∙◌}
use mathlib.Core.Bool.{Bool, true, false, not, ◌&&◌, cond, true≢false}
use mathlib.Core.List.{List}
use mathlib.Core.Logic.{◌⊎◌, inl, inr}
use Prim.Native.Nat.{ℕ, zero, suc, ◌+◌, ◌-◌, ◌≤◌, ◌<◌}
use native.Mathlib.Numerals.{add-one}
use native.Mathlib.Omega.{arith}
use lib.Dec.{eqb}
use lib.ListN.{length, set}
use lib.Seq.{get_or-set_same, get_or-set_other}
use borrow.Author.Tests.{eq-eqb, ne_eqb, eqb-true, eqb-false}
use Rattle.slots.specs.Slots.{slot_of, level_of, holds, holder_from, holder_of, other_of, erased, OneLevel}
use Rattle.slots.proofs.Fills.{erased_slot}

-- ---- one turn of the search: it ends at slot n, or goes on; after slot 255 it ends

module _ (words : List ℕ) (event but n : ℕ) (h : n < 256) where
  pub here : holds words event but n ≡ true → holder_from words event but (256 - n) n ≡ Some (level_of n)
  unfolding holder_from
  here t = let e : 256 - n ≡ suc (255 - n) = omega arith in rw (e, t)

  pub on : holds words event but n ≡ false → holder_from words event but (256 - (n + 1)) (n + 1) ≡ holder_from words event but (256 - n) n
  unfolding holder_from
  on t =
      let e : 256 - n ≡ suc (255 - n) = omega arith in
      let f : 256 - (n + 1) ≡ 255 - n = omega arith in
      rw (e, t, f, add-one)

pub after : (words : List ℕ) (event but n : ℕ) → 256 ≤ n → holder_from words event but (256 - n) n ≡ None
unfolding holder_from
after words event but n h = let e : 256 - n ≡ 0 = omega arith in rw e

-- ---- the whole search; `holder_of` is the case of level 32, which there is not

-- a slot of level l, which is not the level that is passed over, holds the event
pub record Held (words : List ℕ) (event but l : ℕ) : Type 0 where
  pub slot : ℕ
  pub inside : slot < 256
  pub level : level_of slot ≡ l
  pub other : l ≡ but → ⊥
  pub stored : slot_of words slot ≡ event

-- the answer is a level, and so is not nobody
pub record SomeLevel (r : Option ℕ) : Type 0 where
  pub level : ℕ
  pub is : r ≡ Some level

pub not_nobody : (r : Option ℕ) → SomeLevel r → r ≡ None → ⊥
not_nobody r s e = cc s.is

module _ (words : List ℕ) (event but : ℕ) where
  -- what the test of a slot tells
  test_true : (n : ℕ) → holds words event but n ≡ true → (slot_of words n ≡ event) × (level_of n ≡ but → ⊥)
  test_true n = go (eqb (level_of n) but) refl (eqb (slot_of words n) event) refl
    where
      go : (a : Bool) → eqb (level_of n) but ≡ a → (b : Bool) → eqb (slot_of words n) event ≡ b → not a && b ≡ true → (slot_of words n ≡ event) × (level_of n ≡ but → ⊥)
      go false p true q z = (eqb-true (slot_of words n) event q, eqb-false (level_of n) but p)
      go false p false q z = absurd (true≢false (sym z))
      go true p b q z = absurd (true≢false (sym z))

  test_false : (n : ℕ) → holds words event but n ≡ false → slot_of words n ≡ event → level_of n ≡ but
  test_false n f w = go (eqb (level_of n) but) refl
    where
      go : (a : Bool) → eqb (level_of n) but ≡ a → level_of n ≡ but
      go true p = eqb-true (level_of n) but p
      go false p = absurd (true≢false (rw (eq-eqb (slot_of words n) event w, ne_eqb (level_of n) but (eqb-false (level_of n) but p)) at f))

  -- the answer of k slots from slot n on: a slot that passes the test, or none of them does
  data Look (k n : ℕ) : Option ℕ → Type 0 where
    hit : (m : ℕ) → n ≤ m → m < n + k → holds words event but m ≡ true → Look k n (Some (level_of m))
    none : ((m : ℕ) → n ≤ m → m < n + k → holds words event but m ≡ false) → Look k n None

  passed : (k n : ℕ) (r : Option ℕ) → holds words event but n ≡ false → Look k (suc n) r → Look (suc k) n r
  passed k n _ f (hit m p q t) = hit m (omega arith) (omega arith) t
  passed k n _ f (none g) = none (λ m p q. go m (eqb m n) refl p q)
    where
      go : (m : ℕ) (b : Bool) → eqb m n ≡ b → n ≤ m → m < n + suc k → holds words event but m ≡ false
      go m true w p q = rw (eqb-true m n w) f
      go m false w p q = let d = eqb-false m n w in g m (omega arith) (omega arith)

  look : (k n : ℕ) → Look k n (holder_from words event but k n)
  unfolding holder_from
  look zero n = none (λ m p q. absurd (omega arith))
  look (suc k) n = go (holds words event but n) refl (look k (suc n))
    where
      go : (b : Bool) → holds words event but n ≡ b → Look k (suc n) (holder_from words event but k (suc n))
          → Look (suc k) n (cond b (Some (level_of n)) (holder_from words event but k (suc n)))
      go true w r = hit n (omega arith) (omega arith) w
      go false w r = passed k n _ w r

  -- A LEVEL: one of its slots holds the event
  pub level_held : (l : ℕ) → other_of words event but ≡ Some l → Held words event but l
  level_held l e = go (other_of words event but) (look 256 0) e
    where
      go : (r : Option ℕ) → Look 256 0 r → r ≡ Some l → Held words event but l
      go _ (hit m p q t) e =
          let y = test_true m t in
          let d : level_of m ≡ l = cc in
          record { slot = m; inside = omega arith; level = d; other = rw d at y.1; stored = y.0 }
      go _ (none g) e = absurd cc

  -- NOBODY: a slot that holds the event is of the level that is passed over; and the other way round
  pub nobody_holds : other_of words event but ≡ None → (n : ℕ) → n < 256 → slot_of words n ≡ event → level_of n ≡ but
  nobody_holds e n h w = go (other_of words event but) (look 256 0) e
    where
      go : (r : Option ℕ) → Look 256 0 r → r ≡ None → level_of n ≡ but
      go _ (hit m p q t) e = cc
      go _ (none g) e = test_false n (g n (omega arith) (omega arith)) w

  pub nobody_if : ((n : ℕ) → n < 256 → slot_of words n ≡ event → level_of n ≡ but) → other_of words event but ≡ None
  nobody_if f = go (other_of words event but) (look 256 0)
    where
      go : (r : Option ℕ) → Look 256 0 r → r ≡ None
      go _ (hit m p q t) = let y = test_true m t in absurd (y.1 (f m (omega arith) y.0))
      go _ (none g) = refl

  -- a slot of another level that holds the event makes the answer a level
  pub held_some : (n : ℕ) → n < 256 → slot_of words n ≡ event → (level_of n ≡ but → ⊥) → SomeLevel (other_of words event but)
  held_some n h w d = go (other_of words event but) (look 256 0)
    where
      go : (r : Option ℕ) → Look 256 0 r → SomeLevel r
      go _ (hit m p q t) = record { level = level_of m; is = refl }
      go _ (none g) = absurd (d (test_false n (g n (omega arith) (omega arith)) w))

-- ---- no event but 0xFE is held by slots of two levels

-- so the level of any slot that holds an event is its holder
pub holder_level : (words : List ℕ) → OneLevel words → (event n : ℕ) → (event ≡ 0xFE → ⊥) → n < 256 → slot_of words n ≡ event → holder_of words event ≡ Some (level_of n)
holder_level words one event n x h w = s.is ∙ ap Some (sym y.level ∙ one y.slot n y.inside h (y.stored ∙ sym w) (λ z. x (sym y.stored ∙ z)))
  where
    s : SomeLevel (holder_of words event)
    s = held_some words event 32 n h w (λ d. omega arith)

    y : Held words event 32 s.level
    y = level_held words event 32 s.level s.is

-- a slot keeps its word where the store is elsewhere
stored_else : (words : List ℕ) (at v n : ℕ) → (0x4000 + n ≡ at → ⊥) → slot_of (set words at v) n ≡ slot_of words n
stored_else words at v n d = get_or-set_other words at (0x4000 + n) v 0 d

-- a store that is in no slot keeps it
pub one_level_off : (words : List ℕ) (at v : ℕ) → (0x4000 ≤ at → at < 0x4100 → ⊥) → OneLevel words → OneLevel (set words at v)
one_level_off words at v o one m n p q w x =
    let em = stored_else words at v m (λ e. o (omega arith) (omega arith)) in
    let en = stored_else words at v n (λ e. o (omega arith) (omega arith)) in
    one m n p q (sym em ∙ w ∙ en) (λ z. x (em ∙ z))

-- THE RULE: so does a slot that takes the null event, or one that no other level holds
pub one_level_stored : (words : List ℕ) (n v : ℕ) → 0x4100 ≤ length words → n < 256 → OneLevel words → (v ≡ 0xFE) ⊎ (other_of words v (level_of n) ≡ None) → OneLevel (set words (0x4000 + n) v)
one_level_stored words n v l h one free j k p q w x = go (eqb j n) refl (eqb k n) refl
  where
    -- the slot itself, and a slot that keeps its word
    new : (m : ℕ) → m ≡ n → slot_of (set words (0x4000 + n) v) m ≡ v
    new m e = rw e (get_or-set_same words (0x4000 + n) v 0 (omega arith))

    old : (m : ℕ) → (m ≡ n → ⊥) → slot_of (set words (0x4000 + n) v) m ≡ slot_of words m
    old m d = stored_else words (0x4000 + n) v m (λ e. d (omega arith))

    -- a slot that holds the new event is of slot n's level
    beside : (m : ℕ) → m < 256 → slot_of words m ≡ v → (v ≡ 0xFE → ⊥) → (v ≡ 0xFE) ⊎ (other_of words v (level_of n) ≡ None) → level_of m ≡ level_of n
    beside m p w x (inl e) = absurd (x e)
    beside m p w x (inr e) = nobody_holds words v (level_of n) e m p w

    go : (a : Bool) → eqb j n ≡ a → (b : Bool) → eqb k n ≡ b → level_of j ≡ level_of k
    go true a true b = let e : j ≡ k = omega (arith, eqb-true j n a, eqb-true k n b) in rw e
    go true a false b =
        let i = eqb-true j n a in
        let y = new j i in
        let o = old k (eqb-false k n b) in
        ap level_of i ∙ sym (beside k q (sym o ∙ sym w ∙ y) (λ z. x (y ∙ z)) free)
    go false a true b =
        let i = eqb-true k n b in
        let y = new k i in
        let o = old j (eqb-false j n a) in
        beside j p (sym o ∙ w ∙ y) (λ z. x (w ∙ y ∙ z)) free ∙ sym (ap level_of i)
    go false a false b =
        let f = old j (eqb-false j n a) in
        let g = old k (eqb-false k n b) in
        one j k p q (sym f ∙ w ∙ g) (λ z. x (f ∙ z))

-- and the erased slots have it
pub one_level_erased : (words : List ℕ) → 0x4100 ≤ length words → OneLevel (erased words)
one_level_erased words l m n p q w x = absurd (x (erased_slot words m l p))
