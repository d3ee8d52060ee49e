-- The settings keep their rules: a word stored where it was judged, an erase, and a reset. Each rule is looked at word by word: a store,
-- a fill or a reset leaves at each address the new word or the old one. Assumes nothing.
use Rattle.std.specs.Prelude.{None, Ok, Err}
use mathlib.Core.Path.{◌≡◌, refl, ◌∙◌}
use mathlib.Core.Bool.{Bool, true, false, not, cond}
use mathlib.Core.List.{List}
use mathlib.Core.Logic.{◌⊎◌}
use Prim.Native.Nat.{ℕ, zero, suc, ◌+◌, ◌-◌, ◌/◌, ◌≤◌, ◌<◌}
use native.Mathlib.Omega.{arith}
use lib.Dec.{leb, ltb}
use lib.ListN.{length, set, length-set, get_or-eq_default}
use lib.Seq.{get_or-set_same, get_or-set_other, set_out}
use borrow.Author.Tests.{ltb-true, ltb-false, leb-true, leb-false}
use Rattle.map.specs.declared.Setting.{Setting}
use Rattle.map.specs.declared.Setting.TheVariants as S
use Rattle.map.specs.declared.Register.{Register}
use Rattle.map.specs.declared.Register.TheVariants as R
use Rattle.map.specs.Map.{register_of, accepted_at}
use Rattle.map.specs.Register.{allowed, allowed_setting}
use Rattle.map.specs.Settings.{is_fixed}
use Rattle.map.specs.Addresses.{table_at, scale_at, offset_at}
use Rattle.map.proofs.Values.{accepted_is}
use Rattle.slots.specs.Slots.{other_of, filled, erased, OneLevel}
use Rattle.slots.proofs.Fills.{filled_length, filled_in, filled_out, erased_length}
use Rattle.slots.proofs.Holders.{one_level_off, one_level_stored, one_level_erased}
use Rattle.channel.specs.Channel.{word}
use Rattle.card.specs.declared.Card.{Card}
use Rattle.card.specs.Reset.{scales_reset, settings_reset}
use Rattle.transfer.specs.declared.Why.TheVariants.{Fixed, Value, Held, Running}
use Rattle.transfer.specs.Word.{held_at, running_at, judge_of}
use Rattle.history.specs.Sound.{Words}
use Rattle.history.proofs.Addresses.{slot_register}
use Rattle.history.proofs.Registers.{Kept, plain, fixed, slot, kept}
use Rattle.history.proofs.Fixed.{table0_fixed, scale0_fixed, offset0_fixed, scale_accepts}

-- ---- what an accepted word has passed

pub record Passed (s : List ℕ) (k : Card) (r : Register) (v : ℕ) : Type 0 where
  pub free : is_fixed r ≡ false
  pub value : allowed r v ≡ true
  pub alone : held_at s r v ≡ false
  pub still : running_at k r ≡ false

pub passed : (s : List ℕ) (k : Card) (r : Register) (v : ℕ) → judge_of s k r v ≡ Ok tt → Passed s k r v
unfolding judge_of
passed s k r v e = go (is_fixed r) refl (allowed r v) refl (held_at s r v) refl (running_at k r) refl e
  where
    go : (a : Bool) → is_fixed r ≡ a → (b : Bool) → allowed r v ≡ b → (c : Bool) → held_at s r v ≡ c → (d : Bool) → running_at k r ≡ d
        → cond a (Err Fixed) (cond (not b) (Err Value) (cond c (Err Held) (cond d (Err Running) (Ok (tt {0}))))) ≡ Ok tt → Passed s k r v
    go false p true q false i false j e = record { free = p; value = q; alone = i; still = j }
    go true p b q c i d j e = absurd cc
    go false p false q c i d j e = absurd cc
    go false p true q true i d j e = absurd cc
    go false p true q false i true j e = absurd cc

-- ---- a word of the list after a store, a fill, a reset

-- the new word at the address, or the old one
pub set_word : (P : ℕ → Type 0) (s : List ℕ) (a v b : ℕ) → (b ≡ a → P v) → P (word s b) → P (word (set s a v) b)
set_word P s a v b p q = grind (arith, set_out, get_or-set_same, get_or-set_other)

-- the word of the fill in its places, and the old one elsewhere
pub fill_word : (P : ℕ → Type 0) (n : ℕ) (s : List ℕ) (first w at : ℕ) → (first ≤ at → at < first + n → P w)
    → ((first ≤ at → at < first + n → at < length s → ⊥) → P (word s at)) → P (word (filled n s first w) at)
fill_word P n s first w at p q = go (leb first at) refl (ltb at (first + n)) refl (ltb at (length s)) refl
  where
    out : (first ≤ at → at < first + n → at < length s → ⊥) → P (word (filled n s first w) at)
    out o = rw (filled_out n s first w at o) (q o)

    go : (x : Bool) → leb first at ≡ x → (y : Bool) → ltb at (first + n) ≡ y → (z : Bool) → ltb at (length s) ≡ z → P (word (filled n s first w) at)
    go true e true f true g =
        let i = leb-true first at e in
        let j = ltb-true at (first + n) f in
        rw (filled_in n s first w at i j (ltb-true at (length s) g)) (p i j)
    go false e y f z g = out (λ i j k. absurd (omega (arith, leb-false first at e)))
    go true e false f z g = out (λ i j k. absurd (omega (arith, ltb-false at (first + n) f)))
    go true e true f false g = out (λ i j k. absurd (omega (arith, ltb-false at (length s) g)))

-- an address among channel c's scale factors
abbrev pub InScales : ℕ → ℕ → Type 0
InScales c at = (scale_at c 0 ≤ at) × (at < scale_at c 0 + 32)

-- after a reset a slot has 0xFE, a scale factor 0x0100, and any other word is 0
pub reset_word_lem : (P : ℕ → Type 0) (s : List ℕ) (at : ℕ) → length s ≡ 16960 → (0x4000 ≤ at → at < 0x4100 → P 0xFE)
    → ((c : ℕ) → c < 4 → InScales c at → P 0x0100) → ((0x4000 ≤ at → at < 0x4100 → ⊥) → ((c : ℕ) → c < 4 → InScales c at → ⊥) → P 0) → P (word (settings_reset s) at)
unfolding settings_reset
reset_word_lem P s at l p q r =
    fill_word P 256 s4 0x4000 0xFE at (λ f g. p f g)
    (λ h. fill_word P 32 s3 (scale_at 3 0) 0x0100 at (λ f g. q 3 (omega arith) (f, g))
    (λ h3. fill_word P 32 s2 (scale_at 2 0) 0x0100 at (λ f g. q 2 (omega arith) (f, g))
    (λ h2. fill_word P 32 s1 (scale_at 1 0) 0x0100 at (λ f g. q 1 (omega arith) (f, g))
    (λ h1. fill_word P 32 s0 (scale_at 0 0) 0x0100 at (λ f g. q 0 (omega arith) (f, g))
    (λ h0. let none : (c : ℕ) → c < 4 → InScales c at → ⊥ = λ c i j. none_of h0 h1 h2 h3 c i j in
    fill_word P 16960 s 0 0 at (λ f g. r (off h) none) (λ o. let g : length s ≤ at = past o in rw (get_or-eq_default s 0 {n = at} g) (r (off h) none)))))))
  where
    s0 : List ℕ
    s0 = filled 16960 s 0 0

    s1 : List ℕ
    s1 = scales_reset 0 s0

    s2 : List ℕ
    s2 = scales_reset 1 s1

    s3 : List ℕ
    s3 = scales_reset 2 s2

    s4 : List ℕ
    s4 = scales_reset 3 s3

    past : (0 ≤ at → at < 0 + 16960 → at < length s → ⊥) → length s ≤ at
    past o = grind arith

    l0 : length s0 ≡ 16960
    l0 = filled_length 16960 s 0 0 ∙ l

    l1 : length s1 ≡ 16960
    l1 = filled_length 32 s0 (scale_at 0 0) 0x0100 ∙ l0

    l2 : length s2 ≡ 16960
    l2 = filled_length 32 s1 (scale_at 1 0) 0x0100 ∙ l1

    l3 : length s3 ≡ 16960
    l3 = filled_length 32 s2 (scale_at 2 0) 0x0100 ∙ l2

    l4 : length s4 ≡ 16960
    l4 = filled_length 32 s3 (scale_at 3 0) 0x0100 ∙ l3

    off : (0x4000 ≤ at → at < 0x4000 + 256 → at < length s4 → ⊥) → 0x4000 ≤ at → at < 0x4100 → ⊥
    off h f g = h f g (omega (arith, l4))

    none_of : (scale_at 0 0 ≤ at → at < scale_at 0 0 + 32 → at < length s0 → ⊥) → (scale_at 1 0 ≤ at → at < scale_at 1 0 + 32 → at < length s1 → ⊥)
        → (scale_at 2 0 ≤ at → at < scale_at 2 0 + 32 → at < length s2 → ⊥) → (scale_at 3 0 ≤ at → at < scale_at 3 0 + 32 → at < length s3 → ⊥)
        → (c : ℕ) → c < 4 → InScales c at → ⊥
    none_of h0 h1 h2 h3 zero i j = h0 j.0 j.1 (omega (arith, l0))
    none_of h0 h1 h2 h3 (suc zero) i j = h1 j.0 j.1 (omega (arith, l1))
    none_of h0 h1 h2 h3 (suc (suc zero)) i j = h2 j.0 j.1 (omega (arith, l2))
    none_of h0 h1 h2 h3 (suc (suc (suc zero))) i j = h3 j.0 j.1 (omega (arith, l3))
    none_of h0 h1 h2 h3 (suc (suc (suc (suc c)))) i j = absurd (omega arith)

-- ---- the registers that a store, an erase and a reset meet

-- no slot is fixed
slot_free : (a : ℕ) → 0x4000 ≤ a → a < 0x4100 → is_fixed (register_of a) ≡ false
slot_free a f g = rw (slot_register a f g)

slot_accepts : (a : ℕ) → 0x4000 ≤ a → a < 0x4100 → accepted_at a 0xFE ≡ true
slot_accepts a f g = accepted_is a 0xFE ∙ rw (slot_register a f g)

-- every setting accepts 0
zero_setting : (s : Setting) → allowed_setting s 0 ≡ true
zero_setting S.Value = refl
zero_setting S.Step = refl
zero_setting S.RampMap = refl
zero_setting S.ScaleMap = refl
zero_setting S.Scale = refl
zero_setting S.OffsetMap = refl
zero_setting S.Offset = refl
zero_setting S.Delay = refl
zero_setting S.FrequencyMap = refl
zero_setting S.Frequency = refl
zero_setting S.PhaseMap = refl
zero_setting S.Phase = refl
zero_setting S.WaveformEnable = refl
zero_setting S.WaveformMode = refl
zero_setting S.ClockEnable = refl

zero_allowed : (r : Register) → Kept r → allowed r 0 ≡ true
zero_allowed r (plain s e) = rw e (zero_setting s)
zero_allowed r (fixed s e) = rw e (zero_setting s)
zero_allowed r (slot l e) = rw e

-- an event that is held by no other level, or null
free_event : (s : List ℕ) (l v : ℕ) → held_at s (R.Slot l) v ≡ false → (v ≡ 0xFE) ⊎ (other_of s v l ≡ None)
free_event s l v = grind arith

-- ---- a store, an erase, a reset

module _ (s : List ℕ) (w : Words s) where
  store_one : (k : Card) (a v : ℕ) → Passed s k (register_of a) v → OneLevel (set s a v)
  store_one k a v p = go (leb 0x4000 a) refl (ltb a 0x4100) refl
    where
      off : (0x4000 ≤ a → a < 0x4100 → ⊥) → OneLevel (set s a v)
      off o = one_level_off s a v o w.one

      go : (x : Bool) → leb 0x4000 a ≡ x → (y : Bool) → ltb a 0x4100 ≡ y → OneLevel (set s a v)
      go true e true f =
          let i = leb-true 0x4000 a e in
          let j = ltb-true a 0x4100 f in
          let n : ℕ = a - 0x4000 in
          let d : 0x4000 + (a - 0x4000) ≡ a = omega arith in
          let h : held_at s (R.Slot ((a - 0x4000) / 8)) v ≡ false = rw (slot_register a i j) at p.alone in
          let l : 0x4100 ≤ length s = omega (arith, w.many) in
          rw (← d) (one_level_stored s (a - 0x4000) v l (omega arith) w.one (free_event s ((a - 0x4000) / 8) v h))
      go false e y f = off (λ i j. absurd (omega (arith, leb-false 0x4000 a e)))
      go true e false f = off (λ i j. absurd (omega (arith, ltb-false a 0x4100 f)))

  -- a fixed word is not stored to
  fixed_kept : (k : Card) (a v b z : ℕ) → Passed s k (register_of a) v → is_fixed (register_of b) ≡ true → word s b ≡ z → word (set s a v) b ≡ z
  fixed_kept k a v b z p f e = set_word (λ y. y ≡ z) s a v b (λ d. absurd cc) e

  pub stored : (k : Card) (a v : ℕ) → v < 65536 → Passed s k (register_of a) v → Words (set s a v)
  stored k a v h p =
      record {
        many = length-set s a v ∙ w.many;
        small = λ b. set_word (λ y. y < 65536) s a v b (λ e. h) (w.small b);
        accepted = λ b e. set_word (λ y. accepted_at b y ≡ true) s a v b (λ d. rw d (accepted_is a v ∙ p.value)) (w.accepted b e);
        table0 = λ c i f g. fixed_kept k a v (table_at c 0 + i) 0 p (table0_fixed c i f g) (w.table0 c i f g);
        scale0 = λ c f. fixed_kept k a v (scale_at c 0) 0x0100 p (scale0_fixed c f) (w.scale0 c f);
        offset0 = λ c f. fixed_kept k a v (offset_at c 0) 0 p (offset0_fixed c f) (w.offset0 c f);
        one = store_one k a v p;
      }

  fixed_erased : (b z : ℕ) → is_fixed (register_of b) ≡ true → word s b ≡ z → word (erased s) b ≡ z
  fixed_erased b z f e = fill_word (λ y. y ≡ z) 256 s 0x4000 0xFE b (λ i j. absurd (cc (slot_free b i j))) (λ o. e)

  pub erased_words : Words (erased s)
  erased_words =
      record {
        many = erased_length s ∙ w.many;
        small = λ b. fill_word (λ y. y < 65536) 256 s 0x4000 0xFE b (λ i j. omega arith) (λ o. w.small b);
        accepted = λ b e. fill_word (λ y. accepted_at b y ≡ true) 256 s 0x4000 0xFE b (λ i j. slot_accepts b i j) (λ o. w.accepted b e);
        table0 = λ c i f g. fixed_erased (table_at c 0 + i) 0 (table0_fixed c i f g) (w.table0 c i f g);
        scale0 = λ c f. fixed_erased (scale_at c 0) 0x0100 (scale0_fixed c f) (w.scale0 c f);
        offset0 = λ c f. fixed_erased (offset_at c 0) 0 (offset0_fixed c f) (w.offset0 c f);
        one = one_level_erased s (omega (arith, w.many));
      }

pub reset_length : (s : List ℕ) → length (settings_reset s) ≡ length s
unfolding settings_reset
reset_length s =
    erased_length _ ∙ filled_length 32 _ (scale_at 3 0) 0x0100 ∙ filled_length 32 _ (scale_at 2 0) 0x0100 ∙ filled_length 32 _ (scale_at 1 0) 0x0100
    ∙ filled_length 32 _ (scale_at 0 0) 0x0100 ∙ filled_length 16960 s 0 0

reset_one : (s : List ℕ) → length s ≡ 16960 → OneLevel (settings_reset s)
unfolding settings_reset
reset_one s l = one_level_erased _ (omega (arith, l, filled_length 32 (scales_reset 2 (scales_reset 1 (scales_reset 0 (filled 16960 s 0 0)))) (scale_at 3 0) 0x0100, filled_length 32 (scales_reset 1 (scales_reset 0 (filled 16960 s 0 0))) (scale_at 2 0) 0x0100, filled_length 32 (scales_reset 0 (filled 16960 s 0 0)) (scale_at 1 0) 0x0100, filled_length 32 (filled 16960 s 0 0) (scale_at 0 0) 0x0100, filled_length 16960 s 0 0))

pub reset_words : (s : List ℕ) → length s ≡ 16960 → Words (settings_reset s)
reset_words s l =
    record {
      many = reset_length s ∙ l;
      small = λ a. reset_word_lem (λ y. y < 65536) s a l (λ f g. omega arith) (λ c h i. omega arith) (λ o n. omega arith);
      accepted =
          λ a e. reset_word_lem (λ y. accepted_at a y ≡ true) s a l (slot_accepts a) (λ c h i. scale_accepts c a 0x0100 h i.0 i.1)
          (λ o n. accepted_is a 0 ∙ zero_allowed (register_of a) (kept (register_of a) e));
      table0 =
          λ c i f g. reset_word_lem (λ y. y ≡ 0) s (table_at c 0 + i) l (λ u v. absurd (omega arith)) (λ d h j. absurd (omega arith)) (λ o n. refl);
      scale0 =
          λ c f. reset_word_lem (λ y. y ≡ 0x0100) s (scale_at c 0) l (λ u v. absurd (omega arith)) (λ d h j. refl)
          (λ o n. absurd (n c f (omega arith, omega arith)));
      offset0 = λ c f. reset_word_lem (λ y. y ≡ 0) s (offset_at c 0) l (λ u v. absurd (omega arith)) (λ d h j. absurd (omega arith)) (λ o n. refl);
      one = reset_one s l;
    }
