-- The frames of a sound card's settings s, fed to a card whose slots hold what they hold in s, or 0xFE: every word is done, each answer is 0
-- with all words processed, and nothing but settings changes (`all_played`); after it the words of the frames are those of s, and a word
-- that was so before still is (`laid_new`, `laid_kept`). Assumes nothing.
use Rattle.std.specs.Prelude.{Ok, Some}
use mathlib.Core.Path.{◌≡◌, refl, sym, ap, ◌∙◌}
use mathlib.Core.Bool.{Bool, true, false, not, ◌&&◌, ◌||◌}
use mathlib.Core.List.{List, [], ◌∷◌, map}
use mathlib.Core.Logic.{◌⊎◌, inl, inr}
use Prim.Native.Nat.{ℕ, zero, suc, ◌+◌, ◌-◌, ◌/◌, ◌≤◌, ◌<◌}
use native.Mathlib.Numerals.{add-one}
use native.Mathlib.Omega.{arith}
use lib.Dec.{eqb}
use lib.ListN.{length, set, length-set}
use lib.Seq.{sets, get_or-set_same, take_all}
use borrow.Author.Tests.{eqb-true, eqb-false, ne_eqb, le-ltb}
use Rattle.map.specs.declared.Register.{Register}
use Rattle.map.specs.Map.{register_of}
use Rattle.map.specs.Register.{allowed}
use Rattle.map.specs.Settings.{is_setting, is_fixed}
use Rattle.map.proofs.Values.{accepted_is}
use Rattle.map.proofs.Room.{named_below}
use Rattle.slots.specs.Slots.{slot_of, level_of, other_of}
use Rattle.slots.proofs.Holders.{nobody_if}
use Rattle.channel.specs.Channel.{word}
use Rattle.card.specs.declared.Card.{Card}
use Rattle.card.specs.Card.{state}
use Rattle.transfer.specs.declared.Effect.TheVariants.{Keep}
use Rattle.transfer.specs.Word.{is_level, held_at, running_at, judge_of, effect_of, one, write_word}
use Rattle.transfer.specs.Transfer.{out, write_words, write_of}
use Rattle.line.specs.Answer.{head_of, step, step_of}
use Rattle.line.specs.Session.{answers_of, played_of}
use Rattle.line.proofs.Frames.{step_is}
use Rattle.line.specs.declared.Frame.TheVariants.{Write}
use Rattle.saved.specs.declared.Span.{Span}
use Rattle.saved.specs.Saved.{words_at, frame_text}
use Rattle.saved.specs.Laws.{inside, within}
use Rattle.saved.proofs.Text.{length_words_at}
use Rattle.saved.proofs.Covered.{is_inside, inside_is, Good, AllSpans}
use Rattle.history.specs.Sound.{Words}
use Rattle.history.proofs.Addresses.{sits, slot_register}
use Rattle.history.proofs.Registers.{Kept, plain, fixed, slot, kept}
use Rattle.history.proofs.Settings.{setting_named}
use Rattle.history.proofs.Words.{set_word}
use Rattle.restored.specs.Restored.{answered_all}
use Rattle.restored.proofs.Lines.{frame_is, words_are}

-- ---- settings on their way to s

-- each slot holds what it holds in s, or nothing yet
pub record Partly (s t : List ℕ) : Type 0 where
  pub many : length t ≡ 16960
  pub slots : (n : ℕ) → n < 256 → (slot_of t n ≡ slot_of s n) ⊎ (slot_of t n ≡ 0xFE)

pub below : (a : ℕ) → is_setting (register_of a) ≡ true → a < 16960
below a e = named_below a (setting_named (register_of a) (kept (register_of a) e))

module _ (s t : List ℕ) (a : ℕ) where
  -- one more word
  set_partly : Partly s t → Partly s (set t a (word s a))
  set_partly p =
      record {
        many = length-set t a (word s a) ∙ p.many;
        slots = λ n h. set_word (λ y. (y ≡ slot_of s n) ⊎ (y ≡ 0xFE)) t a (word s a) (0x4000 + n) (λ e. inl (ap (word s) (sym e))) (p.slots n h);
      }

  set_kept : (b : ℕ) → word t b ≡ word s b → word (set t a (word s a)) b ≡ word s b
  set_kept b e = set_word (λ y. y ≡ word s b) t a (word s a) b (λ d. ap (word s) (sym d)) e

-- words one after the other
sets_partly : (s t : List ℕ) (a n : ℕ) → Partly s t → Partly s (sets t a (words_at s a n))
unfolding words_at
sets_partly s t a zero p = p
sets_partly s t a (suc n) p = sets_partly s (set t a (word s a)) (suc a) n (set_partly s t a p)

sets_kept : (s t : List ℕ) (a n b : ℕ) → word t b ≡ word s b → word (sets t a (words_at s a n)) b ≡ word s b
unfolding words_at
sets_kept s t a zero b e = e
sets_kept s t a (suc n) b e = sets_kept s (set t a (word s a)) (suc a) n b (set_kept s t a b e)

sets_new : (s t : List ℕ) (a n b : ℕ) → b < length t → a ≤ b → b < a + n → word (sets t a (words_at s a n)) b ≡ word s b
unfolding words_at
sets_new s t a zero b l f g = absurd (omega arith)
sets_new s t a (suc n) b l f g = go (eqb b a) refl (sets_new s (set t a (word s a)) (suc a) n b (omega (arith, length-set t a (word s a))))
  where
    go : (x : Bool) → eqb b a ≡ x → (suc a ≤ b → b < suc a + n → word (sets (set t a (word s a)) (suc a) (words_at s (suc a) n)) b ≡ word s b)
        → word (sets (set t a (word s a)) (suc a) (words_at s (suc a) n)) b ≡ word s b
    go true e r =
        let d = eqb-true b a e in
        sets_kept s (set t a (word s a)) (suc a) n b (rw d (get_or-set_same t a (word s a) 0 (omega arith)))
    go false e r = let d = eqb-false b a e in r (omega arith) (omega arith)

-- frames one after the other
unfoldable pub laid : List ℕ → List ℕ → List Span → List ℕ
laid s t [] = t
laid s t (x ∷ l) = laid s (sets t x.first (words_at s x.first x.count)) l

pub laid_kept : (s t : List ℕ) (l : List Span) (b : ℕ) → word t b ≡ word s b → word (laid s t l) b ≡ word s b
unfolding laid
laid_kept s t [] b e = e
laid_kept s t (x ∷ l) b e = laid_kept s (sets t x.first (words_at s x.first x.count)) l b (sets_kept s t x.first x.count b e)

pub laid_new : (s t : List ℕ) (l : List Span) (b : ℕ) → Partly s t → b < 16960 → within l b ≡ true → word (laid s t l) b ≡ word s b
unfolding laid
laid_new s t [] b p h e = absurd cc
laid_new s t (x ∷ l) b p h e = go (inside x b) refl e (laid_new s next l b (sets_partly s t x.first x.count p) h)
  where
    next : List ℕ
    next = sets t x.first (words_at s x.first x.count)

    go : (d : Bool) → inside x b ≡ d → d || within l b ≡ true → (within l b ≡ true → word (laid s next l) b ≡ word s b) → word (laid s next l) b ≡ word s b
    go true e f r =
        let i = inside_is x b e in
        laid_kept s next l b (sets_new s t x.first x.count b (omega (arith, p.many)) i.0 i.1)
    go false e f r = r f

-- ---- a word of s is done

-- a setting that isn't fixed is kept, and no ramp is asked
keeps : (r : Register) → Kept r → is_fixed r ≡ false → (v : ℕ) (k : Card) → (effect_of r v ≡ Keep v) × (running_at k r ≡ false)
keeps r (plain s e) f v k = rw e (refl, refl)
keeps r (fixed s e) f v k = absurd cc
keeps r (slot l e) f v k = rw e (refl, refl)

module _ (s : List ℕ) (w : Words s) (t : List ℕ) (p : Partly s t) (a : ℕ) where
  -- no other level holds it, since in s none does
  slot_free : 0x4000 ≤ a → a < 0x4100 → held_at t (register_of a) (word s a) ≡ false
  slot_free f g = rw (slot_register a f g) (go (eqb (word s a) 0xFE) refl)
    where
      d : 0x4000 + (a - 0x4000) ≡ a
      d = omega arith

      same : (n : ℕ) → n < 256 → slot_of t n ≡ word s a → (word s a ≡ 0xFE → ⊥) → (slot_of t n ≡ slot_of s n) ⊎ (slot_of t n ≡ 0xFE) → level_of n ≡ level_of (a - 0x4000)
      same n h e x (inl q) = w.one n (a - 0x4000) h (omega arith) (sym q ∙ e ∙ ap (word s) (sym d)) (λ z. x (sym e ∙ q ∙ z))
      same n h e x (inr q) = absurd (x cc)

      go : (b : Bool) → eqb (word s a) 0xFE ≡ b → not b && is_level (other_of t (word s a) ((a - 0x4000) / 8)) ≡ false
      go true e = refl
      go false e = rw (nobody_if t (word s a) ((a - 0x4000) / 8) (λ n h i. same n h i (eqb-false (word s a) 0xFE e) (p.slots n h)))

  not_held : Kept (register_of a) → held_at t (register_of a) (word s a) ≡ false
  not_held (plain x e) = rw e
  not_held (fixed x e) = rw e
  not_held (slot l e) = let i : (0x4000 ≤ a) × (a < 0x4100) = rw e at (sits a) in slot_free i.0 i.1

  word_done : (k : Card) (l : List ℕ) → is_setting (register_of a) ≡ true → is_fixed (register_of a) ≡ false
      → write_word (state k t l) a (word s a) ≡ one (state k (set t a (word s a)) l) (Ok tt)
  unfolding write_word judge_of
  word_done k l e f =
      let q = kept (register_of a) e in
      let n = keeps (register_of a) q f (word s a) k in
      let v : allowed (register_of a) (word s a) ≡ true = sym (accepted_is a (word s a)) ∙ w.accepted a e in
      rw (f, v, not_held q, n.1, n.0)

-- ---- a frame of s is done

module _ (s : List ℕ) (w : Words s) (k : Card) (l : List ℕ) where
  -- its words, after i of them
  words_done_lem : (t : List ℕ) (a last i n : ℕ) → Partly s t → ((b : ℕ) → a ≤ b → b < a + n → (is_setting (register_of b) ≡ true) × (is_fixed (register_of b) ≡ false)) → a + n ≤ suc last
      → write_words (state k t l) a last i (words_at s a n) ≡ out (state k (sets t a (words_at s a n)) l) (Ok (i + n))
  unfolding write_words words_at
  words_done_lem t a last i zero p f h = ap (λ (m : ℕ). out (state k t l) (Ok m)) (omega arith)
  words_done_lem t a last i (suc n) p f h =
      let g = f a (omega arith) (omega arith) in
      let e : i + 1 + n ≡ i + suc n = omega arith in
      rw (le-ltb last a (omega arith), word_done s w t p a k l g.0 g.1, add-one a)
      (cc (words_done_lem (set t a (word s a)) (suc a) last (i + 1) n (set_partly s t a p) (λ b u v. f b (omega arith) (omega arith)) (omega arith)))

  frame_done : (t : List ℕ) (x : Span) → Partly s t → Good x
      → write_of (state k t l) x.first x.count (words_at s x.first x.count) ≡ out (state k (sets t x.first (words_at s x.first x.count)) l) (Ok x.count)
  unfolding write_of
  frame_done t x p g =
      let n = length_words_at s x.first x.count in
      let z : 0 + x.count ≡ x.count = omega arith in
      rw (n, ne_eqb x.count 0 (λ e. absurd (omega (arith, g.some))), le-ltb 16381 x.count (omega (arith, g.few)), le-ltb x.count x.count (omega arith), g.starts, g.access, take_all x.count (words_at s x.first x.count) (omega arith))
      (rw z at (words_done_lem t x.first g.region.last 0 x.count p (λ b u v. g.free b (is_inside x b u v)) g.ends))

  -- its line is answered with 0, all its words processed
  line_done : (z t : List ℕ) (x : Span) → Partly s t → Good x
      → step_of z (state k t l) (frame_text s x) ≡ step (state k (sets t x.first (words_at s x.first x.count)) l) (head_of 0x81 0 x.count)
  line_done z t x p g =
      let b = below x.first (g.free x.first (is_inside x x.first (omega arith) (omega (arith, g.some)))).0 in
      cc (step_is z (state k t l) (frame_text s x) (Some (Write x.first x.count)) (frame_is s x (omega arith) g.few), words_are s x w.small, frame_done t x p g)

  -- ALL FRAMES ARE DONE
  pub all_played : (z t : List ℕ) (fs : List Span) → Partly s t → AllSpans Good fs
      → (played_of z (state k t l) (map (frame_text s) fs) ≡ state k (laid s t fs) l) × (answers_of z (state k t l) (map (frame_text s) fs) ≡ answered_all fs)
  unfolding played_of answers_of laid
  all_played z t [] p g = (refl, refl)
  all_played z t (x ∷ fs) p g =
      let r = all_played z (sets t x.first (words_at s x.first x.count)) fs (sets_partly s t x.first x.count p) g.1 in
      let e = line_done z t x p g.0 in (
        cc,
        cc,
      )
