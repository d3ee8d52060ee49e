-- Saved lines, fed to a fresh card of either edition, are all answered 0 and leave the same settings (`restored`); and two cards give equal lines exactly
-- when their settings are equal (`equal_lines`). Assumes nothing.
use mathlib.Core.Path.{◌≡◌, refl, sym, ◌∙◌}
use mathlib.Core.Bool.{Bool, true, false, ◌||◌, or-true}
use mathlib.Core.List.{List, [], ◌∷◌, map}
use mathlib.Core.Logic.{inr}
use Prim.Native.Nat.{ℕ, zero, suc, ◌+◌, ◌≤◌, ◌<◌}
use native.Mathlib.Omega.{arith}
use lib.Dec.{eqb}
use lib.ListN.{length}
use borrow.Author.Tests.{eqb-true, eqb-false}
use Rattle.sum.specs.declared.Edition.{Edition}
use Rattle.sum.specs.declared.Edition.TheVariants.{First}
use Rattle.map.specs.Map.{register_of}
use Rattle.map.specs.Settings.{is_setting, is_fixed}
use Rattle.channel.specs.Channel.{word}
use Rattle.card.specs.Card.{State, state}
use Rattle.card.specs.Reset.{settings_reset, tables_reset, waves_reset, card_reset}
use Rattle.line.specs.Session.{session}
use Rattle.saved.specs.declared.Span.{Span}
use Rattle.saved.specs.Saved.{words_at, frames, frame_text, text_of, saved_text}
use Rattle.saved.specs.Laws.{inside, within, SavedAre}
use Rattle.saved.proofs.Covered.{is_inside, inside_is, saved_are, all_good}
use Rattle.history.specs.Sound.{Words, Sound}
use Rattle.history.proofs.Settings.{setting_reads}
use Rattle.history.proofs.Words.{reset_word_lem, reset_length, reset_words}
use Rattle.restored.specs.Restored.{answered_all, SameSettings, SameSaved, fed_to, answers_to, Restored, EqualLines}
use Rattle.restored.proofs.Fixed.{fixed_same}
use Rattle.restored.proofs.Lines.{lines_are, words_are}
use Rattle.restored.proofs.Played.{Partly, below, laid, laid_kept, laid_new, all_played}

-- ---- settings, word by word

-- a setting is fixed, or within the frames
by_kind : (P : Type 0) (a : ℕ) → is_setting (register_of a) ≡ true → (is_fixed (register_of a) ≡ true → P) → (within frames a ≡ true → P) → P
unfolding SavedAre
by_kind P a e p q = grind (arith, saved_are)

-- two cards have the same settings exactly when their words there are
same_words : (x y : State) → ((a : ℕ) → is_setting (register_of a) ≡ true → word x.settings a ≡ word y.settings a) → SameSettings x y
same_words x y h a e = setting_reads a e x ∙ h a e ∙ sym (setting_reads a e y)

-- what is saved is a setting
saved_setting : (a : ℕ) → within frames a ≡ true → is_setting (register_of a) ≡ true
unfolding SavedAre
saved_setting a e = grind (arith, saved_are)

-- ---- equal lines

module _ (s t : List ℕ) where
  same_words_at : (a n : ℕ) → ((b : ℕ) → a ≤ b → b < a + n → word s b ≡ word t b) → words_at s a n ≡ words_at t a n
  unfolding words_at
  same_words_at a zero h = refl
  same_words_at a (suc n) h = rw (h a (omega arith) (omega arith), same_words_at (suc a) n (λ b f g. h b (omega arith) (omega arith)))

  same_text : (l : List Span) → ((a : ℕ) → within l a ≡ true → word s a ≡ word t a) → text_of s l ≡ text_of t l
  unfolding text_of frame_text
  same_text [] h = refl
  same_text (x ∷ l) h =
      rw (same_words_at x.first x.count (λ b u v. h b (rw (is_inside x b u v))), same_text l (λ a e. h a (cc (or-true (inside x a)))))

  words_at_same : (a n b : ℕ) → words_at s a n ≡ words_at t a n → a ≤ b → b < a + n → word s b ≡ word t b
  unfolding words_at
  words_at_same a zero b e f g = absurd (omega arith)
  words_at_same a (suc n) b e f g = go (eqb b a) refl (words_at_same (suc a) n b cc)
    where
      here : word s a ≡ word t a
      here = cc

      go : (q : Bool) → eqb b a ≡ q → (suc a ≤ b → b < suc a + n → word s b ≡ word t b) → word s b ≡ word t b
      go true i r = rw (eqb-true b a i) here
      go false i r = let d = eqb-false b a i in r (omega arith) (omega arith)

  lines_same : Words s → Words t → (l : List Span) (a : ℕ) → map (frame_text s) l ≡ map (frame_text t) l → within l a ≡ true → word s a ≡ word t a
  lines_same v w [] a e i = absurd cc
  lines_same v w (x ∷ l) a e i = go (inside x a) refl i (lines_same v w l a cc)
    where
      texts : frame_text s x ≡ frame_text t x
      texts = cc

      go : (q : Bool) → inside x a ≡ q → q || within l a ≡ true → (within l a ≡ true → word s a ≡ word t a) → word s a ≡ word t a
      go true f i r =
          let h = inside_is x a f in
          words_at_same x.first x.count a (cc (words_are s x v.small, texts, words_are t x w.small)) h.0 h.1
      go false f i r = r i

module _ (x y : State) where
  settings_lines : SameSaved x y → saved_text x.settings ≡ saved_text y.settings
  unfolding saved_text
  settings_lines h =
      same_text x.settings y.settings frames
      (λ a e. let i = saved_setting a e in sym (setting_reads a i x) ∙ h a e ∙ setting_reads a i y)

  lines_settings : Sound x → Sound y → saved_text x.settings ≡ saved_text y.settings → SameSettings x y
  lines_settings v w e =
      same_words x y
      (λ a i. by_kind _ a i (fixed_same x.settings y.settings v.settings w.settings a)
      (lines_same x.settings y.settings v.settings w.settings frames a (cc (lines_are.each x.settings, lines_are.each y.settings))))

-- TWO CARDS GIVE EQUAL LINES EXACTLY WHEN THEIR SETTINGS ARE EQUAL
pub equal_lines : EqualLines
equal_lines = record { equal = settings_lines; only = lines_settings }

-- ---- fed to a fresh card

reset_partly : (s t : List ℕ) → length s ≡ 16960 → Partly t (settings_reset s)
reset_partly s t l =
    record {
      many = reset_length s ∙ l;
      slots = λ n h. inr (reset_word_lem (λ y. y ≡ 0xFE) s (0x4000 + n) l (λ f g. refl) (λ c i j. absurd (omega arith)) (λ o i. absurd (o (omega arith) (omega arith))));
    }

module _ (ed : Edition) (st : State) (v : Sound st) (s l w : List ℕ) (h : length s ≡ 16960) where
  -- the settings that they leave
  left : List ℕ
  left = laid st.settings (settings_reset s) frames

  played : (fed_to ed s l w (saved_text st.settings) ≡ state (card_reset ed) left (tables_reset l)) × (answers_to ed s l w (saved_text st.settings) ≡ answered_all frames)
  unfolding left
  played = rw (lines_are.each st.settings) (all_played st.settings v.settings (card_reset ed) (tables_reset l) (waves_reset w) (settings_reset s) frames (reset_partly s st.settings h) all_good)

  left_same : (a : ℕ) → is_setting (register_of a) ≡ true → word left a ≡ word st.settings a
  unfolding left
  left_same a e =
      by_kind _ a e
      (λ f. laid_kept st.settings (settings_reset s) frames a (fixed_same (settings_reset s) st.settings (reset_words s h) v.settings a f))
      (laid_new st.settings (settings_reset s) frames a (reset_partly s st.settings h) (below a e))

  fed_same : SameSettings (fed_to ed s l w (saved_text st.settings)) st
  fed_same = rw played.0 (same_words (state (card_reset ed) left (tables_reset l)) st left_same)

-- SAVED LINES, FED TO A FRESH CARD OF EITHER EDITION, ARE ALL ANSWERED 0 AND LEAVE THE SAME SETTINGS
pub restored : Restored
unfolding session
restored =
    record {
      answered = λ ed st v s l w h. (played ed st v s l w h).1;
      line_program = λ st v s l w h. (played First st v s l w h).1;
      settings = fed_same;
      rest = λ ed st v s l w h. let e = (played ed st v s l w h).0 in (cc, cc);
      again = λ ed st v s l w h. settings_lines (fed_to ed s l w (saved_text st.settings)) st (λ a e. fed_same ed st v s l w h a (saved_setting a e));
    }
