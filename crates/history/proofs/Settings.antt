-- The word at a setting's address after any history is the last word done there, or what an erase or a reset left after it
-- (`settings_kept`): each word done leaves the word or puts the new one, by its address. Assumes nothing.
use mathlib.Core.Path.{◌≡◌, refl, sym, ap, ◌∙◌}
use mathlib.Core.Bool.{Bool, true, false, ◌&&◌, cond}
use mathlib.Core.List.{List, [], ◌∷◌}
use Prim.Native.Nat.{ℕ, ◌+◌, ◌%◌, ◌≤◌, ◌<◌}
use native.Mathlib.Omega.{arith}
use lib.Dec.{eqb}
use lib.ListN.{length, set}
use lib.Seq.{get_or-set_same, get_or-set_other}
use borrow.Author.Tests.{lt-ltb, le-leb, lt-leb, eq-eqb, ne_eqb}
use Rattle.map.specs.declared.Register.{Register}
use Rattle.map.specs.declared.Register.TheVariants as R
use Rattle.map.specs.Map.{register_of, named}
use Rattle.map.specs.Settings.{is_setting}
use Rattle.slots.specs.Slots.{erased}
use Rattle.slots.proofs.Fills.{erased_else, filled_in}
use Rattle.channel.specs.Channel.{word}
use Rattle.card.specs.Card.{State}
use Rattle.card.specs.Reset.{settings_reset, fresh_of}
use Rattle.card.proofs.Ticks.{trigger_settings, tick_settings}
use Rattle.transfer.specs.Word.{effect_of}
use Rattle.transfer.specs.Transfer.{write_of}
use Rattle.history.specs.History.{Act, Tick, Write, Renew, act, acts, read_back, words_done}
use Rattle.history.specs.Effects.{Does, Keeps, Outputs, ClearsOverflow, ClearsCount, Erases, Idles, Triggers}
use Rattle.history.specs.Settings.{is_slot, is_scale, reset_word, word_left, left_at, last_word, SettingsKept}
use Rattle.map.proofs.Room.{named_below}
use Rattle.history.proofs.Addresses.{output_register, overflow_register, count_register, erase_register, manual_register}
use Rattle.history.proofs.Registers.{Kept, plain, fixed, slot, kept}
use Rattle.history.proofs.Words.{InScales, reset_word_lem, reset_length}
use Rattle.history.proofs.Effects.{passed_does}
use Rattle.history.proofs.Writing.{write_by}
use Rattle.history.proofs.Frame.{lengths_done, lengths_kept}
use Rattle.history.specs.Frame.{LengthsKept}

pub setting_named : (r : Register) → Kept r → named r ≡ true
setting_named r (plain s e) = rw e
setting_named r (fixed s e) = rw e
setting_named r (slot l e) = rw e

-- ---- one word

module _ (b : ℕ) (setting : is_setting (register_of b) ≡ true) where
  inside : b < 16960
  inside = named_below b (setting_named (register_of b) (kept (register_of b) setting))

  -- an address whose register is no setting is another
  other : (a : ℕ) (r : Register) → register_of a ≡ r → is_setting r ≡ false → eqb a b ≡ false
  other a r e f = ne_eqb a b (λ d. cc setting)

  -- a word done at another address, which does not erase
  stays : (s s' : List ℕ) (a v : ℕ) → eqb a b ≡ false → eqb a 0x4201 ≡ false → s' ≡ s → word s' b ≡ word_left b a v (word s b)
  unfolding word_left
  stays s s' a v e f g = rw (e, f, g)

  keeps : (s : List ℕ) (a v : ℕ) → length s ≡ 16960 → is_setting (register_of a) ≡ true → word (set s a v) b ≡ word_left b a v (word s b)
  unfolding word_left
  keeps s a v l i = grind (arith, erase_register, inside, get_or-set_same, get_or-set_other)

  erases : (s : List ℕ) → length s ≡ 16960 → word (erased s) b ≡ cond (is_slot b) 0xFE (word s b)
  erases s l = grind (arith, filled_in, erased_else)

  erase_left : (s s' : List ℕ) (a v : ℕ) (x : Bool) → a ≡ 0x4201 → eqb v 1 ≡ x → word s' b ≡ cond (x && is_slot b) 0xFE (word s b) → word s' b ≡ word_left b a v (word s b)
  unfolding word_left
  erase_left s s' a v x i e f = rw (other a R.Erase (cc erase_register) refl, eq-eqb a 0x4201 i, e) f

  abbrev words : State → List ℕ
  words x = x.settings

  pub word_left_lem : (st : State) (a v : ℕ) (y : State) → length st.settings ≡ 16960 → Does st a v y → word y.settings b ≡ word_left b a v (word st.settings b)
  word_left_lem st a v y l (Keeps i e) = rw e (keeps st.settings a v l i)
  word_left_lem st a v y l (Outputs c h i f e) =
      stays st.settings y.settings a v (other a (R.Output c) (cc (output_register c h)) refl) (ne_eqb a 0x4201 (λ d. absurd (omega arith))) (ap words e)
  word_left_lem st a v y l (ClearsOverflow c h i e) =
      stays st.settings y.settings a v (other a (R.Overflow c) (cc (overflow_register c h)) refl) (ne_eqb a 0x4201 (λ d. absurd (omega arith))) (ap words e)
  word_left_lem st a v y l (ClearsCount n h i e) =
      stays st.settings y.settings a v (other a (R.Count n) (cc (count_register n h)) refl) (ne_eqb a 0x4201 (λ d. absurd (omega arith))) (ap words e)
  word_left_lem st a v y l (Erases i f e) = erase_left st.settings y.settings a v true i (eq-eqb v 1 f) (cc (erases st.settings l))
  word_left_lem st a v y l (Idles i f e) = erase_left st.settings y.settings a v false i (ne_eqb v 1 (λ d. absurd (omega arith))) cc
  word_left_lem st a v y l (Triggers i f e) =
      stays st.settings y.settings a v (other a R.Manual (cc manual_register) refl) (ne_eqb a 0x4201 (λ d. absurd (omega arith)))
      (ap words e ∙ trigger_settings st v 0xFE)

  write_left : (st : State) (start count : ℕ) (ws : List ℕ) → length st.settings ≡ 16960
      → word (write_of st start count ws).state.settings b ≡ left_at b start (words_done st start count ws) (word st.settings b)
  write_left =
      write_by (λ st a vs z. length st.settings ≡ 16960 → word z.settings b ≡ left_at b a vs (word st.settings b)) (λ st a l. refl)
      (λ st a v vs z p r l.
      r ((lengths_done st a (effect_of (register_of a) v)).settings ∙ l) ∙ ap (left_at b (a + 1) vs) (word_left_lem st a v _ l (passed_does st a v p)))

  -- ---- a reset, a tick, any acts

  reset_left : (s : List ℕ) → length s ≡ 16960 → word (settings_reset s) b ≡ reset_word b
  unfolding reset_word
  reset_left s l = reset_word_lem (λ y. y ≡ cond (is_slot b) 0xFE (cond (is_scale b) 0x0100 0)) s b l slots scales others
    where
      slots : 0x4000 ≤ b → b < 0x4100 → ◌≡◌ {A = ℕ} 0xFE (cond (is_slot b) 0xFE (cond (is_scale b) 0x0100 0))
      slots f g = rw (le-leb 0x4000 b f, lt-ltb b 0x4100 g)

      scales : (c : ℕ) → c < 4 → InScales c b → ◌≡◌ {A = ℕ} 0x0100 (cond (is_slot b) 0xFE (cond (is_scale b) 0x0100 0))
      scales c h i = rw (lt-leb 0x4000 b (omega arith), lt-ltb b 0x4000 (omega arith), le-leb 0x860 (b % 0x1000) (omega arith), lt-ltb (b % 0x1000) 0x880 (omega arith))

      others : (0x4000 ≤ b → b < 0x4100 → ⊥) → ((c : ℕ) → c < 4 → InScales c b → ⊥) → ◌≡◌ {A = ℕ} 0 (cond (is_slot b) 0xFE (cond (is_scale b) 0x0100 0))
      others o n = grind arith

  write_length : (st : State) (start count : ℕ) (ws : List ℕ) → length (write_of st start count ws).state.settings ≡ length st.settings
  unfolding LengthsKept
  write_length st start count ws = (lengths_kept st start count ws).settings

  acts_left : (st : State) (xs : List Act) (w : ℕ) → length st.settings ≡ 16960 → word st.settings b ≡ w → word (acts st xs).settings b ≡ last_word b st xs w
  acts_left st [] w l e = e
  acts_left st (Tick waves event ∷ xs) w l e =
      let t = tick_settings waves st event in
      acts_left (act st (Tick waves event)) xs w (cc) cc
  acts_left st (Write start count ws ∷ xs) w l e =
      acts_left (act st (Write start count ws)) xs _ (write_length st start count ws ∙ l)
      (cc (write_left st start count ws l))
  acts_left st (Renew how ∷ xs) w l e = acts_left (act st (Renew how)) xs (reset_word b) (reset_length st.settings ∙ l) (reset_left st.settings l)
  acts_left st (y ∷ xs) w l e = acts_left st xs w l e

  pub setting_reads : (st : State) → read_back st b ≡ word st.settings b
  setting_reads st = grind arith

-- A SETTING READS BACK THE LAST WORD DONE THERE, UNLESS AN ERASE OR A RESET CAME AFTER
pub settings_kept : SettingsKept
settings_kept =
    record {
      kept = λ st l b i xs. setting_reads b i (acts st xs) ∙ acts_left b i st xs (read_back st b) l (sym (setting_reads b i st));
      fresh = λ ed s l h b i. setting_reads b i (fresh_of ed s l) ∙ reset_left b i s h;
    }
