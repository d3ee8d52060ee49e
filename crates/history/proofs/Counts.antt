-- A level's count after any history is the number of its accepted triggers since its last clearing or reset, modulo 65,536
-- (`counts_right`): a trigger adds 1 to it, a word done at its address clears it, and nothing else touches it. Assumes nothing.
use Rattle.std.specs.Prelude.{Option, Some, None}
use mathlib.Core.Path.{◌≡◌, refl, sym, ◌∙◌}
use mathlib.Core.Bool.{Bool, true, false, ◌||◌, cond}
use mathlib.Core.List.{List, [], ◌∷◌}
use Prim.Native.Nat.{ℕ, ◌+◌, ◌%◌, ◌<◌}
use native.Mathlib.Omega.{arith}
use lib.Dec.{eqb}
use lib.ListN.{length, get_or-replicate}
use lib.Seq.{get_or-set_same, get_or-set_other}
use borrow.Author.Tests.{lt-ltb, eq-eqb, ne_eqb, eqb-true, eqb-false}
use Rattle.word.specs.Word.{grown}
use Rattle.sum.specs.declared.Edition.{Edition}
use Rattle.channel.specs.Channel.{output_to, overflow_cleared}
use Rattle.card.specs.declared.Card.{Card}
use Rattle.card.specs.Card.{State, state, channel_of, count_of, with_count, with_channels}
use Rattle.card.specs.Trigger.{struck, trigger_of, accepted_of, on_event}
use Rattle.card.specs.Tick.{advanced}
use Rattle.card.specs.Reset.{card_reset, fresh_of}
use Rattle.transfer.specs.Transfer.{write_of}
use Rattle.history.specs.History.{Act, Tick, Write, Renew, edition_by, act, acts, words_done, manual_among, trigger_by}
use Rattle.history.specs.Effects.{Does, Keeps, Outputs, ClearsOverflow, ClearsCount, Erases, Idles, Triggers}
use Rattle.history.specs.Counts.{does_at, clears, tally, triggers_since, CountsRight}
use Rattle.history.proofs.Addresses.{count_register}
use Rattle.history.proofs.Cards.{channel_keeps, count_many}
use Rattle.history.proofs.Effects.{passed_does}
use Rattle.history.proofs.Writing.{write_by}
use Rattle.history.proofs.Parts.{none_first}
use Rattle.history.proofs.Manual.{manual_write}

module _ (level : ℕ) (inside : level < 32) where
  count_at : (k : Card) (l n : ℕ) → length k.counts ≡ 32 → count_of (with_count k l n) level ≡ cond (eqb level l) n (count_of k level)
  count_at k l n f = grind (arith, get_or-set_same, get_or-set_other)

  -- ---- a trigger

  record Counted (x y : State) (b : Bool) (n : ℕ) : Type 0 where
    many : length y.card.counts ≡ 32
    is : count_of y.card level ≡ cond b n (count_of x.card level)

  trigger_count : (st : State) (l event : ℕ) → length st.card.counts ≡ 32 → Counted st (trigger_of st l event) (eqb level l) (grown (count_of st.card level))
  unfolding trigger_of
  trigger_count st l event f =
      let k : Card = with_channels st.card (struck st l).channels in
      record { many = count_many k l (grown (count_of k l)) ∙ f; is = count_at k l (grown (count_of k l)) f ∙ go (eqb level l) refl }
    where
      go : (b : Bool) → eqb level l ≡ b → cond b (grown (count_of st.card l)) (count_of st.card level) ≡ cond b (grown (count_of st.card level)) (count_of st.card level)
      go true e = let d = eqb-true level l e in rw d
      go false e = refl

  -- ---- a word done

  -- at another address the counts stay
  stays : (x y : State) (a : ℕ) → length x.card.counts ≡ 32 → (a ≡ 0x4220 + level → ⊥) → y.card.counts ≡ x.card.counts
      → Counted x y (eqb a (0x4220 + level)) 0
  stays x y a f n g = record { many = rw g f; is = rw (ne_eqb a (0x4220 + level) n, g) }

  cleared : (st : State) (a l : ℕ) → length st.card.counts ≡ 32 → a ≡ 0x4220 + l
      → Counted st (state (with_count st.card l 0) st.settings st.tables) (eqb a (0x4220 + level)) 0
  cleared st a l f e = record { many = count_many st.card l 0 ∙ f; is = cc (count_at st.card l 0 f, same (eqb level l) refl) }
    where
      same : (b : Bool) → eqb level l ≡ b → b ≡ eqb a (0x4220 + level)
      same true d = let g = eqb-true level l d in sym (eq-eqb a (0x4220 + level) (omega arith))
      same false d = let g = eqb-false level l d in sym (ne_eqb a (0x4220 + level) (λ u. g (omega arith)))

  word_count : (st : State) (a v : ℕ) (y : State) → length st.card.counts ≡ 32 → (a ≡ 0x4202 → ⊥) → Does st a v y → Counted st y (eqb a (0x4220 + level)) 0
  word_count st a v y f n (Keeps i e) =
      stays st y a f (λ d. cc (count_register level inside)) cc
  word_count st a v y f n (Outputs c h i g e) =
      stays st y a f (λ d. absurd (omega arith)) (cc (channel_keeps st.card c (output_to (channel_of st.card c) v) (λ (k : Card). k.counts) refl))
  word_count st a v y f n (ClearsOverflow c h i e) =
      stays st y a f (λ d. absurd (omega arith)) (cc (channel_keeps st.card c (overflow_cleared (channel_of st.card c)) (λ (k : Card). k.counts) refl))
  word_count st a v y f n (ClearsCount l h i e) = rw e (cleared st a l f i)
  word_count st a v y f n (Erases i g e) = stays st y a f (λ d. absurd (omega arith)) cc
  word_count st a v y f n (Idles i g e) = stays st y a f (λ d. absurd (omega arith)) cc
  word_count st a v y f n (Triggers i g e) = absurd (n i)

  none_done : (x : State) → length x.card.counts ≡ 32 → Counted x x false 0
  none_done x f = record { many = f; is = refl }

  both : (x y z : State) (a b : Bool) → Counted x y a 0 → Counted y z b 0 → Counted x z (a || b) 0
  both x y z true true p q = record { many = q.many; is = q.is }
  both x y z true false p q = record { many = q.many; is = cc }
  both x y z false b p q = record { many = q.many; is = cc }

  write_count : (st : State) (start count : ℕ) (ws : List ℕ) → length st.card.counts ≡ 32 → manual_among start (words_done st start count ws) ≡ None
      → Counted st (write_of st start count ws).state (does_at (0x4220 + level) start (words_done st start count ws)) 0
  write_count =
      write_by (λ st a vs z. length st.card.counts ≡ 32 → manual_among a vs ≡ None → Counted st z (does_at (0x4220 + level) a vs) 0)
      (λ st a f q. none_done st f)
      (λ st a v vs z p r f q. let y = none_first a v vs q in
      let w = word_count st a v _ f y.0 (passed_does st a v p) in
      both st _ z (eqb a (0x4220 + level)) (does_at (0x4220 + level) (a + 1) vs) w (r w.many y.1))

  -- ---- any act

  -- the count is n, gone round
  record Right (st : State) (n : ℕ) : Type 0 where
    many : length st.card.counts ≡ 32
    is : count_of st.card level ≡ n % 65536

  struck_right : (st : State) (l event n : ℕ) → Right st n → Right (trigger_of st l event) (cond (eqb level l) (n + 1) n)
  struck_right st l event n h = let p = trigger_count st l event h.many in record { many = p.many; is = p.is ∙ go (eqb level l) }
    where
      go : (b : Bool) → cond b (grown (count_of st.card level)) (count_of st.card level) ≡ cond b (n + 1) n % 65536
      go true = rw h.is (omega arith)
      go false = h.is

  advanced_right : (waves : List ℕ) (st : State) (n : ℕ) → Right st n → Right (advanced waves st) n
  unfolding advanced
  advanced_right waves st n h = record { many = h.many; is = h.is }

  tick_right : (waves : List ℕ) (st : State) (event n : ℕ) → Right st n → Right (act st (Tick waves event)) (tally (trigger_by st (Tick waves event)) false level n)
  unfolding advanced
  tick_right waves st event n h = go (accepted_of st.settings event)
    where
      go : (r : Option ℕ) → Right (on_event r (advanced waves st) event) (tally r false level n)
      go (Some l) = struck_right (advanced waves st) l event n (advanced_right waves st n h)
      go None = advanced_right waves st n h

  write_right : (st : State) (start count : ℕ) (ws : List ℕ) (n : ℕ) → Right st n
      → Right (act st (Write start count ws)) (tally (trigger_by st (Write start count ws)) (clears st level (Write start count ws)) level n)
  write_right st start count ws n h = go (trigger_by st (Write start count ws)) refl
    where
      by : (b : Bool) → Counted st (write_of st start count ws).state b 0 → Right (write_of st start count ws).state (cond b 0 n)
      by true p = record { many = p.many; is = p.is }
      by false p = record { many = p.many; is = cc }

      go : (r : Option ℕ) → trigger_by st (Write start count ws) ≡ r → Right (write_of st start count ws).state (tally r (clears st level (Write start count ws)) level n)
      go (Some l) e = rw (manual_write st start count ws l e) (struck_right st l 0xFE n h)
      go None e = by (clears st level (Write start count ws)) (write_count st start count ws h.many e)

  reset_right : (ed : Edition) (s l : List ℕ) → Right (fresh_of ed s l) 0
  unfolding card_reset
  reset_right ed s l = record { many = refl; is = rw (lt-ltb level 32 inside) (get_or-replicate {A = ℕ} 32 level 0 0 inside) }

  acts_right : (st : State) (xs : List Act) (n : ℕ) → Right st n → Right (acts st xs) (triggers_since level st xs n)
  acts_right st [] n h = h
  acts_right st (Tick waves event ∷ xs) n h = acts_right (act st (Tick waves event)) xs _ (tick_right waves st event n h)
  acts_right st (Write start count ws ∷ xs) n h = acts_right (act st (Write start count ws)) xs _ (write_right st start count ws n h)
  acts_right st (Renew how ∷ xs) n h = acts_right (act st (Renew how)) xs 0 (reset_right (edition_by how st.card.edition) st.settings st.tables)
  acts_right st (y ∷ xs) n h = acts_right st xs n h

-- A LEVEL'S COUNT IS THE NUMBER OF ITS ACCEPTED TRIGGERS SINCE ITS LAST CLEARING
pub counts_right : CountsRight
unfolding CountsRight
counts_right ed s l xs level h = rw (count_register level h) (acts_right level h (fresh_of ed s l) xs 0 (reset_right level h ed s l)).is
