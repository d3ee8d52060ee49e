-- A reset makes a sound state, and ticks, events and writes keep it (`reachable`): the settings word by word, the channels one after the
-- other, each over the tables that the one before left. Assumes nothing.
use Rattle.std.specs.Prelude.{Option, Some, None}
use mathlib.Core.Path.{◌≡◌, refl, sym, ◌∙◌}
use mathlib.Core.Bool.{Bool, true, false, cond}
use mathlib.Core.List.{List, [], ◌∷◌}
use Prim.Native.Nat.{ℕ, zero, suc, ◌+◌, ◌<◌}
use native.Mathlib.Omega.{arith}
use native.Mathlib.Nat.{mod-lt}
use lib.Dec.{ltb, eqb}
use lib.ListN.{length, get_or, set, replicate, length-set, get_or-replicate, get_or-eq_default, take}
use borrow.Author.Tests.{ltb-true, ltb-false, leb-true, eqb-true, eqb-false}
use Rattle.word.specs.Word.{grown}
use Rattle.sum.specs.declared.Edition.{Edition}
use Rattle.map.specs.declared.Register.{Register}
use Rattle.map.specs.declared.Register.TheVariants as R
use Rattle.map.specs.Map.{register_of}
use Rattle.map.proofs.Values.{accepted_is}
use Rattle.slots.specs.Slots.{holder_of}
use Rattle.slots.proofs.Fills.{filled_length, filled_in}
use Rattle.slots.proofs.Holders.{level_held}
use Rattle.channel.specs.declared.Phase.TheVariants.{Rest}
use Rattle.channel.specs.declared.Channel.{Channel}
use Rattle.channel.specs.Ramp.{place}
use Rattle.channel.specs.Channel.{Side, with, word, no_tone, reset_channel, tick_of, triggered, output_to, overflow_cleared}
use Rattle.card.specs.declared.Card.{Card}
use Rattle.card.specs.Card.{State, state, All, channel_of, with_channel, count_of, with_count, with_channels, on_all}
use Rattle.card.specs.Active.{cause, some_loaded}
use Rattle.card.specs.Trigger.{counted, keeping, struck, trigger_of, accepted_of, on_event, event_of}
use Rattle.card.specs.Tick.{both_passes, advanced, tick_with, ticks}
use Rattle.card.proofs.All.{two_passes}
use Rattle.card.specs.Reset.{tables_reset, card_reset, fresh_of}
use Rattle.transfer.specs.declared.Effect.TheVariants.{Keep, Erase, Nothing}
use Rattle.transfer.specs.Word.{effect_of, perform_of}
use Rattle.transfer.specs.Transfer.{processed_of, write_of}
use Rattle.course.proofs.Copies.{choose}
use Rattle.history.specs.History.{Act, Tick, Write, Renew, edition_by, act, acts, Each, Words16}
use Rattle.history.specs.Sound.{Tables, ChannelSound, CauseSound, Sound, Reachable}
use Rattle.history.proofs.Addresses.{slot_register}
use Rattle.history.proofs.Words.{Passed, set_word, stored, erased_words, reset_words}
use Rattle.history.proofs.Channels.{SideSound, with_sound, signal_sound, tick_sound, strike_sound}
use Rattle.history.proofs.Cards.{channel_other, channel_either, count_keeps, count_channels, count_many}
use Rattle.history.proofs.Writing.{write_by}

-- ---- the four channels

-- at rest, as a reset leaves it but for the scale factor
resting : (scale : ℕ) → scale < 65536
    → ChannelSound
    (record {
      phase = Rest;
      level = 0;
      loaded = record { table = 0; scale = scale; offset = 0; tone = no_tone };
      shown = record { amplitude = 0; place = place 0 0 };
      signal = record { output = 0; overflow = 0; counter = 0 };
    })
resting scale h =
    record {
      phase = tt;
      level = omega arith;
      table = omega arith;
      scale = h;
      offset = omega arith;
      tone = record { mode = refl; frequency = omega arith; phase = omega arith };
      free = λ e. absurd cc;
      shown = record { amplitude = omega arith; segment = omega arith; left = omega arith };
      signal = record { output = omega arith; overflow = omega arith; counter = omega arith };
    }

four_sound : (k : Card) (a b c d : Channel) → ChannelSound a → ChannelSound b → ChannelSound c → ChannelSound d
    → (j : ℕ) → ChannelSound (channel_of (with_channels k (a ∷ b ∷ c ∷ d ∷ [])) j)
four_sound k a b c d p q r s zero = p
four_sound k a b c d p q r s (suc zero) = q
four_sound k a b c d p q r s (suc (suc zero)) = r
four_sound k a b c d p q r s (suc (suc (suc zero))) = s
four_sound k a b c d p q r s (suc (suc (suc (suc n)))) = grind arith

record AllSound (k : Card) (x : All) : Type 0 where
  four : length x.channels ≡ 4
  channels : (j : ℕ) → ChannelSound (channel_of (with_channels k x.channels) j)
  tables : Tables x.tables

-- what keeps each channel sound keeps all four
module _ (f : ℕ → List ℕ → Channel → Side)
    (keep : (c : ℕ) → c < 4 → (l : List ℕ) (ch : Channel) → ChannelSound ch → Tables l → SideSound (f c l ch)) (k : Card) (l : List ℕ) where
  all_sound : ((c : ℕ) → ChannelSound (channel_of k c)) → Tables l → AllSound k (on_all f k l)
  unfolding on_all
  all_sound h t =
      let a = keep 0 (omega arith) l (channel_of k 0) (h 0) t in
      let b = keep 1 (omega arith) _ (channel_of k 1) (h 1) a.tables in
      let c = keep 2 (omega arith) _ (channel_of k 2) (h 2) b.tables in
      let d = keep 3 (omega arith) _ (channel_of k 3) (h 3) c.tables in
      record { four = refl; channels = four_sound k _ _ _ _ a.channel b.channel c.channel d.channel; tables = d.tables }

-- ---- a tick and a trigger

count_small : (k : Card) (level n : ℕ) → n < 65536 → ((j : ℕ) → count_of k j < 65536) → (j : ℕ) → count_of (with_count k level n) j < 65536
count_small k level n h g j = go (ltb level 32)
  where
    at : (b : Bool) → cond b (get_or k.counts j 0) 0 < 65536 → cond b (get_or (set k.counts level n) j 0) 0 < 65536
    at true p = set_word (λ y. y < 65536) k.counts level n j (λ e. h) p
    at false p = p

    go : (b : Bool) → count_of (cond b (record { edition = k.edition; channels = k.channels; counts = set k.counts level n; active = k.active; pending = k.pending }) k) j < 65536
    go true = at (ltb j 32) (g j)
    go false = g j

grown_word : (n : ℕ) → grown n < 65536
grown_word n = mod-lt (n + 1) (omega arith)

module _ (st : State) (h : Sound st) where
  advanced_sound : (waves : List ℕ) → Sound (advanced waves st)
  unfolding advanced
  advanced_sound waves =
      let a : AllSound st.card (both_passes waves st) =
      rw (two_passes waves st)
      (all_sound (λ c l ch. tick_of st.card.edition st.settings waves l c ch) (λ c i l ch g t. tick_sound st.settings h.settings l c i ch g t st.card.edition waves) st.card st.tables h.card.channels h.tables) in
      record {
        settings = h.settings;
        tables = a.tables;
        card =
            record {
              four = a.four;
              channels = a.channels;
              many = h.card.many;
              counts = h.card.counts;
              active = choose CauseSound (some_loaded (with_channels st.card (both_passes waves st).channels)) _ _ h.card.pending h.card.active;
              pending = h.card.pending;
            };
      }

  trigger_sound : (level event : ℕ) → level < 32 → event < 256 → Sound (trigger_of st level event)
  unfolding trigger_of
  trigger_sound level event i j =
      let a = all_sound (λ c l ch. triggered st.settings l c ch level) (λ c u l ch g t. strike_sound st.settings h.settings l c u ch g t level i) st.card st.tables h.card.channels h.tables in
      let k : Card = with_channels st.card (struck st level).channels in
      let e = count_channels k level (grown (count_of k level)) in
      record {
        settings = h.settings;
        tables = a.tables;
        card =
            record {
              four = rw e a.four;
              channels = rw e a.channels;
              many = count_many k level (grown (count_of k level)) ∙ h.card.many;
              counts = count_small k level (grown (count_of k level)) (grown_word (count_of k level)) h.card.counts;
              active =
                  choose CauseSound (some_loaded (keeping (counted k level) (cause level event))) (cause level event) (counted k level).active (record { level = i; event = j })
                  (rw (count_keeps k level (grown (count_of k level)) (λ (x : Card). x.active) refl) h.card.active);
              pending = record { level = i; event = j };
            };
      }

  -- an event that is accepted is held by a slot, which names one of 32 levels and holds one byte
  held_sound : (level event : ℕ) → holder_of st.settings event ≡ Some level → (level < 32) × (event < 256)
  held_sound level event e =
      let y = level_held st.settings event 32 level e in
      let a : ℕ = 0x4000 + y.slot in
      let r = slot_register (0x4000 + y.slot) (omega (arith, y.inside)) (omega (arith, y.inside)) in
      let g = h.settings.accepted (0x4000 + y.slot) (rw r) in
      let b = leb-true (word st.settings (0x4000 + y.slot)) 0xFF (sym (accepted_is (0x4000 + y.slot) (word st.settings (0x4000 + y.slot)) ∙ rw r) ∙ g) in
      (omega (arith, y.inside, y.level), omega (arith, b, y.stored))

  event_sound : (event : ℕ) → Sound (event_of st event)
  unfolding accepted_of
  event_sound event = go (eqb event 0xFE) (eqb (word st.settings 0x4200) 1)
    where
      by : (r : Option ℕ) → holder_of st.settings event ≡ r → Sound (on_event r st event)
      by (Some level) e = let y = held_sound level event e in trigger_sound level event y.0 y.1
      by None e = h

      go : (a b : Bool) → Sound (on_event (cond a None (cond b (holder_of st.settings event) None)) st event)
      go false true = by (holder_of st.settings event) refl
      go _ b = h

  -- ---- a word written

  channel_sound : (c : ℕ) (ch : Channel) → ChannelSound ch → Sound (state (with_channel st.card c ch) st.settings st.tables)
  channel_sound c ch g = go (ltb c 4) refl
    where
      all : (j : ℕ) → ChannelSound (channel_of (with_channel st.card c ch) j)
      all j = by (eqb j c) refl
        where
          by : (b : Bool) → eqb j c ≡ b → ChannelSound (channel_of (with_channel st.card c ch) j)
          by true e = let d = eqb-true j c e in rw d (channel_either st.card c ch ChannelSound g (h.card.channels c))
          by false e = rw (channel_other st.card c ch j (eqb-false j c e)) (h.card.channels j)

      go : (b : Bool) → ltb c 4 ≡ b → Sound (state (with_channel st.card c ch) st.settings st.tables)
      go true e =
          record {
            settings = h.settings;
            tables = h.tables;
            card =
                record {
                  four = rw e (length-set st.card.channels c ch ∙ h.card.four);
                  channels = all;
                  many = rw e h.card.many;
                  counts = rw e h.card.counts;
                  active = rw e h.card.active;
                  pending = rw e h.card.pending;
                };
          }
      go false e = rw e h

  cleared_sound : (level : ℕ) → Sound (state (with_count st.card level 0) st.settings st.tables)
  cleared_sound level =
      record {
        settings = h.settings;
        tables = h.tables;
        card =
            record {
              four = rw (count_channels st.card level 0) h.card.four;
              channels = rw (count_channels st.card level 0) h.card.channels;
              many = count_many st.card level 0 ∙ h.card.many;
              counts = count_small st.card level 0 (omega arith) h.card.counts;
              active = rw (count_keeps st.card level 0 (λ (k : Card). k.active) refl) h.card.active;
              pending = rw (count_keeps st.card level 0 (λ (k : Card). k.pending) refl) h.card.pending;
            };
      }

  output_sound : (ch : Channel) (v : ℕ) → v < 65536 → ChannelSound ch → ChannelSound (output_to ch v)
  output_sound ch v i g =
      signal_sound (with ch ch.phase (record { amplitude = v; place = ch.shown.place })) _
      (with_sound ch ch.phase _ g g.phase g.free (record { amplitude = i; segment = g.shown.segment; left = g.shown.left }))
      (record { output = i; overflow = g.signal.overflow; counter = g.signal.counter })

  overflow_sound : (ch : Channel) → ChannelSound ch → ChannelSound (overflow_cleared ch)
  overflow_sound ch g = signal_sound ch _ g (record { output = g.signal.output; overflow = omega arith; counter = g.signal.counter })

  stored_sound : (a v : ℕ) → v < 65536 → Passed st.settings st.card (register_of a) v → Sound (perform_of st a (Keep v))
  stored_sound a v i p = record { settings = stored st.settings h.settings st.card a v i p; tables = h.tables; card = h.card }

  done_sound : (r : Register) (a v : ℕ) → register_of a ≡ r → v < 65536 → Passed st.settings st.card r v → Sound (perform_of st a (effect_of r v))
  done_sound (R.Setting s) a v e i p = stored_sound a v i (rw e p)
  done_sound (R.Output c) a v e i p = channel_sound c _ (output_sound (channel_of st.card c) v i (h.card.channels c))
  done_sound (R.Overflow c) a v e i p = channel_sound c _ (overflow_sound (channel_of st.card c) (h.card.channels c))
  done_sound (R.Slot l) a v e i p = stored_sound a v i (rw e p)
  done_sound R.Erase a v e i p = go (eqb v 1)
    where
      go : (b : Bool) → Sound (perform_of st a (cond b Erase Nothing))
      go true = record { settings = erased_words st.settings h.settings; tables = h.tables; card = h.card }
      go false = h
  done_sound R.Manual a v e i p = let b = leb-true v 31 p.value in trigger_sound v 0xFE (omega arith) (omega arith)
  done_sound (R.Count l) a v e i p = cleared_sound l
  done_sound _ a v e i p = h

-- ---- every call

fresh_sound : (ed : Edition) (s l : List ℕ) → length s ≡ 16960 → length l ≡ 512 → Sound (fresh_of ed s l)
unfolding tables_reset card_reset
fresh_sound ed s l p q =
    record {
      settings = reset_words s p;
      tables = record { many = filled_length 512 l 0 0 ∙ q; small = λ i. small i (ltb i 512) refl };
      card =
          record {
            four = refl;
            channels = four_sound (card_reset ed) reset_channel reset_channel reset_channel reset_channel fresh fresh fresh fresh;
            many = refl;
            counts = λ j. counts j (ltb j 32) refl;
            active = record { level = omega arith; event = omega arith };
            pending = record { level = omega arith; event = omega arith };
          };
    }
  where
    fresh : ChannelSound reset_channel
    fresh = resting 0x0100 (omega arith)

    counts : (j : ℕ) (b : Bool) → ltb j 32 ≡ b → cond b (get_or (replicate 32 0) j 0) 0 < 65536
    counts j true e = rw (get_or-replicate {A = ℕ} 32 j 0 0 (ltb-true j 32 e)) (omega arith)
    counts j false e = omega arith

    small : (i : ℕ) (b : Bool) → ltb i 512 ≡ b → word (tables_reset l) i < 65536
    small i true e = let d = ltb-true i 512 e in rw (filled_in 512 l 0 0 i (omega arith) (omega arith) (omega arith)) (omega arith)
    small i false e =
        let d = ltb-false i 512 e in
        rw (get_or-eq_default (tables_reset l) 0 {n = i} (omega (arith, filled_length 512 l 0 0))) (omega arith)

ticks_sound : (waves : List ℕ) (n : ℕ) (st : State) → Sound st → Sound (ticks waves n st)
unfolding ticks
ticks_sound waves zero st h = h
ticks_sound waves (suc n) st h = ticks_sound waves n (advanced waves st) (advanced_sound st h waves)

each_take : (Q : ℕ → Type 0) (n : ℕ) (vs : List ℕ) → Each Q vs → Each Q (take n vs)
each_take Q (suc n) (v ∷ vs) e = (e.0, each_take Q n vs e.1)
each_take Q _ vs e = tt

write_sound : (st : State) (start count : ℕ) (ws : List ℕ) → Each (λ v. v < 65536) ws → Sound st → Sound (write_of st start count ws).state
write_sound st start count ws w h =
    write_by (λ x a vs z. Each (λ v. v < 65536) vs → Sound x → Sound z) (λ x a w h. h)
    (λ x a v vs z p r w h. r w.1 (done_sound x h (register_of a) a v refl w.0 p))
    st start count ws (each_take (λ v. v < 65536) (processed_of (write_of st start count ws).answer) ws w) h

tick_sound_card : (waves : List ℕ) (st : State) (event : ℕ) → Sound st → Sound (tick_with waves st event)
tick_sound_card waves st event h = event_sound (advanced waves st) (advanced_sound st h waves) event

-- one act, and the words of those that follow
pub one_sound : (st : State) (x : Act) (xs : List Act) → Words16 (x ∷ xs) → Sound st → Sound (act st x) × Words16 xs
one_sound st (Tick waves event) xs w h = (tick_sound_card waves st event h, w)
one_sound st (Write start count ws) xs w h = (write_sound st start count ws w.0 h, w.1)
one_sound st (Renew how) xs w h = (fresh_sound (edition_by how st.card.edition) st.settings st.tables h.settings.many h.tables.many, w)
one_sound st _ xs w h = (h, w)

acts_sound : (st : State) (xs : List Act) → Words16 xs → Sound st → Sound (acts st xs)
acts_sound st [] w h = h
acts_sound st (x ∷ xs) w h = let r = one_sound st x xs w h in acts_sound (act st x) xs r.1 r.0

-- THE STATES THAT THE CARD COMES TO ARE SOUND
pub reachable : Reachable
reachable = record { fresh = fresh_sound; tick = tick_sound_card; ticks = ticks_sound; write = write_sound; history = acts_sound }
