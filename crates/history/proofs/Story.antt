-- A channel's words show what its story tells, and it keeps the amplitude and the counter told (`channels_right`): a tick, in both its passes,
-- a trigger and a word done each make of the channel what they add to the story. Assumes nothing.
use Rattle.std.specs.Prelude.{Option, Some, None}
use mathlib.Core.Path.{◌≡◌, refl, ap, ◌∙◌, subst}
use mathlib.Core.Bool.{Bool, true, false, cond}
use mathlib.Core.List.{List, [], ◌∷◌, ◌++◌}
use Prim.Native.Nat.{ℕ, suc, ◌+◌, ◌-◌, ◌%◌, ◌≤◌, ◌<◌}
use native.Mathlib.Omega.{arith}
use lib.Dec.{ltb, eqb}
use lib.ListN.{length}
use borrow.Author.Tests.{eq-eqb, ne_eqb, eqb-true, eqb-false}
use Rattle.sum.specs.declared.Edition.{Edition}
use Rattle.wave.specs.Sine.{sine_of}
use Rattle.map.specs.Map.{base}
use Rattle.map.specs.Addresses.{enable_at}
use Rattle.word.specs.Word.{lasting}
use Rattle.channel.specs.declared.Place.{Place}
use Rattle.channel.specs.declared.Tone.{Tone}
use Rattle.channel.specs.declared.Moved.{Moved}
use Rattle.channel.specs.declared.Ramp.{Ramp}
use Rattle.channel.specs.declared.Ramp.TheVariants.{Still, Going, Free}
use Rattle.channel.specs.declared.Phase.{Phase}
use Rattle.channel.specs.declared.Phase.TheVariants.{Rest, Counting, Running, FreeRunning}
use Rattle.channel.specs.declared.Gave.TheVariants.{NoSample, OfRamp, OfFreeRun}
use Rattle.channel.specs.declared.Channel.{Channel}
use Rattle.channel.specs.Ramp.{enter, next, sample_at, hold, put, way, is_sine, given, sooner, unsampled, advance}
use Rattle.channel.specs.Signal.{signal_after, counter_at, sine_after, overflows, make_of}
use Rattle.channel.specs.Channel.{Side, Move, side, move, quiet, moved_on, word, with, with_signal, first_of, loads_at, load, loaded_for, start, ramp_of, phase_of, count_to, move_at, sounded, sounded_side, tick_of, countdown, triggered, output_to, overflow_cleared, reset_channel}
use Rattle.card.specs.declared.Card.{Card}
use Rattle.card.specs.Card.{State, channel_of, with_channel}
use Rattle.card.specs.Trigger.{trigger_of, accepted_of, on_event}
use Rattle.card.specs.Tick.{advanced}
use Rattle.card.specs.Reset.{card_reset, fresh_of}
use Rattle.transfer.specs.Transfer.{write_of}
use Rattle.course.specs.Points.{SameTable}
use Rattle.course.proofs.Acts.{untimed_table}
use Rattle.course.proofs.Tables.{Placed, same_enter, same_next, same_sample}
use Rattle.course.proofs.Walk.{placed_enter, placed_next}
use Rattle.history.specs.History.{Act, Tick, Write, Renew, edition_by, act, acts, words_done, manual_among, trigger_by, Words16}
use Rattle.history.specs.Effects.{Does, Keeps, Outputs, ClearsOverflow, ClearsCount, Erases, Idles, Triggers}
use Rattle.history.specs.Sound.{Sound, PhaseSound, RampSound}
use Rattle.history.specs.Story.{Happening, Load, Sample, FreeSample, Output, Clear, sample, by_ramp, by_start, in_phase, by_tick, by_trigger, by_word, by_words, in_tick, happens, story, Told, fresh, ramped, sounds, sines, tell, told, Shows, ChannelsRight, AtRest}
use Rattle.history.proofs.Addresses.{output_register, table_register, scale_register, offset_register, segment_register, left_register, overflow_register}
use Rattle.history.proofs.Cards.{channel_same, channel_other, channel_many, count_channels}
use Rattle.history.proofs.Sound.{one_sound, reachable}
use Rattle.history.proofs.Effects.{passed_does}
use Rattle.history.proofs.Writing.{write_by}
use Rattle.history.proofs.Parts.{none_first}
use Rattle.history.proofs.Manual.{manual_alone, manual_write}
use Rattle.history.proofs.Tracks.{TickTurn, tick_turn, tick_same, trigger_turn, trigger_same}

-- the channel shows what is told, and keeps its amplitude and counter
record Right (ch : Channel) (x : Told) : Type 0 where
  loaded : ch.loaded ≡ x.loaded
  place : ch.shown.place ≡ x.place
  amplitude : ch.shown.amplitude ≡ x.amplitude
  output : ch.signal.output ≡ x.output
  overflow : ch.signal.overflow ≡ x.overflowed % 65536
  counter : ch.signal.counter ≡ x.counter

told_append : (c : ℕ) (x : Told) (hs js : List Happening) → told c x (hs ++ js) ≡ told c (told c x hs) js
told_append c x [] js = refl
told_append c x (h ∷ hs) js = told_append c (tell c x h) hs js

-- ---- the signal

same_sine : (w : List ℕ) (c n m a b : ℕ) → n ≡ m → a ≡ b → sine_of w c n a ≡ sine_of w c m b
same_sine w c n m a b e f = rw (e, f)

same_counter : (isFirst : Bool) (t u : Tone) (n m : ℕ) → t ≡ u → n ≡ m → counter_at isFirst t n ≡ counter_at isFirst u m
same_counter isFirst t u n m e f = rw (e, f)

module _ (w : List ℕ) (c : ℕ) (ch : Channel) (x : Told) (r : Right ch x) where
  same_tone : ch.loaded.tone ≡ x.loaded.tone
  same_tone = cc

  -- at most 1 a sample
  overflow_right : (y : Option ℕ) (over : Bool) (n : ℕ) → (signal_after y over n ch.signal).overflow ≡ (sounds y over n x).overflowed % 65536
  overflow_right (Some v) true n = rw r.overflow (omega arith)
  overflow_right (Some v) false n = r.overflow
  overflow_right None true n = rw r.overflow (omega arith)
  overflow_right None false n = rw r.overflow (omega arith)

  sounds_right : (y : Option ℕ) (over : Bool) (n : ℕ) → Right (with_signal ch (signal_after y over n ch.signal)) (sounds y over n x)
  sounds_right (Some v) over n =
      record { loaded = r.loaded; place = r.place; amplitude = r.amplitude; output = refl; overflow = overflow_right (Some v) over n; counter = refl }
  sounds_right None over n =
      record { loaded = r.loaded; place = r.place; amplitude = r.amplitude; output = r.output; overflow = overflow_right None over n; counter = refl }

  -- in sine mode, of the amplitude at the counter
  sines_right : (over : Bool) (n m : ℕ) → n ≡ m → Right (with_signal ch (sine_after w c n ch.shown.amplitude over ch.signal)) (sines w c over m x)
  sines_right over n m e =
      subst (λ (y : Option ℕ). Right (with_signal ch (sine_after w c n ch.shown.amplitude over ch.signal)) (sounds y over m x))
      (same_sine w c n m ch.shown.amplitude x.amplitude e r.amplitude)
      (rw (← e)
      (sounds_right (sine_of w c n ch.shown.amplitude) over n))

  -- a ramp's sample, whose amplitude and place are in the channel already
  ramp_made : (isFirst : Bool) (u : Option ℕ)
      → Right (sounded w c ch (OfRamp isFirst u))
      (cond (is_sine x.loaded.tone.mode) (sines w c (overflows u) (counter_at isFirst x.loaded.tone x.counter) x) (sounds u false x.counter x))
  unfolding make_of
  ramp_made isFirst u =
      subst (λ (b : Bool). Right (sounded w c ch (OfRamp isFirst u)) (cond b sine plain)) (cc same_tone) (go (is_sine ch.loaded.tone.mode))
    where
      sine : Told
      sine = sines w c (overflows u) (counter_at isFirst x.loaded.tone x.counter) x

      plain : Told
      plain = sounds u false x.counter x

      go : (b : Bool)
          → Right (with_signal ch (cond b (sine_after w c (counter_at isFirst ch.loaded.tone ch.signal.counter) ch.shown.amplitude (overflows u) ch.signal) (signal_after u false ch.signal.counter ch.signal)))
          (cond b sine plain)
      go true = sines_right (overflows u) _ _ (same_counter isFirst _ _ _ _ same_tone r.counter)
      go false = rw (← r.counter) (sounds_right u false ch.signal.counter)

  -- a free run's
  free_made : Right (sounded w c ch OfFreeRun) (tell c x (FreeSample w))
  unfolding make_of
  free_made = sines_right false _ _ (same_counter false _ _ _ _ same_tone r.counter)

-- ---- a tick of a channel, with the wave tables w

module _ (s l : List ℕ) (c : ℕ) (ch : Channel) (x : Told) (r : Right ch x) where
  same_right : (p : Phase) → Right (with ch p ch.shown) x
  same_right p = record { loaded = r.loaded; place = r.place; amplitude = r.amplitude; output = r.output; overflow = r.overflow; counter = r.counter }

  ramped_right : (ph : Phase) (p : Place) (u : Option ℕ) → Right (with ch ph (put u p ch.shown)) (ramped p u x)
  ramped_right ph p u =
      record { loaded = r.loaded; place = refl; amplitude = ap (hold u) r.amplitude; output = r.output; overflow = r.overflow; counter = r.counter }

  loads_right : (level : ℕ) → Right (load s l c ch level).channel (tell c x (Load (loaded_for s c level)))
  unfolding load
  loads_right level = record { loaded = refl; place = refl; amplitude = r.amplitude; output = r.output; overflow = r.overflow; counter = r.counter }

  module _ (w : List ℕ) where
    -- the channel after the second pass
    abbrev out : Move → Channel
    out m = (sounded_side w c m).channel

    quiet_right : (y : Told) (z : Side) → Right z.channel y → Right (out (quiet z)) y
    unfolding make_of
    quiet_right y z h = record { loaded = h.loaded; place = h.place; amplitude = h.amplitude; output = h.output; overflow = h.overflow; counter = h.counter }

    put_right : (isFirst : Bool) (ph : Phase) (p : Place) (u : Option ℕ)
        → Right (sounded w c (with ch ph (put u p ch.shown)) (OfRamp isFirst u)) (tell c x (Sample w isFirst p u))
    put_right isFirst ph p u = ramp_made w c (with ch ph (put u p ch.shown)) (ramped p u x) (ramped_right ph p u) isFirst u

    start_right : (ed : Edition) → Right (out (start ed s l c ch)) (told c x (by_start ed w s l c ch))
    unfolding start given
    start_right ed = go (eqb (word s (enable_at c)) 1)
      where
        m : Moved
        m = given ed true l (first_of c) ch.loaded (lasting 1) (enter l (first_of c) 0) ch.shown

        go : (b : Bool) → Right (out (cond b (moved_on ch l m) (quiet (side (with ch Rest ch.shown) l)))) (told c x (cond b (sample ed w true l c ch (enter l (first_of c) 0)) []))
        go true = put_right true (phase_of m.ramp) (enter l (first_of c) 0) (sample_at ed l (first_of c) ch.loaded (enter l (first_of c) 0))
        go false = quiet_right x (side (with ch Rest ch.shown) l) (same_right Rest)

    -- a ramp moves on, in a phase made of what it becomes
    abbrev on : (Ramp → Phase) → Moved → Channel
    on in-phase o = sounded w c (with ch (in-phase o.ramp) o.shown) o.gave

    waits_right : (ph : Phase) → Right (sounded w c (with ch ph ch.shown) NoSample) x
    waits_right ph = quiet_right x (side (with ch ph ch.shown) l) (same_right ph)

    ramp_right : (ed : Edition) (in-phase : Ramp → Phase) (older : Ramp) → Right (on in-phase (advance ed l (first_of c) ch.loaded older ch.shown)) (told c x (by_ramp ed w l c ch older))
    unfolding advance given
    ramp_right ed in-phase Still = waits_right (in-phase Still)
    ramp_right ed in-phase (Going v) = go (ltb 1 v.wait.0)
      where
        m : Moved
        m = given ed false l (first_of c) ch.loaded v.period.0 (next l (first_of c) v.place) ch.shown

        go : (b : Bool) → Right (on in-phase (cond b (unsampled (Going (sooner v)) ch.shown) m)) (told c x (cond b [] (sample ed w false l c ch (next l (first_of c) v.place))))
        go true = waits_right (in-phase (Going (sooner v)))
        go false = put_right false (in-phase m.ramp) (next l (first_of c) v.place) (sample_at ed l (first_of c) ch.loaded (next l (first_of c) v.place))
    ramp_right ed in-phase (Free v) = go (ltb 1 v.wait.0)
      where
        again : Ramp
        again = Free (way v.place v.period.0 v.period.0)

        go : (b : Bool) → Right (on in-phase (cond b (unsampled (Free (sooner v)) ch.shown) (record { ramp = again; shown = ch.shown; gave = OfFreeRun }))) (told c x (cond b [] (FreeSample w ∷ [])))
        go true = waits_right (in-phase (Free (sooner v)))
        go false = free_made w c (with ch (in-phase again) ch.shown) x (same_right (in-phase again))

    moves_right : (ed : Edition) (p : Phase) → Right (out (move_at ed p s l c ch)) (told c x (in_phase ed p w s l c ch))
    unfolding move_at count_to
    moves_right ed Rest = quiet_right x (side ch l) r
    moves_right ed (Counting n older) = go (eqb (n.0 - 1) 0) (loads_at (n.0 - 1))
      where
        o : Moved
        o = advance ed l (first_of c) ch.loaded older ch.shown

        go : (a b : Bool)
            → Right (out (cond a (start ed s l c ch) (cond b (quiet (load s l c ch ch.level)) (move (with ch (Counting (record { 0 = n.0 - 1 }) o.ramp) o.shown) l o.gave))))
            (told c x (cond a (by_start ed w s l c ch) (cond b (Load (loaded_for s c ch.level) ∷ []) (by_ramp ed w l c ch older))))
        go true b = start_right ed
        go false true = quiet_right _ (load s l c ch ch.level) (loads_right ch.level)
        go false false = ramp_right ed (Counting (record { 0 = n.0 - 1 })) older
    moves_right ed (Running v) = ramp_right ed phase_of (Going v)
    moves_right ed (FreeRunning v) = ramp_right ed phase_of (Free v)

    tick_right : (ed : Edition) → Right (tick_of ed s w l c ch).channel (told c x (by_tick ed w s l c ch))
    unfolding tick_of
    tick_right ed = moves_right ed ch.phase

  trigger_right : (level : ℕ) → Right (triggered s l c ch level).channel (told c x (by_trigger (Some level) s c))
  unfolding triggered
  trigger_right level = go (loads_at (countdown s c level))
    where
      counting : Channel
      counting = record { phase = Counting (record { 0 = countdown s c level }) (ramp_of ch.phase); level = level; loaded = ch.loaded; shown = ch.shown; signal = ch.signal }

      go : (b : Bool) → Right (cond b (load s l c ch level) (side counting l)).channel (told c x (cond b (Load (loaded_for s c level) ∷ []) []))
      go true = loads_right level
      go false = record { loaded = r.loaded; place = r.place; amplitude = r.amplitude; output = r.output; overflow = r.overflow; counter = r.counter }

-- ---- the tables of other channels do not matter

module _ (ed : Edition) (w s l m : List ℕ) (c : ℕ) (ch : Channel) (same : SameTable m (first_of c) l (first_of c)) where
  same_at : (isFirst : Bool) (p q : Place) → p ≡ q → Placed q → sample ed w isFirst m c ch p ≡ sample ed w isFirst l c ch q
  same_at isFirst p q e h = rw e (cc (same_sample m (first_of c) l (first_of c) same ed ch.loaded q h))

  same_ramp : (r : Ramp) → RampSound r → by_ramp ed w m c ch r ≡ by_ramp ed w l c ch r
  same_ramp (Going r) h =
      cc (same_at false _ _ (same_next m (first_of c) l (first_of c) same r.place h.inner) (placed_next l (first_of c) r.place h.inner))
  same_ramp _ h = refl

  same_start : by_start ed w s m c ch ≡ by_start ed w s l c ch
  same_start =
      cc (same_at true _ _ (same_enter m (first_of c) l (first_of c) same 0 (omega arith)) (placed_enter l (first_of c) 0 (omega arith)))

  pub same_tick : (p : Phase) → PhaseSound p → in_phase ed p w s m c ch ≡ in_phase ed p w s l c ch
  same_tick (Counting n older) h = rw (same_start, same_ramp older h.ramp)
  same_tick (Running r) h = same_ramp (Going r) h
  same_tick _ h = refl

pub four_fresh : (ed : Edition) (k : ℕ) → k < 4 → channel_of (card_reset ed) k ≡ reset_channel
unfolding card_reset
four_fresh ed (suc (suc (suc (suc k)))) h = absurd (omega arith)
four_fresh ed _ h = refl

-- ---- the card's channel c

module _ (c : ℕ) (inside : c < 4) where
  advanced_right : (waves : List ℕ) (st : State) → Sound st → (x : Told) → Right (channel_of st.card c) x
      → Right (channel_of (advanced waves st).card c) (told c x (in_tick waves st c))
  advanced_right waves st h x r =
      rw (← happen)
      (rw (← (tick_same waves st c y)) (tick_right st.settings y.mid c ch x r waves st.card.edition))
    where
      ch : Channel
      ch = channel_of st.card c

      y : TickTurn waves st c
      y = tick_turn waves st c inside

      same : SameTable y.mid (first_of c) st.tables (first_of c)
      same = rw (y.comes st.card.edition) at (untimed_table st.card.edition c (side ch st.tables) y.before y.none (omega (arith, h.tables.many)))

      happen : in_phase st.card.edition ch.phase waves st.settings y.mid c ch ≡ in_phase st.card.edition ch.phase waves st.settings st.tables c ch
      happen = same_tick st.card.edition waves st.settings st.tables y.mid c ch same ch.phase (h.card.channels c).phase

  struck_right : (st : State) (level event : ℕ) (x : Told) → Right (channel_of st.card c) x
      → Right (channel_of (trigger_of st level event).card c) (told c x (by_trigger (Some level) st.settings c))
  struck_right st level event x r =
      let y = trigger_turn st level c inside in
      rw (← (trigger_same st level event c y))
      (trigger_right st.settings y.mid c (channel_of st.card c) x r level)

  -- ---- a word done

  record Goes (st z : State) (hs : List Happening) : Type 0 where
    settled : length z.card.channels ≡ 4
    right : (x : Told) → Right (channel_of st.card c) x → Right (channel_of z.card c) (told c x hs)

  -- a word at another address, that leaves the channel
  idle : (st y : State) (a v : ℕ) → (a ≡ base c + 0xA04 → ⊥) → (a ≡ base c + 0xA39 → ⊥) → length y.card.channels ≡ 4 → channel_of y.card c ≡ channel_of st.card c
      → Goes st y (by_word c a v)
  idle st y a v n m f e = rw (ne_eqb a (base c + 0xA04) n, ne_eqb a (base c + 0xA39) m) (record { settled = f; right = λ x r. rw e r })

  -- a word that makes another channel of channel d: of c where d is c
  channel_goes : (st y : State) (d a v : ℕ) (ch : Channel) (h : Happening) → length st.card.channels ≡ 4 → y.card ≡ with_channel st.card d ch
      → (c ≡ d → by_word c a v ≡ h ∷ []) → ((c ≡ d → ⊥) → by_word c a v ≡ []) → ((x : Told) → c ≡ d → Right (channel_of st.card c) x → Right ch (tell c x h))
      → Goes st y (by_word c a v)
  channel_goes st y d a v ch h f e here away right = go (eqb c d) refl
    where
      many : length y.card.channels ≡ 4
      many = cc (channel_many st.card d ch)

      go : (b : Bool) → eqb c d ≡ b → Goes st y (by_word c a v)
      go true g =
          let i = eqb-true c d g in
          let k : channel_of y.card c ≡ ch = ap (λ (k : Card). channel_of k c) e ∙ rw i (channel_same st.card d ch (rw i at inside) f) in
          rw (here i) (record { settled = many; right = λ x r. rw k (right x i r) })
      go false g =
          let i = eqb-false c d g in
          let k : channel_of y.card c ≡ channel_of st.card c = cc (channel_other st.card d ch c i) in
          rw (away i) (record { settled = many; right = λ x r. rw k r })

  word_goes : (st : State) (a v : ℕ) (y : State) → length st.card.channels ≡ 4 → (a ≡ 0x4202 → ⊥) → Does st a v y → Goes st y (by_word c a v)
  word_goes st a v y f n (Keeps i e) =
      idle st y a v (λ d. cc (output_register c inside)) (λ d. cc (overflow_register c inside)) (rw e f) cc
  word_goes st a v y f n (Outputs d h i g e) =
      channel_goes st y d a v (output_to (channel_of st.card d) v) (Output v) f (cc)
      (λ u. rw (eq-eqb a (base c + 0xA04) (omega arith)))
      (λ u. rw (ne_eqb a (base c + 0xA04) (λ w. u (omega arith)), ne_eqb a (base c + 0xA39) (λ w. absurd (omega arith))))
      (λ x u r. let z : Right (channel_of st.card d) x = rw u at r in record { loaded = z.loaded; place = z.place; amplitude = refl; output = refl; overflow = z.overflow; counter = z.counter })
  word_goes st a v y f n (ClearsOverflow d h i e) =
      channel_goes st y d a v (overflow_cleared (channel_of st.card d)) Clear f (cc)
      (λ u. rw (ne_eqb a (base c + 0xA04) (λ w. absurd (omega arith)), eq-eqb a (base c + 0xA39) (omega arith)))
      (λ u. rw (ne_eqb a (base c + 0xA04) (λ w. absurd (omega arith)), ne_eqb a (base c + 0xA39) (λ w. u (omega arith))))
      (λ x u r. let z : Right (channel_of st.card d) x = rw u at r in record { loaded = z.loaded; place = z.place; amplitude = z.amplitude; output = z.output; overflow = refl; counter = z.counter })
  word_goes st a v y f n (ClearsCount l h i e) =
      let k : y.card.channels ≡ st.card.channels = cc (count_channels st.card l 0) in
      idle st y a v (λ d. absurd (omega arith)) (λ d. absurd (omega arith)) (rw k f) (rw k)
  word_goes st a v y f n (Erases i g e) = idle st y a v (λ d. absurd (omega arith)) (λ d. absurd (omega arith)) (rw e f) cc
  word_goes st a v y f n (Idles i g e) = idle st y a v (λ d. absurd (omega arith)) (λ d. absurd (omega arith)) (rw e f) cc
  word_goes st a v y f n (Triggers i g e) = absurd (n i)

  both : (x y z : State) (hs js : List Happening) → Goes x y hs → Goes y z js → Goes x z (hs ++ js)
  both x y z hs js p q = record { settled = q.settled; right = λ t r. rw (told_append c t hs js) (q.right (told c t hs) (p.right t r)) }

  write_goes : (st : State) (start count : ℕ) (ws : List ℕ) → length st.card.channels ≡ 4 → manual_among start (words_done st start count ws) ≡ None
      → Goes st (write_of st start count ws).state (by_words c start (words_done st start count ws))
  write_goes =
      write_by (λ st a vs z. length st.card.channels ≡ 4 → manual_among a vs ≡ None → Goes st z (by_words c a vs))
      (λ st a f q. record { settled = f; right = λ x r. r })
      (λ st a v vs z p r f q. let y = none_first a v vs q in
      let w = word_goes st a v _ f y.0 (passed_does st a v p) in
      both st _ z (by_word c a v) (by_words c (a + 1) vs) w (r w.settled y.1))

  -- the one word at 0x4202 is none of the channel's
  no_words : (a : ℕ) (vs : List ℕ) → a ≡ 0x4202 → length vs ≤ 1 → by_words c a vs ≡ []
  no_words a [] e h = refl
  no_words a (v ∷ []) e h = rw (ne_eqb a (base c + 0xA04) (λ d. absurd (omega arith)), ne_eqb a (base c + 0xA39) (λ d. absurd (omega arith)))
  no_words a (v ∷ w ∷ vs) e h = absurd (omega arith)

  -- ---- any act

  reset_right : (ed : Edition) (s l : List ℕ) → Right (channel_of (fresh_of ed s l).card c) fresh
  reset_right ed s l = rw (four_fresh ed c inside) (record { loaded = refl; place = refl; amplitude = refl; output = refl; overflow = refl; counter = refl })

  act_right : (st : State) → Sound st → (y : Act) (x : Told) → Right (channel_of st.card c) x → Right (channel_of (act st y).card c) (told c x (happens c st y))
  unfolding advanced
  act_right st h (Tick waves event) x r = go (accepted_of st.settings event)
    where
      hs : List Happening
      hs = in_tick waves st c

      moved : Right (channel_of (advanced waves st).card c) (told c x hs)
      moved = advanced_right waves st h x r

      go : (k : Option ℕ) → Right (channel_of (on_event k (advanced waves st) event).card c) (told c x (hs ++ by_trigger k st.settings c))
      go (Some l) = rw (told_append c x hs (by_trigger (Some l) st.settings c)) (struck_right (advanced waves st) l event (told c x hs) moved)
      go None = rw (told_append c x hs []) moved
  act_right st h (Write start count ws) x r = go (trigger_by st (Write start count ws)) refl
    where
      js : List Happening
      js = by_words c start (words_done st start count ws)

      go : (k : Option ℕ) → trigger_by st (Write start count ws) ≡ k
          → Right (channel_of (write_of st start count ws).state.card c) (told c x (by_trigger k st.settings c ++ js))
      go (Some l) e =
          let y = manual_alone st start count ws l e in
          rw (told_append c x (by_trigger (Some l) st.settings c) js, no_words start (words_done st start count ws) y.here y.few, manual_write st start count ws l e)
          (struck_right st l 0xFE x r)
      go None e = (write_goes st start count ws h.card.four e).right x r
  act_right st h (Renew how) x r = reset_right (edition_by how st.card.edition) st.settings st.tables
  act_right st h _ x r = r

  acts_right : (st : State) → Sound st → (xs : List Act) → Words16 xs → (x : Told) → Right (channel_of st.card c) x
      → Right (channel_of (acts st xs).card c) (told c x (story c st xs))
  acts_right st h [] w x r = r
  acts_right st h (y ∷ ys) w x r =
      let n = one_sound st y ys w h in
      rw (told_append c x (happens c st y) (story c (act st y) ys))
      (acts_right (act st y) n.0 ys n.1 (told c x (happens c st y)) (act_right st h y x r))

  reads : (st : State) (x : Told) → Right (channel_of st.card c) x → Shows c st x
  reads st x r =
      record {
        output = rw (output_register c inside) r.output;
        table = rw (table_register c inside) cc;
        scale = rw (scale_register c inside) cc;
        offset = rw (offset_register c inside) cc;
        segment = rw (segment_register c inside) cc;
        left = rw (left_register c inside) cc;
        overflow = rw (overflow_register c inside) r.overflow;
        tone = cc;
        amplitude = r.amplitude;
        counter = r.counter;
      }

-- A CHANNEL'S WORDS SHOW WHAT ITS STORY TELLS
pub channels_right : ChannelsRight
unfolding ChannelsRight
channels_right ed s l p q xs w c h =
    reads c h (acts (fresh_of ed s l) xs) (told c fresh (story c (fresh_of ed s l) xs))
    (acts_right c h (fresh_of ed s l) (reachable.fresh ed s l p q) xs w fresh (reset_right c h ed s l))

-- AFTER A RESET NO CHANNEL COUNTS OR RUNS
pub at_rest : AtRest
unfolding AtRest
at_rest ed s l c h = rw (four_fresh ed c h)
