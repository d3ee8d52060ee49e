-- A channel keeps its rules: a tick goes from a sound phase to a sound phase, and so does a trigger. A ramp comes only to places before
-- point 63 with samples left, or ends, and runs free only if it was loaded so; a countdown reaches 10 only by a load, which stops the older
-- ramp. Every sum in range is a word, so the signal is of words. Assumes nothing.
use Rattle.std.specs.Prelude.{Option, Some, None}
use mathlib.Core.Path.{◌≡◌, refl, sym, ◌∙◌}
use mathlib.Core.Bool.{Bool, true, false, cond}
use mathlib.Core.List.{List}
use Prim.Native.Nat.{ℕ, zero, suc, ◌+◌, ◌*◌, ◌-◌, ◌≤◌, ◌<◌}
use native.Mathlib.Omega.{arith}
use native.Mathlib.Nat.{mod-lt}
use lib.Dec.{ltb, eqb}
use lib.IntN.{ℤ, pos, negsuc}
use borrow.Author.Tests.{ltb-true, leb-true, eqb-true, eqb-false}
use Rattle.word.specs.Word.{grown}
use Rattle.word.specs.Copy.{copied}
use Rattle.word.specs.Table.{step_at, is_end}
use Rattle.map.specs.Register.{is_mode}
use Rattle.map.specs.Addresses.{table_at, ramp_map_at, scale_map_at, scale_at, offset_map_at, offset_at, delay_at, frequency_map_at, frequency_at, phase_map_at, phase_at, enable_at, mode_at}
use Rattle.map.proofs.Values.{accepted_is}
use Rattle.sum.specs.declared.Edition.{Edition}
use Rattle.sum.specs.Sample.{side_of, settled}
use Rattle.wave.specs.Sine.{sine_of}
use Rattle.channel.specs.declared.Place.{Place}
use Rattle.channel.specs.declared.Shown.{Shown}
use Rattle.channel.specs.declared.Tone.{Tone}
use Rattle.channel.specs.declared.Loaded.{Loaded}
use Rattle.channel.specs.declared.Moved.{Moved}
use Rattle.channel.specs.declared.Ramp.{Ramp}
use Rattle.channel.specs.declared.Ramp.TheVariants.{Still, Going, Free}
use Rattle.channel.specs.declared.Phase.{Phase}
use Rattle.channel.specs.declared.Phase.TheVariants.{Rest, Counting, Running, FreeRunning}
use Rattle.channel.specs.declared.Signal.{Signal}
use Rattle.channel.specs.declared.Gave.{Gave}
use Rattle.channel.specs.declared.Gave.TheVariants.{NoSample, OfRamp, OfFreeRun}
use Rattle.channel.specs.declared.Channel.{Channel}
use Rattle.channel.specs.Ramp.{place, enter, next, sample_at, hold, way, is_sine, free_runs, ended, given, sooner, unsampled, advance}
use Rattle.channel.specs.Signal.{signal_after, counter_at, sine_after, overflows, make_of}
use Rattle.channel.specs.Channel.{Side, Move, side, move, quiet, moved_on, with, with_signal, word, first_of, lead, loads_at, ramp_of, phase_of, load, tone_for, start, count_to, move_at, move_of, tick_of, countdown, triggered}
use Rattle.course.specs.Plain.{is_free}
use Rattle.course.proofs.Copies.{choose, copied_length}
use Rattle.course.proofs.Tables.{Placed}
use Rattle.course.proofs.Walk.{placed_enter, placed_next}
use Rattle.history.specs.Sound.{Words, Tables, RampSound, Countdown, PhaseSound, ShownSound, SignalSound, ToneSound, ChannelSound}
use Rattle.history.proofs.Fixed.{ramp_map_register, mode_register}
use Rattle.history.proofs.Words.{set_word}

-- ---- a sample

abbrev SmallSum : Option ℕ → Type 0
SmallSum (Some v) = v < 65536
SmallSum None = Unit

settled_small : (z : ℤ) → SmallSum (settled z)
unfolding side_of
settled_small (pos n) = grind arith
settled_small (negsuc n) = grind arith

-- what is held after a sum is a word, if it was one before
hold_small : (x : Option ℕ) (n : ℕ) → SmallSum x → n < 65536 → hold x n < 65536
hold_small (Some v) n e h = e
hold_small None n e h = h

grown_small : (n : ℕ) → grown n < 65536
grown_small n = mod-lt (n + 1) (omega arith)

-- ---- the signal

abbrev GaveSound : Gave → Type 0
GaveSound NoSample = Unit
GaveSound (OfRamp isFirst x) = SmallSum x
GaveSound OfFreeRun = Unit

after_sound : (x : Option ℕ) (over : Bool) (n : ℕ) (g : Signal) → SmallSum x → n < 65536 → SignalSound g → SignalSound (signal_after x over n g)
after_sound (Some v) over n g e m h =
    record { output = e; overflow = choose (λ (k : ℕ). k < 65536) over _ _ (grown_small g.overflow) h.overflow; counter = m }
after_sound None over n g e m h = record { output = h.output; overflow = grown_small g.overflow; counter = m }

sine_sound : (w : List ℕ) (c n a : ℕ) (over : Bool) (g : Signal) → n < 65536 → SignalSound g → SignalSound (sine_after w c n a over g)
sine_sound w c n a over g m h = after_sound (sine_of w c n a) over n g (settled_small _) m h

made_sound : (w : List ℕ) (c : ℕ) (x : Gave) (t : Tone) (a : ℕ) (g : Signal) → GaveSound x → ToneSound t → SignalSound g → SignalSound (make_of w c x t a g)
unfolding make_of
made_sound w c NoSample t a g e f h = h
made_sound w c (OfRamp isFirst x) t a g e f h =
    choose SignalSound (is_sine t.mode) _ _ (sine_sound w c _ a (overflows x) g counter h) (after_sound x false g.counter g e h.counter h)
  where
    counter : counter_at isFirst t g.counter < 65536
    counter = choose (λ (k : ℕ). k < 65536) isFirst t.phase _ f.phase (mod-lt (g.counter + t.frequency) (omega arith))
made_sound w c OfFreeRun t a g e f h = sine_sound w c _ a false g (mod-lt (g.counter + t.frequency) (omega arith)) h

-- ---- the ramp

-- a place that a ramp comes to, its samples left a word
record At (p : Place) : Type 0 where
  placed : Placed p
  small : p.left.0 < 65536

-- a ramp that runs free was loaded so
record RampRight (l : Loaded) (r : Ramp) : Type 0 where
  sound : RampSound r
  free : is_free r ≡ true → free_runs l.tone.mode ≡ true

module _ (w : List ℕ) (first : ℕ) (l : Loaded) where
  sample_small : (ed : Edition) (p : Place) → SmallSum (sample_at ed w first l p)
  unfolding sample_at
  sample_small ed p = choose SmallSum (eqb p.left.0 0) _ _ (settled_small _) (settled_small _)

  record MovedSound (m : Moved) : Type 0 where
    ramp : RampRight l m.ramp
    shown : ShownSound m.shown
    gave : GaveSound m.gave

  still_right : RampRight l Still
  still_right = record { sound = tt; free = λ e. absurd cc }

  given_sound : (ed : Edition) (isFirst : Bool) (p : Place) (s : Shown) → At p → ShownSound s → MovedSound (given ed isFirst w first l 10 p s)
  unfolding given ended
  given_sound ed isFirst p s a h =
      record {
        ramp = go (eqb p.left.0 0) refl (free_runs l.tone.mode) refl;
        shown = record { amplitude = hold_small (sample_at ed w first l p) s.amplitude (sample_small ed p) h.amplitude; segment = a.placed.most; left = a.small };
        gave = sample_small ed p;
      }
    where
      go : (b : Bool) → eqb p.left.0 0 ≡ b → (f : Bool) → free_runs l.tone.mode ≡ f → RampRight l (cond b (cond f (Free (way p 10 10)) Still) (Going (way p 10 10)))
      go true e true f =
          record {
            sound = record { most = a.placed.most; ended = eqb-true p.left.0 0 e; wait = omega arith; soon = omega arith; period = refl };
            free = λ u. f;
          }
      go true e false f = still_right
      go false e v f =
          let d = eqb-false p.left.0 0 e in
          let i : 1 ≤ p.left.0 = omega arith in
          record {
            sound = record { inner = a.placed.inner i; left = i; small = a.small; wait = omega arith; soon = omega arith; period = refl };
            free = λ u. absurd cc;
          }

  enter_small : (n : ℕ) → ((i : ℕ) → word w i < 65536) → (enter w first n).left.0 < 65536
  unfolding enter
  enter_small n f = choose (λ (m : ℕ). m < 65536) (is_end n (step_at w first n)) 0 (step_at w first n) (omega arith) (f (first + 2 * n + 1))

  next_small : (p : Place) → p.left.0 < 65536 → ((i : ℕ) → word w i < 65536) → (next w first p).left.0 < 65536
  unfolding next
  next_small p g f =
      choose (λ (q : Place). q.left.0 < 65536) (ltb 1 p.left.0) (place p.segment (p.left.0 - 1)) (enter w first (grown p.segment)) (omega arith)
      (enter_small (grown p.segment) f)

  enter_at : (n : ℕ) → n ≤ 63 → ((i : ℕ) → word w i < 65536) → At (enter w first n)
  enter_at n h f = record { placed = placed_enter w first n h; small = enter_small n f }

  next_at : (p : Place) → p.segment < 63 → p.left.0 < 65536 → ((i : ℕ) → word w i < 65536) → At (next w first p)
  next_at p h g f = record { placed = placed_next w first p h; small = next_small p g f }

  advance_sound : (ed : Edition) (r : Ramp) (s : Shown) → ((i : ℕ) → word w i < 65536) → RampRight l r → ShownSound s → MovedSound (advance ed w first l r s)
  unfolding advance
  advance_sound ed Still s f g h = record { ramp = still_right; shown = h; gave = tt }
  advance_sound ed (Going r) s f g h = go (ltb 1 r.wait.0) refl
    where
      go : (b : Bool) → ltb 1 r.wait.0 ≡ b
          → MovedSound (cond b (unsampled (Going (sooner r)) s) (given ed false w first l r.period.0 (next w first r.place) s))
      go true e =
          let d = ltb-true 1 r.wait.0 e in
          let k = g.sound in
          record {
            ramp =
                record {
                  sound = record { inner = k.inner; left = k.left; small = k.small; wait = omega arith; soon = omega (arith, k.soon); period = k.period };
                  free = g.free;
                };
            shown = h;
            gave = tt;
          }
      go false e = rw g.sound.period (given_sound ed false (next w first r.place) s (next_at r.place g.sound.inner g.sound.small f) h)
  advance_sound ed (Free r) s f g h = go (ltb 1 r.wait.0) refl
    where
      go : (b : Bool) → ltb 1 r.wait.0 ≡ b
          → MovedSound (cond b (unsampled (Free (sooner r)) s) (record { ramp = Free (way r.place r.period.0 r.period.0); shown = s; gave = OfFreeRun }))
      go true e =
          let d = ltb-true 1 r.wait.0 e in
          let k = g.sound in
          record {
            ramp = record { sound = record { most = k.most; ended = k.ended; wait = omega arith; soon = omega (arith, k.soon); period = k.period }; free = g.free };
            shown = h;
            gave = tt;
          }
      go false e =
          let k = g.sound in
          record {
            ramp = record { sound = record { most = k.most; ended = k.ended; wait = omega (arith, k.period); soon = omega arith; period = k.period }; free = g.free };
            shown = h;
            gave = tt;
          }

  advance_still : (ed : Edition) (r : Ramp) (s : Shown) → r ≡ Still → (advance ed w first l r s).ramp ≡ Still
  unfolding advance
  advance_still ed r s e = rw e

-- ---- a channel with the loaded tables beside it

pub record SideSound (x : Side) : Type 0 where
  pub channel : ChannelSound x.channel
  pub tables : Tables x.tables

record MoveSound (x : Move) : Type 0 where
  channel : ChannelSound x.channel
  tables : Tables x.tables
  gave : GaveSound x.gave

quiet_sound : (x : Side) → SideSound x → MoveSound (quiet x)
quiet_sound x h = record { channel = h.channel; tables = h.tables; gave = tt }

phase_sound : (r : Ramp) → RampSound r → PhaseSound (phase_of r)
phase_sound Still h = tt
phase_sound _ h = h

pub ramp_sound : (p : Phase) → PhaseSound p → RampSound (ramp_of p)
ramp_sound Rest h = tt
ramp_sound (Counting n older) h = h.ramp
ramp_sound _ h = h

-- the ramp of a phase that goes on with a ramp
pub ramp_phase : (r : Ramp) → ramp_of (phase_of r) ≡ r
ramp_phase Still = refl
ramp_phase (Going r) = refl
ramp_phase (Free r) = refl

pub with_sound : (ch : Channel) (p : Phase) (s : Shown) → ChannelSound ch → PhaseSound p → (is_free (ramp_of p) ≡ true → free_runs ch.loaded.tone.mode ≡ true) → ShownSound s
    → ChannelSound (with ch p s)
with_sound ch p s h f r g =
    record {
      phase = f;
      level = h.level;
      table = h.table;
      scale = h.scale;
      offset = h.offset;
      tone = h.tone;
      free = r;
      shown = g;
      signal = h.signal;
    }

pub signal_sound : (ch : Channel) (g : Signal) → ChannelSound ch → SignalSound g → ChannelSound (with_signal ch g)
signal_sound ch g h k =
    record {
      phase = h.phase;
      level = h.level;
      table = h.table;
      scale = h.scale;
      offset = h.offset;
      tone = h.tone;
      free = h.free;
      shown = h.shown;
      signal = k;
    }

copied_small : (n : ℕ) (s : List ℕ) (from : ℕ) (l : List ℕ) (to : ℕ) → ((a : ℕ) → word s a < 65536) → ((i : ℕ) → word l i < 65536)
    → (i : ℕ) → word (copied n s from l to) i < 65536
unfolding copied
copied_small zero s from l to f g i = g i
copied_small (suc n) s from l to f g i =
    set_word (λ y. y < 65536) (copied n s from l to) (to + n) (word s (from + n)) i (λ e. f (from + n)) (copied_small n s from l to f g i)

module _ (s : List ℕ) (w : Words s) (l : List ℕ) (c : ℕ) (inside : c < 4) (ch : Channel) (h : ChannelSound ch) (t : Tables l) where
  copied_tables : (from : ℕ) → Tables (copied 128 s from l (first_of c))
  copied_tables from =
      record { many = copied_length 128 s from l (first_of c) ∙ t.many; small = copied_small 128 s from l (first_of c) w.small t.small }

  -- the table of a level is one of 16
  table_number : (level : ℕ) → level < 32 → word s (ramp_map_at c level) ≤ 15
  table_number level g =
      let r = ramp_map_register c level inside g in
      let e = w.accepted (ramp_map_at c level) (rw r) in
      leb-true (word s (ramp_map_at c level)) 15 (sym (accepted_is (ramp_map_at c level) (word s (ramp_map_at c level)) ∙ rw r) ∙ e)

  mode_allowed : is_mode (word s (mode_at c)) ≡ true
  mode_allowed =
      let r = mode_register c inside in
      sym (accepted_is (mode_at c) (word s (mode_at c)) ∙ rw r) ∙ w.accepted (mode_at c) (rw r)

  tone_sound : (level : ℕ) → ToneSound (tone_for s c level)
  tone_sound level =
      record {
        mode = mode_allowed;
        frequency = w.small (frequency_at c (word s (frequency_map_at c level)));
        phase = w.small (phase_at c (word s (phase_map_at c level)));
      }

  load_sound : (level : ℕ) → level < 32 → SideSound (load s l c ch level)
  unfolding load
  load_sound level g =
      record {
        channel =
            record {
              phase = record { some = omega arith; small = omega arith; alone = λ e. refl; ramp = tt };
              level = g;
              table = table_number level g;
              scale = w.small (scale_at c (word s (scale_map_at c level)));
              offset = w.small (offset_at c (word s (offset_map_at c level)));
              tone = tone_sound level;
              free = λ e. absurd cc;
              shown = record { amplitude = h.shown.amplitude; segment = omega arith; left = omega arith };
              signal = h.signal;
            };
        tables = copied_tables (table_at c (word s (ramp_map_at c level)));
      }

  -- the channel after a move of its ramp
  moved_sound : (m : Moved) → MovedSound l (first_of c) ch.loaded m → MoveSound (moved_on ch l m)
  moved_sound m k =
      record {
        channel =
            with_sound ch (phase_of m.ramp) m.shown h (phase_sound m.ramp k.ramp.sound)
            (rw (ramp_phase m.ramp) k.ramp.free) k.shown;
        tables = t;
        gave = k.gave;
      }

  start_sound : (ed : Edition) → MoveSound (start ed s l c ch)
  unfolding start
  start_sound ed =
      let m = given_sound l (first_of c) ch.loaded ed true (enter l (first_of c) 0) ch.shown (enter_at l (first_of c) ch.loaded 0 (omega arith) t.small) h.shown in
      choose MoveSound (eqb (word s (enable_at c)) 1) _ _ (moved_sound _ m)
      (quiet_sound (side (with ch Rest ch.shown) l)
      (record { channel = with_sound ch Rest ch.shown h tt (λ e. absurd cc) h.shown; tables = t }))

  count_sound : (ed : Edition) (n : ℕ) (older : Ramp) → Countdown n older → (is_free older ≡ true → free_runs ch.loaded.tone.mode ≡ true) → MoveSound (count_to ed (n - 1) older s l c ch)
  unfolding count_to
  count_sound ed n older k r = go (eqb (n - 1) 0) refl (loads_at (n - 1)) refl
    where
      o : Moved
      o = advance ed l (first_of c) ch.loaded older ch.shown

      go : (a : Bool) → eqb (n - 1) 0 ≡ a → (b : Bool) → loads_at (n - 1) ≡ b
          → MoveSound (cond a (start ed s l c ch) (cond b (quiet (load s l c ch ch.level)) (move (with ch (Counting (record { 0 = n - 1 }) o.ramp) o.shown) l o.gave)))
      go true e b f = start_sound ed
      go false e true f = quiet_sound (load s l c ch ch.level) (load_sound ch.level h.level)
      go false e false f =
          let d = eqb-false (n - 1) 0 e in
          let g = eqb-false (n - 1) lead f in
          let m = advance_sound l (first_of c) ch.loaded ed older ch.shown t.small (record { sound = k.ramp; free = r }) h.shown in
          record {
            channel =
                with_sound ch (Counting (record { 0 = n - 1 }) o.ramp) o.shown h
                (record {
                  some = omega arith;
                  small = omega (arith, k.small);
                  alone = λ i. advance_still l (first_of c) ch.loaded ed older ch.shown (k.alone (omega arith));
                  ramp = m.ramp.sound;
                })
                m.ramp.free m.shown;
            tables = t;
            gave = m.gave;
          }

  move_in : (ed : Edition) (p : Phase) → PhaseSound p → (is_free (ramp_of p) ≡ true → free_runs ch.loaded.tone.mode ≡ true) → MoveSound (move_at ed p s l c ch)
  unfolding move_at
  move_in ed Rest k r = quiet_sound (side ch l) (record { channel = h; tables = t })
  move_in ed (Counting n older) k r = count_sound ed n.0 older k r
  move_in ed (Running x) k r =
      moved_sound _ (advance_sound l (first_of c) ch.loaded ed (Going x) ch.shown t.small (record { sound = k; free = r }) h.shown)
  move_in ed (FreeRunning x) k r =
      moved_sound _ (advance_sound l (first_of c) ch.loaded ed (Free x) ch.shown t.small (record { sound = k; free = r }) h.shown)

  -- A TICK KEEPS A CHANNEL SOUND, WHATEVER THE WAVE TABLES
  pub tick_sound : (ed : Edition) (u : List ℕ) → SideSound (tick_of ed s u l c ch)
  unfolding tick_of
  tick_sound ed u =
      let m : MoveSound (move_of ed s l c ch) = move_in ed ch.phase h.phase h.free in
      record {
        channel = signal_sound (move_of ed s l c ch).channel _ m.channel (made_sound u c _ _ _ _ m.gave m.channel.tone m.channel.signal);
        tables = m.tables;
      }

  -- AND SO DOES A TRIGGER
  pub strike_sound : (level : ℕ) → level < 32 → SideSound (triggered s l c ch level)
  unfolding triggered
  strike_sound level g = go (loads_at (countdown s c level)) refl
    where
      go : (b : Bool) → loads_at (countdown s c level) ≡ b
          → SideSound (cond b (load s l c ch level) (side (record { phase = Counting (record { 0 = countdown s c level }) (ramp_of ch.phase); level = level; loaded = ch.loaded; shown = ch.shown; signal = ch.signal }) l))
      go true e = load_sound level g
      go false e =
          let d = eqb-false (countdown s c level) lead e in
          let f = w.small (delay_at c level) in
          record {
            channel =
                record {
                  phase = record { some = omega arith; small = omega arith; alone = λ i. absurd (d (omega arith)); ramp = ramp_sound ch.phase h.phase };
                  level = g;
                  table = h.table;
                  scale = h.scale;
                  offset = h.offset;
                  tone = h.tone;
                  free = h.free;
                  shown = h.shown;
                  signal = h.signal;
                };
            tables = t;
          }
