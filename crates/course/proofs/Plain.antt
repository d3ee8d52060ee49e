-- A tick with A01 0 is document 01's (`plain_ticks`): whatever the phase, the ramp moves as that of a channel whose amplitude is the output,
-- and the signal takes the sample as the amplitude does, with no word of the wave tables. Assumes nothing.
use Rattle.std.specs.Prelude.{Option, Some, None}
use mathlib.Core.Path.{◌≡◌, refl, ap}
use mathlib.Core.Bool.{Bool, true, false, cond}
use mathlib.Core.List.{List}
use Prim.Native.Nat.{ℕ, ◌-◌}
use lib.Dec.{ltb, eqb}
use Rattle.map.specs.Addresses.{enable_at}
use Rattle.sum.specs.declared.Edition.{Edition}
use Rattle.channel.specs.declared.Gave.{Gave}
use Rattle.channel.specs.declared.Gave.TheVariants.{NoSample, OfRamp, OfFreeRun}
use Rattle.channel.specs.declared.Ramp.{Ramp}
use Rattle.channel.specs.declared.Ramp.TheVariants.{Still, Going, Free}
use Rattle.channel.specs.declared.Phase.{Phase}
use Rattle.channel.specs.declared.Phase.TheVariants.{Rest, Counting, Running, FreeRunning}
use Rattle.channel.specs.declared.Place.{Place}
use Rattle.channel.specs.declared.Tone.{Tone}
use Rattle.channel.specs.declared.Signal.{Signal}
use Rattle.channel.specs.declared.Moved.{Moved}
use Rattle.channel.specs.declared.Channel.{Channel}
use Rattle.channel.specs.Ramp.{hold, enter, next, given, sooner, unsampled, advance, is_sine}
use Rattle.channel.specs.Signal.{signal_after, make_of}
use Rattle.channel.specs.Channel.{Move, move, quiet, side, word, first_of, with, phase_of, ramp_of, loads_at, load, start, count_to, move_at, move_of, tick_of}
use Rattle.course.specs.Plain.{as_output, counted_by, is_free, PlainTick, PlainTicks}
use Rattle.course.proofs.Signals.{after_output}

-- what is so of both sides of a test, told twice
choose_both : {A : Type 0} (P : A → A → Type 0) (b : Bool) (x y x' y' : A) → P x x' → P y y' → P (cond b x y) (cond b x' y')
choose_both P true x y x' y' p q = p
choose_both P false x y x' y' p q = q

-- ---- the signal of a sample

-- the word that a sample moves or holds
abbrev held_by : Gave → ℕ → ℕ
held_by (OfRamp isFirst x) o = hold x o
held_by _ o = o

-- a sample that makes a sine
abbrev sings : Gave → Tone → Bool
sings NoSample t = false
sings (OfRamp isFirst x) t = is_sine t.mode
sings OfFreeRun t = true

after_overflow : (x : Option ℕ) (isFirst : Bool) (n : ℕ) (g : Signal) → (signal_after x false n g).overflow ≡ counted_by (OfRamp isFirst x) g.overflow
after_overflow (Some v) isFirst n g = refl
after_overflow None isFirst n g = refl

module _ (w : List ℕ) (c : ℕ) (t : Tone) (a : ℕ) (g : Signal) where
  made_output : (y : Gave) → sings y t ≡ false → (make_of w c y t a g).output ≡ held_by y g.output
  unfolding make_of
  made_output NoSample e = refl
  made_output (OfRamp isFirst x) e = rw e (after_output x false g.counter g)
  made_output OfFreeRun e = absurd cc

  made_overflow : (y : Gave) → sings y t ≡ false → (make_of w c y t a g).overflow ≡ counted_by y g.overflow
  unfolding make_of
  made_overflow NoSample e = refl
  made_overflow (OfRamp isFirst x) e = rw e (after_overflow x isFirst g.counter g)
  made_overflow OfFreeRun e = absurd cc

  made_waves : (v : List ℕ) (y : Gave) → sings y t ≡ false → make_of v c y t a g ≡ make_of w c y t a g
  unfolding make_of
  made_waves v NoSample e = refl
  made_waves v (OfRamp isFirst x) e = rw e
  made_waves v OfFreeRun e = absurd cc

-- ---- the ramp of channel c, in plain mode

module _ (ed : Edition) (s l : List ℕ) (c : ℕ) (ch : Channel) (plain : is_sine ch.loaded.tone.mode ≡ false) where
  -- the ramp moves, and that of document 01's channel
  record AlikeRamp (y y' : Moved) : Type 0 where
    pub ramp : y.ramp ≡ y'.ramp
    pub place : y.shown.place ≡ y'.shown.place
    pub gave : y.gave ≡ y'.gave
    pub holds : held_by y.gave ch.signal.output ≡ y'.shown.amplitude
    pub silent : sings y.gave ch.loaded.tone ≡ false

  -- so does the channel
  record Alike (x x' : Move) : Type 0 where
    pub phase : x.channel.phase ≡ x'.channel.phase
    pub level : x.channel.level ≡ x'.channel.level
    pub loaded : x.channel.loaded ≡ x'.channel.loaded
    pub place : x.channel.shown.place ≡ x'.channel.shown.place
    pub tables : x.tables ≡ x'.tables
    pub gave : x.gave ≡ x'.gave
    pub signal : x.channel.signal ≡ ch.signal
    pub holds : held_by x.gave ch.signal.output ≡ x'.channel.shown.amplitude
    pub silent : sings x.gave x.channel.loaded.tone ≡ false

  alike_moved : (to : Ramp → Phase) (y y' : Moved) → AlikeRamp y y'
      → Alike (move (with ch (to y.ramp) y.shown) l y.gave) (move (with (as_output ch) (to y'.ramp) y'.shown) l y'.gave)
  alike_moved to y y' h =
      record {
        phase = ap to h.ramp;
        level = refl;
        loaded = refl;
        place = h.place;
        tables = refl;
        gave = h.gave;
        signal = refl;
        holds = h.holds;
        silent = h.silent;
      }

  -- with no sample
  alike_quiet : (p : Phase) → Alike (quiet (side (with ch p ch.shown) l)) (quiet (side (with (as_output ch) p (as_output ch).shown) l))
  alike_quiet p =
      record { phase = refl; level = refl; loaded = refl; place = refl; tables = refl; gave = refl; signal = refl; holds = refl; silent = refl }

  alike_given : (isFirst : Bool) (period : ℕ) (p : Place)
      → AlikeRamp (given ed isFirst l (first_of c) ch.loaded period p ch.shown) (given ed isFirst l (first_of c) ch.loaded period p (as_output ch).shown)
  unfolding given
  alike_given isFirst period p = record { ramp = refl; place = refl; gave = refl; holds = refl; silent = plain }

  alike_unsampled : (r : Ramp) → AlikeRamp (unsampled r ch.shown) (unsampled r (as_output ch).shown)
  alike_unsampled r = record { ramp = refl; place = refl; gave = refl; holds = refl; silent = refl }

  alike_advance : (r : Ramp) → is_free r ≡ false
      → AlikeRamp (advance ed l (first_of c) ch.loaded r ch.shown) (advance ed l (first_of c) ch.loaded r (as_output ch).shown)
  unfolding advance
  alike_advance Still e = alike_unsampled Still
  alike_advance (Going r) e =
      choose_both AlikeRamp (ltb 1 r.wait.0) _ _ _ _ (alike_unsampled (Going (sooner r)))
      (alike_given false r.period.0 (next l (first_of c) r.place))
  alike_advance (Free r) e = absurd cc

  alike_start : Alike (start ed s l c ch) (start ed s l c (as_output ch))
  unfolding start
  alike_start =
      choose_both Alike (eqb (word s (enable_at c)) 1) _ _ _ _ (alike_moved phase_of _ _ (alike_given true 10 (enter l (first_of c) 0))) (alike_quiet Rest)

  alike_load : Alike (quiet (load s l c ch ch.level)) (quiet (load s l c (as_output ch) ch.level))
  unfolding load
  alike_load =
      record { phase = refl; level = refl; loaded = refl; place = refl; tables = refl; gave = refl; signal = refl; holds = refl; silent = refl }

  alike_count : (m : ℕ) (older : Ramp) → is_free older ≡ false → Alike (count_to ed m older s l c ch) (count_to ed m older s l c (as_output ch))
  unfolding count_to
  alike_count m older e =
      choose_both Alike (eqb m 0) _ _ _ _ alike_start
      (choose_both Alike (loads_at m) _ _ _ _ alike_load (alike_moved (λ r. Counting (record { 0 = m }) r) _ _ (alike_advance older e)))

  alike_move : (f : Phase) → is_free (ramp_of f) ≡ false → Alike (move_at ed f s l c ch) (move_at ed f s l c (as_output ch))
  unfolding move_at
  alike_move Rest e = alike_quiet ch.phase
  alike_move (Counting n older) e = alike_count (n.0 - 1) older e
  alike_move (Running w) e = alike_moved phase_of _ _ (alike_advance (Going w) e)
  alike_move (FreeRunning w) e = absurd cc

  plain_tick : (w : List ℕ) → is_free (ramp_of ch.phase) ≡ false → PlainTick ed s w l c ch (move_of ed s l c (as_output ch))
  unfolding tick_of
  plain_tick w e =
      let h : Alike (move_of ed s l c ch) (move_of ed s l c (as_output ch)) = alike_move ch.phase e in
      let x : Move = move_of ed s l c ch in
      let t : Tone = x.channel.loaded.tone in
      let a : ℕ = x.channel.shown.amplitude in
      record {
        output = cc (made_output w c t a x.channel.signal x.gave h.silent);
        overflow =
            cc (made_overflow w c t a x.channel.signal x.gave h.silent);
        place = h.place;
        phase = h.phase;
        level = h.level;
        loaded = h.loaded;
        tables = h.tables;
        waves = λ v. cc (made_waves w c t a x.channel.signal v x.gave h.silent);
      }

-- With A01 0 a tick is document 01's
pub plain_ticks : PlainTicks
unfolding PlainTicks
plain_ticks ed s w l c ch plain e = plain_tick ed s l c ch plain w e
