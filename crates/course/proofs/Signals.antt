-- What a sample makes of the signal is what demand 3 says of it, as long as the counter is the one of the sample before; and then it is
-- that of this sample. The counter in one go (`counter_closed`) is by induction over the samples. Assumes nothing.
use Rattle.std.specs.Prelude.{Option, Some, None}
use mathlib.Core.Path.{◌≡◌, refl}
use mathlib.Core.Bool.{Bool, true, false, ◌&&◌, cond}
use mathlib.Core.List.{List}
use Prim.Native.Nat.{ℕ, zero, suc, ◌+◌, ◌*◌, ◌%◌, ◌≤◌, ◌<◌}
use native.Mathlib.Omega.{arith}
use native.Mathlib.Nat.{suc-mul}
use native.Mathlib.Numerals.{add-one}
use lib.Dec.{leb}
use borrow.Author.Tests.{lt-leb}
use Rattle.std.proofs.lemmas.Bool.{and_parts}
use Rattle.sum.specs.declared.Edition.{Edition}
use Rattle.wave.specs.Sine.{sine_of}
use Rattle.channel.specs.declared.Gave.TheVariants.{OfRamp, OfFreeRun}
use Rattle.channel.specs.declared.Signal.{Signal}
use Rattle.channel.specs.Ramp.{hold}
use Rattle.channel.specs.Signal.{signal_after, counter_at, overflows, make_of}
use Rattle.channel.specs.Channel.{tone_for}
use Rattle.course.specs.Follows.{total_for, sum_for, sine_for, free_for, counter_for, signal_for, CounterClosed}

-- ---- one sum

after_counter : (y : Option ℕ) (over : Bool) (n : ℕ) (g : Signal) → (signal_after y over n g).counter ≡ n
after_counter (Some v) over n g = refl
after_counter None over n g = refl

pub after_output : (y : Option ℕ) (over : Bool) (n : ℕ) (g : Signal) → (signal_after y over n g).output ≡ hold y g.output
after_output (Some v) over n g = refl
after_output None over n g = refl

-- ---- channel c's ramp for the level v under the settings w, with the wave tables u

module _ (ed : Edition) (c v : ℕ) (w : List ℕ) where
  -- free run is one of sine mode
  pub free_sine : free_for w c v ≡ true → sine_for w c v ≡ true
  free_sine e = (and_parts (sine_for w c v) _ e).0

  -- the sum that sample k gives the output, with the wave tables u and the amplitude a
  abbrev sound_for : List ℕ → ℕ → ℕ → Option ℕ
  sound_for u k a = cond (sine_for w c v) (sine_of u c (counter_for w c v k) a) (sum_for ed w c v k)

  pub same_sound : (k : ℕ) (i j : List ℕ) (m n : ℕ) → i ≡ j → m ≡ n → sound_for i k m ≡ sound_for j k n
  same_sound k i j m n e f = rw (e, f)

  -- the counter is that of sample k
  abbrev pub Counted : ℕ → Signal → Type 0
  Counted k g = sine_for w c v ≡ true → g.counter ≡ counter_for w c v k

  module _ (u : List ℕ) (a : ℕ) (g : Signal) where
    pub signal_counted : (k : ℕ) → Counted k (signal_for ed u w c v k a g)
    signal_counted k e =
        rw e (after_counter (sine_of u c (counter_for w c v k) a) (leb k (total_for w c v) && overflows (sum_for ed w c v k)) (counter_for w c v k) g)

    pub signal_output : (k : ℕ) → (signal_for ed u w c v k a g).output ≡ hold (sound_for u k a) g.output
    signal_output k = grind arith

    -- a sample of the ramp
    ramp_made : (first : Bool) (k : ℕ) → k ≤ total_for w c v → (sine_for w c v ≡ true → counter_at first (tone_for w c v) g.counter ≡ counter_for w c v k)
        → make_of u c (OfRamp first (sum_for ed w c v k)) (tone_for w c v) a g ≡ signal_for ed u w c v k a g
    unfolding make_of
    ramp_made first k h n = grind arith

    pub first_made : make_of u c (OfRamp true (sum_for ed w c v 0)) (tone_for w c v) a g ≡ signal_for ed u w c v 0 a g
    first_made = ramp_made true 0 (omega arith) (λ e. refl)

    pub next_made : (k : ℕ) → k < total_for w c v → Counted k g
        → make_of u c (OfRamp false (sum_for ed w c v (k + 1))) (tone_for w c v) a g ≡ signal_for ed u w c v (k + 1) a g
    next_made k h n = ramp_made false (k + 1) (omega arith) (λ e. rw (add-one k, n e))

    -- a sample of the free run
    pub free_made : (k : ℕ) → total_for w c v ≤ k → free_for w c v ≡ true → Counted k g
        → make_of u c OfFreeRun (tone_for w c v) a g ≡ signal_for ed u w c v (k + 1) a g
    unfolding make_of
    free_made k h e n = rw (free_sine e, n (free_sine e), lt-leb (k + 1) (total_for w c v) (omega arith), add-one k)

-- ---- the counter in one go

turned : (p m f : ℕ) → ((p + m) % 65536 + f) % 65536 ≡ (p + (m + f)) % 65536
turned p m f = omega arith

pub counter_closed : CounterClosed
unfolding CounterClosed
counter_closed s c level zero h = omega arith
counter_closed s c level (suc k) h =
    let p = (tone_for s c level).phase in
    let f = (tone_for s c level).frequency in
    cc (counter_closed s c level k h, turned p (k * f) f, suc-mul k f)
