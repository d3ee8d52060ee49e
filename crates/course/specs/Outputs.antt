-- The amplitudes and outputs of a ramp, each from what was loaded and what stood there just before the start.
use Rattle.std.specs.Prelude.{◌≡◌, true, cond, ◌⊎◌, List, ℕ, zero, suc, ◌+◌, ◌*◌, ◌-◌, ◌≤◌, ◌<◌, min, length, Option}
use Rattle.map.specs.Addresses.{enable_at}
use Rattle.sum.specs.declared.Edition.{Edition}
use Rattle.wave.specs.Sine.{sine_of}
use Rattle.channel.specs.declared.Channel.{Channel}
use Rattle.channel.specs.Ramp.{hold}
use Rattle.channel.specs.Channel.{Side, word, countdown, triggered}
use Rattle.course.specs.Course.{Act, Tick, act, run, ticks_in, until, held_on, waves_on}
use Rattle.course.specs.Follows.{total_for, sum_for, sine_for, free_for, counter_for, Plays}

-- 'the rounded sum .. or, where that overflows, the output held just before': after sum k, o being what stood there before sum 0
abbrev pub latest : (ℕ → Option ℕ) → ℕ → ℕ → ℕ
latest sums o zero = hold (sums 0) o
latest sums o (suc k) = hold (sums (suc k)) (latest sums o k)

-- the amplitude at sample k, a being the one before the start; in free run it is that of the end's sample
abbrev pub amplitude_for : Edition → List ℕ → ℕ → ℕ → ℕ → ℕ → ℕ
amplitude_for edition s c level a k = latest (sum_for edition s c level) a (min k (total_for s c level))

-- the sum that sample k gives the output, w being its wave tables: in sine mode the sine of the amplitude at its counter
abbrev pub output_for : Edition → (ℕ → List ℕ) → List ℕ → ℕ → ℕ → ℕ → ℕ → Option ℕ
output_for edition w s c level a k = cond (sine_for s c level) (sine_of (w k) c (counter_for s c level k) (amplitude_for edition s c level a k)) (sum_for edition s c level k)

-- after sample k another is to come
abbrev pub MoreToCome : List ℕ → ℕ → ℕ → ℕ → Type 0
MoreToCome s c level k = (k < total_for s c level) ⊎ (free_for s c level ≡ true)

-- A trigger of a level sets the countdown d, the settings s are held on tick d − 10, w k are the wave tables of sample k, and a and o are
-- amplitude and output just before tick d. Channel c is `now` after t ticks, and `later` just after the next.
pub record Outputs (edition : Edition) (c level d : ℕ) (s : List ℕ) (w : ℕ → List ℕ) (a o t : ℕ) (now later : Side) : Type 0 where
  -- from sample k until the next
  pub amplitude : (k j : ℕ) → MoreToCome s c level k → j < 10 → t ≡ d + 10 * k + j → now.channel.shown.amplitude ≡ amplitude_for edition s c level a k
  pub output : (k j : ℕ) → MoreToCome s c level k → j < 10 → t ≡ d + 10 * k + j → now.channel.signal.output ≡ latest (output_for edition w s c level a) o k
  -- just after each sample, the last one too
  pub just_amplitude : (k : ℕ) → Plays s c level k → t + 1 ≡ d + 10 * k → later.channel.shown.amplitude ≡ amplitude_for edition s c level a k
  pub just_output : (k : ℕ) → Plays s c level k → t + 1 ≡ d + 10 * k → later.channel.signal.output ≡ latest (output_for edition w s c level a) o k

-- the trigger and the acts are those of demand 3, and the waveform is enabled on tick d
unfoldable pub OutputsFollow : Type 0
OutputsFollow =
    (edition : Edition) (s l : List ℕ) (c : ℕ) (ch : Channel) (level : ℕ) → 128 * c + 128 ≤ length l
    → (xs : List Act) (z w : List ℕ)
    → let d : ℕ = countdown s c level in
    let x : Side = triggered s l c ch level in
    let before : Channel = (run edition c x (until d xs)).channel in
    word (held_on s z d xs) (enable_at c) ≡ 1
    → Outputs edition c level d (held_on s z (d - 10) xs) (λ k. waves_on w (d + 10 * k) xs) before.shown.amplitude before.signal.output (ticks_in xs) (run edition c x xs)
    (act edition c (run edition c x xs) (Tick z w))
