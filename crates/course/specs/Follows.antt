-- Demand 3 of one channel: what a trigger leads to. 'In sine mode' it 'speaks of the amplitude, kept on overflow', and the output is the
-- sine of that.
use Rattle.std.specs.Prelude.{◌≡◌, Bool, true, false, ◌&&◌, cond, ◌⊎◌, List, ℕ, zero, suc, ◌+◌, ◌*◌, ◌-◌, ◌%◌, ◌≤◌, ◌<◌, leb, length, Option}
use Rattle.map.specs.Addresses.{table_at, enable_at}
use Rattle.sum.specs.declared.Edition.{Edition}
use Rattle.channel.specs.declared.Place.{Place}
use Rattle.channel.specs.declared.Shown.{Shown}
use Rattle.channel.specs.declared.Signal.{Signal}
use Rattle.channel.specs.declared.Channel.{Channel}
use Rattle.channel.specs.declared.Ramp.TheVariants.{Still}
use Rattle.channel.specs.declared.Phase.TheVariants.{Rest, Counting, Running, FreeRunning}
use Rattle.channel.specs.Ramp.{sample_at, put, way, is_sine, free_runs}
use Rattle.channel.specs.Signal.{signal_after, counter_next, sine_after, overflows}
use Rattle.channel.specs.Channel.{Side, word, first_of, tone_for, loaded_for, blank, countdown, triggered}
use Rattle.course.specs.Points.{total, place_of, SameTable}
use Rattle.course.specs.Course.{Act, Tick, act, run, ticks_in, held_on}

-- channel c's ramp for a level under the settings s: its table's first word, T, the place and the sum of sample k, and what they make of the
-- ramp's value
abbrev pub table_for : List ℕ → ℕ → ℕ → ℕ
table_for s c level = table_at c (loaded_for s c level).table

abbrev pub total_for : List ℕ → ℕ → ℕ → ℕ
total_for s c level = total s (table_for s c level)

abbrev pub place_for : List ℕ → ℕ → ℕ → ℕ → Place
place_for s c level k = place_of s (table_for s c level) k

abbrev pub sum_for : Edition → List ℕ → ℕ → ℕ → ℕ → Option ℕ
sum_for edition s c level k = sample_at edition s (table_for s c level) (loaded_for s c level) (place_for s c level k)

abbrev pub sample_for : Edition → List ℕ → ℕ → ℕ → ℕ → Shown → Shown
sample_for edition s c level k = put (sum_for edition s c level k) (place_for s c level k)

-- its mode, and the counter at sample k: 'starts at the phase on sample 0 and grows by the frequency each later sample, going round at 65,536'
abbrev pub sine_for : List ℕ → ℕ → ℕ → Bool
sine_for s c level = is_sine (tone_for s c level).mode

abbrev pub free_for : List ℕ → ℕ → ℕ → Bool
free_for s c level = free_runs (tone_for s c level).mode

abbrev pub counter_for : List ℕ → ℕ → ℕ → ℕ → ℕ
counter_for s c level zero = (tone_for s c level).phase
counter_for s c level (suc k) = counter_next (tone_for s c level) (counter_for s c level k)

-- that is said sample by sample; in one go, for a phase of 16 bits, it is this
unfoldable pub CounterClosed : Type 0
CounterClosed =
    (s : List ℕ) (c level k : ℕ) → (tone_for s c level).phase < 65536
    → counter_for s c level k ≡ ((tone_for s c level).phase + k * (tone_for s c level).frequency) % 65536

-- sample k is given: up to the end's, sample T, and under free run without end
abbrev pub Plays : List ℕ → ℕ → ℕ → ℕ → Type 0
Plays s c level k = (k ≤ total_for s c level) ⊎ (free_for s c level ≡ true)

-- what sample k makes of the signal, a being the amplitude then and w the wave tables: in sine mode the sine at its counter, in plain mode
-- document 01's rule. An amplitude out of range counts in A39; after the end's sample there is none
abbrev pub signal_for : Edition → List ℕ → List ℕ → ℕ → ℕ → ℕ → ℕ → Signal → Signal
signal_for edition w s c level k a g =
    cond (sine_for s c level)
    (sine_after w c (counter_for s c level k) a (leb k (total_for s c level) && overflows (sum_for edition s c level k)) g)
    (signal_after (sum_for edition s c level k) false g.counter g)

-- A trigger of a level sets the countdown d. The settings s are held on tick d − 10, and A00 is a on tick d. Channel c is `now` after
-- t ticks, and `later` just after the next, which has the wave tables w.
pub record Follows (edition : Edition) (c level d : ℕ) (s : List ℕ) (a t : ℕ) (w : List ℕ) (now later : Side) : Type 0 where
  -- from tick d − 10 on the copy is of s: table number, scale factor, offset, and mode, frequency and phase
  pub loaded : d ≤ t + 10 → now.channel.loaded ≡ loaded_for s c level
  -- and the table's 128 words
  pub table : d ≤ t + 10 → SameTable now.tables (first_of c) s (table_for s c level)
  -- tick d − 10, where it comes after the trigger, gives no sample of an older ramp or free run: its output is held, and the amplitude
  pub aborted : t + 11 ≡ d → later.channel.shown ≡ blank now.channel.shown
  pub held : t + 11 ≡ d → later.channel.signal ≡ now.channel.signal
  -- sample k comes on tick d + 10 k: the amplitude and the place
  pub sample : a ≡ 1 → (k : ℕ) → k ≤ total_for s c level → t + 1 ≡ d + 10 * k → later.channel.shown ≡ sample_for edition s c level k now.channel.shown
  -- and none on any other tick after the load
  pub silent : d ≤ t + 10 → (a ≡ 1 → (k : ℕ) → k ≤ total_for s c level → t + 1 ≡ d + 10 * k → ⊥) → later.channel.shown ≡ now.channel.shown
  -- the output, A39 and the counter, likewise, and under free run every 10 ticks after the end's sample too
  pub made : a ≡ 1 → (k : ℕ) → Plays s c level k → t + 1 ≡ d + 10 * k
      → later.channel.signal ≡ signal_for edition w s c level k later.channel.shown.amplitude now.channel.signal
  pub still : d ≤ t + 10 → (a ≡ 1 → (k : ℕ) → Plays s c level k → t + 1 ≡ d + 10 * k → ⊥) → later.channel.signal ≡ now.channel.signal
  -- from tick d − 10 until tick d it counts, and no ramp runs
  pub counts : d ≤ t + 10 → (n : ℕ) → 1 ≤ n → t + n ≡ d → now.channel.phase ≡ Counting (record { 0 = n }) Still
  -- from tick d to tick d + 10 T the ramp runs, a sample every 10 microseconds
  pub runs : a ≡ 1 → (k j : ℕ) → k < total_for s c level → j < 10 → t ≡ d + 10 * k + j → now.channel.phase ≡ Running (way (place_for s c level k) (10 - j) 10)
  -- from tick d + 10 T on it rests, or under free run its sine goes on
  pub rests : a ≡ 1 → free_for s c level ≡ false → d + 10 * total_for s c level ≤ t → now.channel.phase ≡ Rest
  pub frees : a ≡ 1 → free_for s c level ≡ true → (k j : ℕ) → total_for s c level ≤ k → j < 10 → t ≡ d + 10 * k + j
      → now.channel.phase ≡ FreeRunning (way (place_for s c level (total_for s c level)) (10 - j) 10)
  -- not enabled on tick d: nothing starts
  pub off : (a ≡ 1 → ⊥) → d ≤ t → now.channel.phase ≡ Rest

-- Demand 3 of one channel: it holds ch and the loaded tables are l when a trigger of a level comes under the settings s. Then come the acts xs,
-- no trigger among them, and then a tick under the settings z with the wave tables w. The tables have room for the channel's 128 words.
unfoldable pub TriggerFollowed : Type 0
TriggerFollowed =
    (edition : Edition) (s l : List ℕ) (c : ℕ) (ch : Channel) (level : ℕ) → 128 * c + 128 ≤ length l
    → (xs : List Act) (z w : List ℕ)
    → let d : ℕ = countdown s c level in
    let now : Side = run edition c (triggered s l c ch level) xs in
    Follows edition c level d (held_on s z (d - 10) xs) (word (held_on s z d xs) (enable_at c)) (ticks_in xs) w now (act edition c now (Tick z w))
