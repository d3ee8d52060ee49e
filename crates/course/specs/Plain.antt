-- 'With A01 0' a tick is document 01's to the letter. Document 01's tick is `move_of`, with the output where the amplitude is (`as_output`): the
-- ramp's value is its output, the last sum in range.
use Rattle.std.specs.Prelude.{◌≡◌, Bool, true, false, cond, List, ℕ}
use Rattle.word.specs.Word.{grown}
use Rattle.sum.specs.declared.Edition.{Edition}
use Rattle.channel.specs.declared.Gave.{Gave}
use Rattle.channel.specs.declared.Gave.TheVariants.{NoSample, OfRamp, OfFreeRun}
use Rattle.channel.specs.declared.Ramp.{Ramp}
use Rattle.channel.specs.declared.Ramp.TheVariants.{Still, Going, Free}
use Rattle.channel.specs.declared.Channel.{Channel}
use Rattle.channel.specs.Ramp.{is_sine}
use Rattle.channel.specs.Signal.{overflows}
use Rattle.channel.specs.Channel.{Move, ramp_of, move_of, tick_of}

-- a channel whose ramp's value is its output, as document 01 has it
abbrev pub as_output : Channel → Channel
as_output ch =
    record {
      phase = ch.phase;
      level = ch.level;
      loaded = ch.loaded;
      shown = record { amplitude = ch.signal.output; place = ch.shown.place };
      signal = ch.signal;
    }

-- 'A39 grows by 1' with a sample whose sum is out of range
abbrev pub counted_by : Gave → ℕ → ℕ
counted_by NoSample n = n
counted_by (OfRamp isFirst x) n = cond (overflows x) (grown n) n
counted_by OfFreeRun n = n

abbrev pub is_free : Ramp → Bool
is_free Still = false
is_free (Going w) = false
is_free (Free w) = true

-- the tick x of document 01's channel is that of channel c
pub record PlainTick (edition : Edition) (s w l : List ℕ) (c : ℕ) (ch : Channel) (x : Move) : Type 0 where
  pub output : (tick_of edition s w l c ch).channel.signal.output ≡ x.channel.shown.amplitude
  pub overflow : (tick_of edition s w l c ch).channel.signal.overflow ≡ counted_by x.gave ch.signal.overflow
  pub place : (tick_of edition s w l c ch).channel.shown.place ≡ x.channel.shown.place
  pub phase : (tick_of edition s w l c ch).channel.phase ≡ x.channel.phase
  pub level : (tick_of edition s w l c ch).channel.level ≡ x.channel.level
  pub loaded : (tick_of edition s w l c ch).channel.loaded ≡ x.channel.loaded
  pub tables : (tick_of edition s w l c ch).tables ≡ x.tables
  -- the wave tables do not matter
  pub waves : (v : List ℕ) → tick_of edition s v l c ch ≡ tick_of edition s w l c ch

-- of every channel whose ramp was loaded with A01 0 or 4 and is not in free run
unfoldable pub PlainTicks : Type 0
PlainTicks =
    (edition : Edition) (s w l : List ℕ) (c : ℕ) (ch : Channel) → is_sine ch.loaded.tone.mode ≡ false → is_free (ramp_of ch.phase) ≡ false
    → PlainTick edition s w l c ch (move_of edition s l c (as_output ch))
