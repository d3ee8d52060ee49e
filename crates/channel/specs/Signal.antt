-- Document 02, Two: what a sample makes of the output, of A39 and of the counter. In plain mode this is document 01's rule.
use Rattle.std.specs.Prelude.{ℕ, ◌+◌, ◌%◌, Bool, true, false, cond, List, Option, Some, None}
use Rattle.word.specs.Word.{grown}
use Rattle.wave.specs.Sine.{sine_of}
use Rattle.channel.specs.declared.Tone.{Tone}
use Rattle.channel.specs.declared.Signal.{Signal}
use Rattle.channel.specs.declared.Gave.{Gave}
use Rattle.channel.specs.declared.Gave.TheVariants.{NoSample, OfRamp, OfFreeRun}
use Rattle.channel.specs.Ramp.{is_sine}

-- 'outside −32768..32767 the output stays and A39 grows by 1'; `over`: the sample's amplitude was out of range, which counts too, but
-- 'at most 1 a sample'
abbrev pub signal_after : Option ℕ → Bool → ℕ → Signal → Signal
signal_after (Some v) over n g = record { output = v; overflow = cond over (grown g.overflow) g.overflow; counter = n }
signal_after None over n g = record { output = g.output; overflow = grown g.overflow; counter = n }

-- 'a 16-bit counter starts at the phase on sample 0 and grows by the frequency each later sample, going round at 65,536'
abbrev pub counter_next : Tone → ℕ → ℕ
counter_next t n = (n + t.frequency) % 65536

abbrev pub counter_at : Bool → Tone → ℕ → ℕ
counter_at isFirst t n = cond isFirst t.phase (counter_next t n)

-- sine mode: the output is the sine of the amplitude a at the counter n
abbrev pub sine_after : List ℕ → ℕ → ℕ → ℕ → Bool → Signal → Signal
sine_after w c n a over g = signal_after (sine_of w c n a) over n g

abbrev pub overflows : Option ℕ → Bool
overflows (Some v) = false
overflows None = true

-- the signal of channel c, once its ramp has moved to the amplitude a and given this sample
unfoldable pub make_of : List ℕ → ℕ → Gave → Tone → ℕ → Signal → Signal
make_of w c NoSample t a g = g
make_of w c (OfRamp isFirst x) t a g =
    cond (is_sine t.mode) (sine_after w c (counter_at isFirst t g.counter) a (overflows x) g) (signal_after x false g.counter g)
make_of w c OfFreeRun t a g = sine_after w c (counter_next t g.counter) a false g
