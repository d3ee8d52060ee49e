-- What histories make of the sine: document 02, Two.
use Rattle.std.specs.Prelude.{◌≡◌, false, List, ℕ, ◌+◌, ◌*◌, ◌%◌, ◌<◌, ℤ, pos, neg_ℤ, length, None}
use Rattle.word.specs.Word.{signed_of}
use Rattle.sum.specs.declared.Edition.{Edition}
use Rattle.wave.specs.Sine.{wave_word, sine_of}
use Rattle.channel.specs.declared.Channel.{Channel}
use Rattle.channel.specs.Ramp.{is_sine}
use Rattle.channel.specs.Channel.{tone_for, move_of}
use Rattle.course.specs.Follows.{counter_for}
use Rattle.course.specs.Plain.{as_output, PlainTick}
use Rattle.card.specs.Card.{State, channel_of}
use Rattle.card.specs.Reset.{waves_reset, fresh_of}
use Rattle.history.specs.History.{Act}
use Rattle.history.specs.Sound.{Words, Sound}
use Rattle.history.specs.Waves.{waves_in}

-- the product of this amplitude and this word is −32768 × −16384
abbrev pub Lowest : ℕ → ℤ → Type 0
Lowest amplitude x = (signed_of amplitude ≡ neg_ℤ (pos 32768)) × (x ≡ neg_ℤ (pos 16384))

pub record SinesOverHistories : Type 0 where
  -- a channel whose ramp was loaded without A01's bit 0 ticks as document 01 says; no such ramp runs free
  pub plain : (w : List ℕ) (st : State) → Sound st → (c : ℕ) → c < 4
      → let ch : Channel = channel_of st.card c in
      is_sine ch.loaded.tone.mode ≡ false → PlainTick st.card.edition st.settings w st.tables c ch (move_of st.card.edition st.settings st.tables c (as_output ch))
  -- 'starts at the phase on sample 0 and grows by the frequency each later sample, going round at 65,536': at sample k, in one go
  pub counter : (s : List ℕ) → Words s → (c level k : ℕ)
      → counter_for s c level k ≡ ((tone_for s c level).phase + k * (tone_for s c level).frequency) % 65536
  -- 'amplitude −32768 times word −16384 doesn't fit', and after any history of a fresh card no other product is out of range
  pub only_product : (edition : Edition) (s l w : List ℕ) → length w ≡ 4096 → (xs : List Act) (c : ℕ) → c < 4 → (counter amplitude : ℕ) → amplitude < 65536
      → let waves : List ℕ = waves_in (fresh_of edition s l) (waves_reset w) xs in
      sine_of waves c counter amplitude ≡ None → Lowest amplitude (wave_word waves c counter)
