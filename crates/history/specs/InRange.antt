-- Document 02, Five: 'Of a passed bench we want it shown that no ramp loaded under those settings ever has a sum out of range. In sine mode
-- this speaks of the amplitude.'
use Rattle.std.specs.Prelude.{◌≡◌, Bool, true, false, ◌||◌, ◌⊎◌, List, [], ◌∷◌, ℕ, ◌+◌, ◌<◌, None, Ok}
use Rattle.wave.specs.Sine.{sine_of}
use Rattle.word.specs.Word.{grown}
use Rattle.map.specs.Map.{base}
use Rattle.channel.specs.Ramp.{is_sine}
use Rattle.channel.specs.Signal.{overflows}
use Rattle.card.specs.Card.{State, channel_of}
use Rattle.profile.specs.Profile.{verdict_of}
use Rattle.history.specs.History.{Act, Tick, act, acts, read_back, Words16}
use Rattle.history.specs.Sound.{Sound}
use Rattle.history.specs.Story.{Happening, Load, Sample, FreeSample, Output, Clear, Fresh, in_tick, happens, story}
use Rattle.history.specs.Active.{load_among}

-- a ramp's sum out of range before the next load, in what happens on a channel; a product of the sine is no ramp sum
abbrev pub out_before_load : List Happening → Bool
out_before_load [] = false
out_before_load (Load ld ∷ hs) = false
out_before_load (Sample w f p u ∷ hs) = overflows u || out_before_load hs
out_before_load (FreeSample w ∷ hs) = out_before_load hs
out_before_load (Output v ∷ hs) = out_before_load hs
out_before_load (Clear ∷ hs) = out_before_load hs
out_before_load (Fresh ∷ hs) = out_before_load hs

-- a sample among what happens, a ramp's or a free run's
abbrev pub sample_among : List Happening → Bool
sample_among [] = false
sample_among (Load ld ∷ hs) = sample_among hs
sample_among (Sample w f p u ∷ hs) = true
sample_among (FreeSample w ∷ hs) = true
sample_among (Output v ∷ hs) = sample_among hs
sample_among (Clear ∷ hs) = sample_among hs
sample_among (Fresh ∷ hs) = sample_among hs

-- in a reachable state the act x loads channel c, and the settings held then pass with the card's own edition. A ramp loaded before, under
-- others, is not spoken of
pub record PassedLoad (c : ℕ) (st : State) (x : Act) : Type 0 where
  pub sound : Sound st
  pub words : Words16 (x ∷ [])
  pub inside : c < 4
  pub loads : load_among (happens c st x) ≡ true
  pub passed : verdict_of st.card.edition st.settings ≡ Ok tt

-- over a tick from y to z, with the wave tables w, a sample is given whose sine's product is out of range, and A39 counts it. After any
-- history that product is −32768 × −16384 (`only_product`)
pub record ProductCounted (c : ℕ) (w : List ℕ) (y z : State) : Type 0 where
  pub given : sample_among (in_tick w y c) ≡ true
  pub sine : is_sine (channel_of y.card c).loaded.tone.mode ≡ true
  pub product : sine_of w c (channel_of z.card c).signal.counter (channel_of z.card c).shown.amplitude ≡ None
  pub grows : read_back z (base c + 0xA39) ≡ grown (read_back y (base c + 0xA39))

-- no ramp sum is counted: A39 stays, but for such a product
abbrev pub NoSumCounted : ℕ → List ℕ → State → State → Type 0
NoSumCounted c w y z = (read_back z (base c + 0xA39) ≡ read_back y (base c + 0xA39)) ⊎ ProductCounted c w y z

pub record NeverOut : Type 0 where
  -- whatever acts ys come after such a load, writes, triggers, resets and fresh cards of either edition among them: until the next load no
  -- sum is out of range, in sine mode no amplitude's
  pub sums : (c : ℕ) (st : State) (x : Act) → PassedLoad c st x → (ys : List Act) → Words16 ys → out_before_load (story c (act st x) ys) ≡ false
  -- so A39 does not grow by a ramp sum, over any tick that comes before the next load or with it
  pub count : (c : ℕ) (st : State) (x : Act) → PassedLoad c st x → (ys : List Act) → Words16 ys → load_among (story c (act st x) ys) ≡ false
      → (waves : List ℕ) (event : ℕ) → let y : State = acts (act st x) ys in NoSumCounted c waves y (act y (Tick waves event))
