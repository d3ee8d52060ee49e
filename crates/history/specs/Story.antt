-- What a channel's words show after any history: its last load, its last sample, its amplitude and counter, its output, and how many samples
-- overflowed since the last clearing.
use Rattle.std.specs.Prelude.{◌≡◌, Bool, true, false, ◌||◌, cond, List, [], ◌∷◌, ◌++◌, ℕ, ◌+◌, ◌-◌, ◌%◌, ◌<◌, ltb, eqb, length, Option, Some, None}
use Rattle.sum.specs.declared.Edition.{Edition}
use Rattle.wave.specs.Sine.{sine_of}
use Rattle.map.specs.Map.{base}
use Rattle.map.specs.Addresses.{enable_at}
use Rattle.channel.specs.declared.Place.{Place}
use Rattle.channel.specs.declared.Loaded.{Loaded}
use Rattle.channel.specs.declared.Ramp.{Ramp}
use Rattle.channel.specs.declared.Ramp.TheVariants.{Still, Going, Free}
use Rattle.channel.specs.declared.Phase.{Phase}
use Rattle.channel.specs.declared.Phase.TheVariants.{Rest, Counting, Running, FreeRunning}
use Rattle.channel.specs.declared.Channel.{Channel}
use Rattle.channel.specs.Ramp.{place, enter, next, sample_at, hold, is_sine}
use Rattle.channel.specs.Signal.{counter_next, counter_at, overflows}
use Rattle.channel.specs.Channel.{word, first_of, loads_at, loaded_for, countdown, no_tone}
use Rattle.card.specs.Card.{State, channel_of}
use Rattle.card.specs.Reset.{fresh_of}
use Rattle.history.specs.History.{Act, Tick, Write, Ask, HandIn, Renew, act, acts, read_back, words_done, trigger_by, Words16}

-- ---- what can happen on a channel

pub data Happening : Type 0 where
  -- table number, scale factor, offset, mode, frequency and phase are loaded
  Load : Loaded → Happening
  -- a ramp's sample is given: the wave tables then, whether it is sample 0, its place, and its sum
  Sample : List ℕ → Bool → Place → Option ℕ → Happening
  -- a free run's sample is given, with the wave tables then
  FreeSample : List ℕ → Happening
  -- a word is done at A04, or at A39
  Output : ℕ → Happening
  Clear : Happening
  -- a reset, or a fresh card in its place
  Fresh : Happening

-- ---- a tick with the wave tables w: what happens on channel c of a card of an edition, which holds ch, under the settings s and the loaded
-- tables l

abbrev pub sample : Edition → List ℕ → Bool → List ℕ → ℕ → Channel → Place → List Happening
sample edition w isFirst l c ch p = Sample w isFirst p (sample_at edition l (first_of c) ch.loaded p) ∷ []

-- 'every 10 ticks': a ramp, and a free run, gives its next sample when its wait is over
abbrev pub by_ramp : Edition → List ℕ → List ℕ → ℕ → Channel → Ramp → List Happening
by_ramp edition w l c ch Still = []
by_ramp edition w l c ch (Going r) = cond (ltb 1 r.wait.0) [] (sample edition w false l c ch (next l (first_of c) r.place))
by_ramp edition w l c ch (Free r) = cond (ltb 1 r.wait.0) [] (FreeSample w ∷ [])

-- 'at countdown 0 the ramp starts if A00 is 1'
abbrev pub by_start : Edition → List ℕ → List ℕ → List ℕ → ℕ → Channel → List Happening
by_start edition w s l c ch = cond (eqb (word s (enable_at c)) 1) (sample edition w true l c ch (enter l (first_of c) 0)) []

-- 'a load reached by counting comes before that tick's sample, so the old ramp gives none then'
abbrev pub in_phase : Edition → Phase → List ℕ → List ℕ → List ℕ → ℕ → Channel → List Happening
in_phase edition Rest w s l c ch = []
in_phase edition (Counting n older) w s l c ch =
    cond (eqb (n.0 - 1) 0) (by_start edition w s l c ch) (cond (loads_at (n.0 - 1)) (Load (loaded_for s c ch.level) ∷ []) (by_ramp edition w l c ch older))
in_phase edition (Running r) w s l c ch = by_ramp edition w l c ch (Going r)
in_phase edition (FreeRunning r) w s l c ch = by_ramp edition w l c ch (Free r)

abbrev pub by_tick : Edition → List ℕ → List ℕ → List ℕ → ℕ → Channel → List Happening
by_tick edition w s l c ch = in_phase edition ch.phase w s l c ch

-- ---- an act

-- a countdown that is set at 10 loads at once
abbrev pub by_trigger : Option ℕ → List ℕ → ℕ → List Happening
by_trigger (Some level) s c = cond (loads_at (countdown s c level)) (Load (loaded_for s c level) ∷ []) []
by_trigger None s c = []

-- a word done at address a, and words done from there on
abbrev pub by_word : ℕ → ℕ → ℕ → List Happening
by_word c a v = cond (eqb a (base c + 0xA04)) (Output v ∷ []) (cond (eqb a (base c + 0xA39)) (Clear ∷ []) [])

abbrev pub by_words : ℕ → ℕ → List ℕ → List Happening
by_words c a [] = []
by_words c a (v ∷ vs) = by_word c a v ++ by_words c (a + 1) vs

-- as a tick advances the channel, and at an act's trigger
abbrev pub in_tick : List ℕ → State → ℕ → List Happening
in_tick w st c = by_tick st.card.edition w st.settings st.tables c (channel_of st.card c)

abbrev pub at_trigger : State → Act → ℕ → List Happening
at_trigger st x c = by_trigger (trigger_by st x) st.settings c

-- 'a tick first advances every channel, then takes its event'
abbrev pub happens : ℕ → State → Act → List Happening
happens c st (Tick waves event) = in_tick waves st c ++ at_trigger st (Tick waves event) c
happens c st (Write start count ws) = at_trigger st (Write start count ws) c ++ by_words c start (words_done st start count ws)
happens c st (Ask what) = []
happens c st (HandIn to ws) = []
happens c st (Renew how) = Fresh ∷ []

-- the story of channel c in a history
abbrev pub story : ℕ → State → List Act → List Happening
story c st [] = []
story c st (x ∷ xs) = happens c st x ++ story c (act st x) xs

-- ---- what is shown

pub record Told : Type 0 where
  pub loaded : Loaded
  pub place : Place
  pub amplitude : ℕ
  pub output : ℕ
  pub overflowed : ℕ
  pub counter : ℕ

-- after a reset: 'loaded scale factor 0x0100', 'all else 0', 'the amplitude too'
abbrev pub fresh : Told
fresh =
    record {
      loaded = record { table = 0; scale = 0x0100; offset = 0; tone = no_tone };
      place = place 0 0;
      amplitude = 0;
      output = 0;
      overflowed = 0;
      counter = 0;
    }

-- 'A33 and A34 show the last sample's n and m'; 'the ramp's sample becomes an amplitude', 'an amplitude overflow keeps the previous amplitude'
abbrev pub ramped : Place → Option ℕ → Told → Told
ramped p u x = record { loaded = x.loaded; place = p; amplitude = hold u x.amplitude; output = x.output; overflowed = x.overflowed; counter = x.counter }

-- the output becomes this sum's word, or where it does not fit 'is held and counted in A39, which grows by at most 1 a sample'; `over`: the
-- amplitude has overflowed, which is counted too; the counter becomes n
abbrev pub sounds : Option ℕ → Bool → ℕ → Told → Told
sounds y over n x =
    record {
      loaded = x.loaded;
      place = x.place;
      amplitude = x.amplitude;
      output = hold y x.output;
      overflowed = cond (over || overflows y) (x.overflowed + 1) x.overflowed;
      counter = n;
    }

-- in sine mode the sum is the sine of the amplitude at the counter n
abbrev pub sines : List ℕ → ℕ → Bool → ℕ → Told → Told
sines w c over n x = sounds (sine_of w c n x.amplitude) over n x

-- channel c's story
abbrev pub tell : ℕ → Told → Happening → Told
-- 'A33 and A34 become 0'
tell c x (Load ld) = record { loaded = ld; place = place 0 0; amplitude = x.amplitude; output = x.output; overflowed = x.overflowed; counter = x.counter }
tell c x (Sample w isFirst p u) =
    cond (is_sine x.loaded.tone.mode)
    (sines w c (overflows u) (counter_at isFirst x.loaded.tone x.counter) (ramped p u x))
    (sounds u false x.counter (ramped p u x))
-- 'under free run goes on .. A33 and A34 staying'
tell c x (FreeSample w) = sines w c false (counter_next x.loaded.tone x.counter) x
tell c x (Output v) = record { loaded = x.loaded; place = x.place; amplitude = v; output = v; overflowed = x.overflowed; counter = x.counter }
tell c x Clear = record { loaded = x.loaded; place = x.place; amplitude = x.amplitude; output = x.output; overflowed = 0; counter = x.counter }
tell c x Fresh = fresh

abbrev pub told : ℕ → Told → List Happening → Told
told c x [] = x
told c x (h ∷ hs) = told c (tell c x h) hs

-- the words of channel c read what is told, and it keeps the tone, the amplitude and the counter, which no address shows
pub record Shows (c : ℕ) (st : State) (x : Told) : Type 0 where
  pub output : read_back st (base c + 0xA04) ≡ x.output
  pub table : read_back st (base c + 0xA30) ≡ x.loaded.table
  pub scale : read_back st (base c + 0xA31) ≡ x.loaded.scale
  pub offset : read_back st (base c + 0xA32) ≡ x.loaded.offset
  pub segment : read_back st (base c + 0xA33) ≡ x.place.segment
  pub left : read_back st (base c + 0xA34) ≡ x.place.left.0
  -- 'grows by 1 (65,535 goes round to 0)'
  pub overflow : read_back st (base c + 0xA39) ≡ x.overflowed % 65536
  pub tone : (channel_of st.card c).loaded.tone ≡ x.loaded.tone
  pub amplitude : (channel_of st.card c).shown.amplitude ≡ x.amplitude
  pub counter : (channel_of st.card c).signal.counter ≡ x.counter

-- after any history of a fresh card; that it has 16,960 settings and 512 loaded words, of 16 bits each, is so by type
unfoldable pub ChannelsRight : Type 0
ChannelsRight =
    (edition : Edition) (s l : List ℕ) → length s ≡ 16960 → length l ≡ 512 → (xs : List Act) → Words16 xs → (c : ℕ) → c < 4
    → Shows c (acts (fresh_of edition s l) xs) (told c fresh (story c (fresh_of edition s l) xs))

-- after a reset: 'no countdown, no ramp'
unfoldable pub AtRest : Type 0
AtRest = (edition : Edition) (s l : List ℕ) (c : ℕ) → c < 4 → (channel_of (fresh_of edition s l).card c).phase ≡ Rest
