-- 'One tick, one microsecond': a channel's load, start, tick and trigger. Settings are the words by address; the loaded tables
-- stand one after the other, 128 words a channel. A tick has two passes: the ramp's value moves, then the signal is made.
use Rattle.std.specs.Prelude.{◌≡◌, ℕ, ◌-◌, ◌*◌, max, Bool, true, false, cond, List, ◌==◌, slice_index}
use Rattle.word.specs.Word.{lasting}
use Rattle.word.specs.Copy.{copied}
use Rattle.sum.specs.declared.Edition.{Edition}
use Rattle.map.specs.Addresses.{table_at, ramp_map_at, scale_map_at, scale_at, offset_map_at, offset_at, delay_at, frequency_map_at, frequency_at, phase_map_at, phase_at, enable_at, mode_at}
use Rattle.channel.specs.declared.Shown.{Shown}
use Rattle.channel.specs.declared.Tone.{Tone}
use Rattle.channel.specs.declared.Loaded.{Loaded}
use Rattle.channel.specs.declared.Gave.{Gave}
use Rattle.channel.specs.declared.Gave.TheVariants.{NoSample}
use Rattle.channel.specs.declared.Moved.{Moved}
use Rattle.channel.specs.declared.Ramp.{Ramp}
use Rattle.channel.specs.declared.Ramp.TheVariants.{Still, Going, Free}
use Rattle.channel.specs.declared.Phase.{Phase}
use Rattle.channel.specs.declared.Phase.TheVariants.{Rest, Counting, Running, FreeRunning}
use Rattle.channel.specs.declared.Signal.{Signal}
use Rattle.channel.specs.declared.Channel.{Channel}
use Rattle.channel.specs.declared.Ticked.{Ticked}
use Rattle.channel.specs.Ramp.{place, enter, given, advance}
use Rattle.channel.specs.Signal.{make_of}

-- the word at an address
abbrev pub word : List ℕ → ℕ → ℕ
word s a = slice_index s a

-- where channel c's loaded table begins
abbrev pub first_of : ℕ → ℕ
first_of c = 128 * c

-- a channel, and the loaded tables beside it
pub record Side : Type 0 where
  pub channel : Channel
  pub tables : List ℕ

abbrev pub side : Channel → List ℕ → Side
side ch l = record { channel = ch; tables = l }

-- the channel handed back and the tables left are those of a side
abbrev pub Leaves : Side → Channel → List ℕ → Type 0
Leaves x ch tables = (ch ≡ x.channel) × (tables ≡ x.tables)

abbrev pub with : Channel → Phase → Shown → Channel
with ch p s = record { phase = p; level = ch.level; loaded = ch.loaded; shown = s; signal = ch.signal }

abbrev pub with_signal : Channel → Signal → Channel
with_signal ch g = record { phase = ch.phase; level = ch.level; loaded = ch.loaded; shown = ch.shown; signal = g }

-- ---- the ramp that runs or free-runs, if any

abbrev pub ramp_of : Phase → Ramp
ramp_of Rest = Still
ramp_of (Counting n older) = older
ramp_of (Running w) = Going w
ramp_of (FreeRunning w) = Free w

abbrev pub phase_of : Ramp → Phase
phase_of Still = Rest
phase_of (Going w) = Running w
phase_of (Free w) = FreeRunning w

-- 'while a ramp runs', 'also in free run': running or free-running, or counting with an older ramp or free run still going on
abbrev pub going : Ramp → Bool
going Still = false
going (Going w) = true
going (Free w) = true

abbrev pub runs_of : Channel → Bool
runs_of ch = going (ramp_of ch.phase)

-- ---- the load

-- 'ten microseconds before a ramp starts'
abbrev pub lead : ℕ
lead = 10

-- 'when the countdown is set at 10 or reaches 10': the one rule of when a channel loads, for the trigger, for the tick and for what
-- 0x4210 and 0x4211 show
abbrev pub loads_at : ℕ → Bool
loads_at n = n == lead

-- the microseconds to the start; 0 where no countdown is on its way
abbrev pub to_start : Phase → ℕ
to_start Rest = 0
to_start (Counting n older) = n.0
to_start (Running w) = 0
to_start (FreeRunning w) = 0

-- whether the trigger or the tick that has just brought a channel to this phase has loaded it
abbrev pub just_loaded : Phase → Bool
just_loaded p = loads_at (to_start p)

-- 'mode, frequency and phase are taken at the load'
abbrev pub tone_for : List ℕ → ℕ → ℕ → Tone
tone_for s c level =
    record {
      mode = word s (mode_at c);
      frequency = word s (frequency_at c (word s (frequency_map_at c level)));
      phase = word s (phase_at c (word s (phase_map_at c level)));
    }

-- 'table, scale factor and offset for the pending level'
abbrev pub loaded_for : List ℕ → ℕ → ℕ → Loaded
loaded_for s c level =
    record {
      table = word s (ramp_map_at c level);
      scale = word s (scale_at c (word s (scale_map_at c level)));
      offset = word s (offset_at c (word s (offset_map_at c level)));
      tone = tone_for s c level;
    }

-- 'A33 and A34 become 0'; the amplitude is kept
abbrev pub blank : Shown → Shown
blank s = record { amplitude = s.amplitude; place = place 0 0 }

-- 'a running ramp is aborted and its output held; table, scale factor and offset for the pending level are copied'; a free run goes on
-- 'until the next load'
unfoldable pub load : List ℕ → List ℕ → ℕ → Channel → ℕ → Side
load s l c ch level =
    side
    (record {
      phase = Counting (record { 0 = lead }) Still;
      level = level;
      loaded = loaded_for s c level;
      shown = blank ch.shown;
      signal = ch.signal;
    })
    (copied 128 s (table_at c (word s (ramp_map_at c level))) l (first_of c))

-- ---- one tick, first pass: the ramp's value moves

-- the channel whose ramp has moved, the loaded tables beside it, and the sample that was given, if any
pub record Move : Type 0 where
  pub channel : Channel
  pub tables : List ℕ
  pub gave : Gave

abbrev pub move : Channel → List ℕ → Gave → Move
move ch l g = record { channel = ch; tables = l; gave = g }

-- no sample is given
abbrev pub quiet : Side → Move
quiet x = move x.channel x.tables NoSample

-- the channel after its ramp has moved
abbrev pub moved_on : Channel → List ℕ → Moved → Move
moved_on ch l m = move (with ch (phase_of m.ramp) m.shown) l m.gave

-- 'at countdown 0 the ramp starts if A00 is 1; otherwise nothing starts'; 'samples come at the start and every 10 ticks'
unfoldable pub start : Edition → List ℕ → List ℕ → ℕ → Channel → Move
start edition s l c ch =
    cond (word s (enable_at c) == 1)
    (moved_on ch l (given edition true l (first_of c) ch.loaded (lasting 1) (enter l (first_of c) 0) ch.shown))
    (quiet (side (with ch Rest ch.shown) l))

-- the countdown reaches m: the start at 0, the load at 10, which comes before the older ramp's sample; else the older ramp moves on
unfoldable pub count_to : Edition → ℕ → Ramp → List ℕ → List ℕ → ℕ → Channel → Move
count_to edition m older s l c ch =
    let o : Moved = advance edition l (first_of c) ch.loaded older ch.shown in
    cond (m == 0)
    (start edition s l c ch)
    (cond (loads_at m) (quiet (load s l c ch ch.level)) (move (with ch (Counting (record { 0 = m }) o.ramp) o.shown) l o.gave))

unfoldable pub move_at : Edition → Phase → List ℕ → List ℕ → ℕ → Channel → Move
move_at edition Rest s l c ch = quiet (side ch l)
move_at edition (Counting n older) s l c ch = count_to edition (n.0 - 1) older s l c ch
move_at edition (Running w) s l c ch = moved_on ch l (advance edition l (first_of c) ch.loaded (Going w) ch.shown)
move_at edition (FreeRunning w) s l c ch = moved_on ch l (advance edition l (first_of c) ch.loaded (Free w) ch.shown)

abbrev pub move_of : Edition → List ℕ → List ℕ → ℕ → Channel → Move
move_of edition s l c ch = move_at edition ch.phase s l c ch

-- what the first pass hands back, and the tables left
abbrev pub ticked : Move → Ticked
ticked x = record { channel = x.channel; gave = x.gave }

abbrev pub Moves : Move → Ticked → List ℕ → Type 0
Moves x t tables = (t ≡ ticked x) × (tables ≡ x.tables)

-- ---- second pass: its signal is made, with the wave tables w

abbrev pub sounded : List ℕ → ℕ → Channel → Gave → Channel
sounded w c ch g = with_signal ch (make_of w c g ch.loaded.tone ch.shown.amplitude ch.signal)

-- both passes of one channel
abbrev pub sounded_side : List ℕ → ℕ → Move → Side
sounded_side w c x = side (sounded w c x.channel x.gave) x.tables

unfoldable pub tick_of : Edition → List ℕ → List ℕ → List ℕ → ℕ → Channel → Side
tick_of edition s w l c ch = sounded_side w c (move_of edition s l c ch)

-- ---- a trigger

-- 'the countdown is set anew to that channel's delay for L, at least 10'
abbrev pub countdown : List ℕ → ℕ → ℕ → ℕ
countdown s c level = max lead (word s (delay_at c level))

-- it counts from d, with the older ramp or free run still going on
abbrev pub counting : Channel → ℕ → ℕ → Channel
counting ch level d = record { phase = Counting (record { 0 = d }) (ramp_of ch.phase); level = level; loaded = ch.loaded; shown = ch.shown; signal = ch.signal }

-- set at 10 it loads at once
unfoldable pub triggered : List ℕ → List ℕ → ℕ → Channel → ℕ → Side
triggered s l c ch level =
    cond (loads_at (countdown s c level))
    (load s l c ch level)
    (side (counting ch level (countdown s c level)) l)

-- ---- a word done at A04 or at A39

-- the output becomes v, and so does the amplitude, which 'an A04 write also sets'
abbrev pub output_to : Channel → ℕ → Channel
output_to ch v =
    record {
      phase = ch.phase;
      level = ch.level;
      loaded = ch.loaded;
      shown = record { amplitude = v; place = ch.shown.place };
      signal = record { output = v; overflow = ch.signal.overflow; counter = ch.signal.counter };
    }

-- 'any, sets 0'
abbrev pub overflow_cleared : Channel → Channel
overflow_cleared ch = with_signal ch (record { output = ch.signal.output; overflow = 0; counter = ch.signal.counter })

-- ---- after a reset: 'loaded scale factor 0x0100', 'all else 0', 'no countdown, no ramp'; 'all reset to zero, the amplitude too'
abbrev pub no_tone : Tone
no_tone = record { mode = 0; frequency = 0; phase = 0 }

abbrev pub reset_channel : Channel
reset_channel =
    record {
      phase = Rest;
      level = 0;
      loaded = record { table = 0; scale = 0x0100; offset = 0; tone = no_tone };
      shown = record { amplitude = 0; place = place 0 0 };
      signal = record { output = 0; overflow = 0; counter = 0 };
    }
