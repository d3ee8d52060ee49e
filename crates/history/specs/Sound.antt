-- The states that the card comes to: what a fresh card is, and every tick, transfer and history keeps.
use Rattle.std.specs.Prelude.{◌≡◌, true, List, ℕ, ◌+◌, ◌≤◌, ◌<◌, length}
use Rattle.sum.specs.declared.Edition.{Edition}
use Rattle.map.specs.Register.{is_mode}
use Rattle.map.specs.Map.{register_of, accepted_at}
use Rattle.map.specs.Settings.{is_setting}
use Rattle.map.specs.Addresses.{table_at, scale_at, offset_at}
use Rattle.slots.specs.Slots.{OneLevel}
use Rattle.channel.specs.declared.Way.{Way}
use Rattle.channel.specs.declared.Shown.{Shown}
use Rattle.channel.specs.declared.Ramp.{Ramp}
use Rattle.channel.specs.declared.Ramp.TheVariants.{Still, Going, Free}
use Rattle.channel.specs.declared.Phase.{Phase}
use Rattle.channel.specs.declared.Phase.TheVariants.{Rest, Counting, Running, FreeRunning}
use Rattle.channel.specs.declared.Signal.{Signal}
use Rattle.channel.specs.declared.Tone.{Tone}
use Rattle.channel.specs.declared.Channel.{Channel}
use Rattle.channel.specs.Ramp.{free_runs}
use Rattle.channel.specs.Channel.{word, ramp_of}
use Rattle.course.specs.Plain.{is_free}
use Rattle.card.specs.declared.Cause.{Cause}
use Rattle.card.specs.declared.Card.{Card}
use Rattle.card.specs.Card.{State, channel_of, count_of}
use Rattle.card.specs.Tick.{tick_with, ticks}
use Rattle.card.specs.Reset.{fresh_of}
use Rattle.transfer.specs.Transfer.{write_of}
use Rattle.history.specs.History.{Act, acts, Each, Words16}

-- the settings, by address
pub record Words (s : List ℕ) : Type 0 where
  pub many : length s ≡ 16960
  -- 'words have 16 bits'
  pub small : (a : ℕ) → word s a < 65536
  -- a setting holds a word that its address accepts
  pub accepted : (a : ℕ) → is_setting (register_of a) ≡ true → accepted_at a (word s a) ≡ true
  -- 'table 0 fixed', 'entry 0 fixed'
  pub table0 : (c i : ℕ) → c < 4 → i < 128 → word s (table_at c 0 + i) ≡ 0
  pub scale0 : (c : ℕ) → c < 4 → word s (scale_at c 0) ≡ 0x0100
  pub offset0 : (c : ℕ) → c < 4 → word s (offset_at c 0) ≡ 0
  -- no event but 0xFE is held by two levels
  pub one : OneLevel s

-- the loaded tables
pub record Tables (l : List ℕ) : Type 0 where
  pub many : length l ≡ 512
  pub small : (i : ℕ) → word l i < 65536

-- ---- a channel

-- a ramp on its way: in a segment before point 63, with samples left in it, one every 10 microseconds
pub record OnItsWay (r : Way) : Type 0 where
  pub inner : r.place.segment < 63
  pub left : 1 ≤ r.place.left.0
  pub small : r.place.left.0 < 65536
  pub wait : 1 ≤ r.wait.0
  pub soon : r.wait.0 ≤ r.period.0
  pub period : r.period.0 ≡ 10

-- a free run: the end point is behind it, and a sample comes every 10 microseconds
pub record RunsFree (r : Way) : Type 0 where
  pub most : r.place.segment ≤ 63
  pub ended : r.place.left.0 ≡ 0
  pub wait : 1 ≤ r.wait.0
  pub soon : r.wait.0 ≤ r.period.0
  pub period : r.period.0 ≡ 10

abbrev pub RampSound : Ramp → Type 0
RampSound Still = Unit
RampSound (Going r) = OnItsWay r
RampSound (Free r) = RunsFree r

-- a countdown; from the load on, 10 microseconds before the start, no older ramp runs or free-runs
pub record Countdown (n : ℕ) (older : Ramp) : Type 0 where
  pub some : 1 ≤ n
  pub small : n < 65536
  pub alone : n ≤ 10 → older ≡ Still
  pub ramp : RampSound older

abbrev pub PhaseSound : Phase → Type 0
PhaseSound Rest = Unit
PhaseSound (Counting n older) = Countdown n.0 older
PhaseSound (Running r) = OnItsWay r
PhaseSound (FreeRunning r) = RunsFree r

pub record ShownSound (s : Shown) : Type 0 where
  pub amplitude : s.amplitude < 65536
  pub segment : s.place.segment ≤ 63
  pub left : s.place.left.0 < 65536

pub record SignalSound (g : Signal) : Type 0 where
  pub output : g.output < 65536
  pub overflow : g.overflow < 65536
  pub counter : g.counter < 65536

-- A01 accepts 0, 1, 4 and 5
pub record ToneSound (t : Tone) : Type 0 where
  pub mode : is_mode t.mode ≡ true
  pub frequency : t.frequency < 65536
  pub phase : t.phase < 65536

pub record ChannelSound (ch : Channel) : Type 0 where
  pub phase : PhaseSound ch.phase
  pub level : ch.level < 32
  pub table : ch.loaded.table ≤ 15
  pub scale : ch.loaded.scale < 65536
  pub offset : ch.loaded.offset < 65536
  pub tone : ToneSound ch.loaded.tone
  -- only a ramp that was loaded with free run runs free
  pub free : is_free (ramp_of ch.phase) ≡ true → free_runs ch.loaded.tone.mode ≡ true
  pub shown : ShownSound ch.shown
  pub signal : SignalSound ch.signal

-- ---- the card

pub record CauseSound (x : Cause) : Type 0 where
  pub level : x.level < 32
  pub event : x.event < 256

pub record CardSound (k : Card) : Type 0 where
  pub four : length k.channels ≡ 4
  pub channels : (c : ℕ) → ChannelSound (channel_of k c)
  pub many : length k.counts ≡ 32
  pub counts : (level : ℕ) → count_of k level < 65536
  pub active : CauseSound k.active
  pub pending : CauseSound k.pending

pub record Sound (st : State) : Type 0 where
  pub settings : Words st.settings
  pub tables : Tables st.tables
  pub card : CardSound st.card

-- a fresh card of either edition is it, over any lists of the card's lengths, as every call has them by type; a tick with any event, any
-- ticks, any write and any history keep it
pub record Reachable : Type 0 where
  pub fresh : (edition : Edition) (s l : List ℕ) → length s ≡ 16960 → length l ≡ 512 → Sound (fresh_of edition s l)
  pub tick : (w : List ℕ) (st : State) (event : ℕ) → Sound st → Sound (tick_with w st event)
  pub ticks : (w : List ℕ) (n : ℕ) (st : State) → Sound st → Sound (ticks w n st)
  pub write : (st : State) (start count : ℕ) (ws : List ℕ) → Each (λ v. v < 65536) ws → Sound st → Sound (write_of st start count ws).state
  pub history : (st : State) (xs : List Act) → Words16 xs → Sound st → Sound (acts st xs)
