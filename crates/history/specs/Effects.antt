-- All that an accepted word does, by its address.
use Rattle.std.specs.Prelude.{◌≡◌, Bool, true, false, not, ◌&&◌, ℕ, ◌+◌, ◌≤◌, ◌<◌, set, Option, Some, None}
use Rattle.map.specs.declared.Register.{Register}
use Rattle.map.specs.declared.Register.TheVariants as R
use Rattle.map.specs.Map.{base, region_of, register_of}
use Rattle.map.specs.Settings.{is_setting}
use Rattle.slots.specs.Slots.{erased}
use Rattle.channel.specs.Channel.{runs_of, output_to, overflow_cleared}
use Rattle.card.specs.Card.{State, state, channel_of, with_channel, with_count}
use Rattle.card.specs.Trigger.{trigger_of}
use Rattle.transfer.specs.Transfer.{writable, readable}
use Rattle.transfer.specs.Word.{effect_of, perform_of}
use Rattle.history.specs.Numbers.{first, to_write}
use Rattle.map.specs.declared.Region.{Region}

-- 'Settings are the RW words except A04, A39 and the level counts.'
abbrev pub read_write : Option Region → Bool
read_write (Some r) = readable r.access && writable r.access
read_write None = false

abbrev pub excepted : Register → Bool
excepted (R.Setting s) = false
excepted (R.Fixed s) = false
excepted (R.Output c) = true
excepted (R.Status c f) = false
excepted (R.Overflow c) = true
excepted (R.Slot l) = false
excepted (R.Image e) = false
excepted R.Erase = false
excepted R.Manual = false
excepted R.ActiveLevel = false
excepted R.ActiveEvent = false
excepted (R.Count l) = true
excepted R.Unlisted = false

unfoldable pub SettingsAre : Type 0
SettingsAre = (a : ℕ) → is_setting (register_of a) ≡ read_write (region_of a) && not (excepted (register_of a))

-- the word v done at address a makes y of x
pub data Does (x : State) (a v : ℕ) (y : State) : Type 0 where
  -- a setting keeps it
  Keeps : is_setting (register_of a) ≡ true → y ≡ state x.card (set x.settings a v) x.tables → Does x a v y
  -- A04: the output and the amplitude, while no ramp runs or free-runs
  Outputs : (c : ℕ) → c < 4 → a ≡ base c + 0xA04 → runs_of (channel_of x.card c) ≡ false
      → y ≡ state (with_channel x.card c (output_to (channel_of x.card c) v)) x.settings x.tables → Does x a v y
  -- A39 and a level's count: 'any, sets 0'
  ClearsOverflow : (c : ℕ) → c < 4 → a ≡ base c + 0xA39
      → y ≡ state (with_channel x.card c (overflow_cleared (channel_of x.card c))) x.settings x.tables → Does x a v y
  ClearsCount : (level : ℕ) → level < 32 → a ≡ 0x4220 + level → y ≡ state (with_count x.card level 0) x.settings x.tables → Does x a v y
  -- 0x4201: '1 sets every slot to FE, 0 does nothing'
  Erases : a ≡ 0x4201 → v ≡ 1 → y ≡ state x.card (erased x.settings) x.tables → Does x a v y
  Idles : a ≡ 0x4201 → v ≡ 0 → y ≡ x → Does x a v y
  -- 0x4202: a trigger of level v, its event 0xFE
  Triggers : a ≡ 0x4202 → v ≤ 31 → y ≡ trigger_of x v 0xFE → Does x a v y

-- of every word that is not refused
unfoldable pub AllEffects : Type 0
AllEffects = (r : Option Region) (x : State) (a v : ℕ) → first (to_write r x a v) ≡ 0 → Does x a v (perform_of x a (effect_of (register_of a) v))
