-- What a trigger sets on each channel, and what it leaves until the load: 'counting (toward a load or a start, perhaps with an older ramp
-- still running)'.
use Rattle.std.specs.Prelude.{◌≡◌, List, ℕ, ◌<◌, Some, None}
use Rattle.channel.specs.declared.Moved.{Moved}
use Rattle.channel.specs.declared.Way.{Way}
use Rattle.channel.specs.declared.Phase.TheVariants.{Running, FreeRunning}
use Rattle.channel.specs.Ramp.{advance}
use Rattle.channel.specs.Signal.{make_of}
use Rattle.channel.specs.Channel.{first_of, lead, to_start, ramp_of, countdown}
use Rattle.card.specs.Card.{State, channel_of}
use Rattle.card.specs.Tick.{advanced}
use Rattle.course.specs.Points.{SameTable}
use Rattle.history.specs.History.{Act, Tick, Write, Ask, HandIn, Renew, act, trigger_by}
use Rattle.history.specs.Sound.{Sound}

-- ---- the countdown

-- the state that a trigger comes to: 'a tick first advances every channel, then takes its event'
abbrev pub just_before : State → Act → State
just_before st (Tick waves event) = advanced waves st
just_before st (Write start count ws) = st
just_before st (Ask what) = st
just_before st (HandIn to ws) = st
just_before st (Renew how) = st

-- 'On each channel, enabled or not, the countdown is set anew to that channel's delay for L, at least 10.'
unfoldable pub CountdownsSet : Type 0
CountdownsSet =
    (st : State) (x : Act) (level : ℕ) → trigger_by st x ≡ Some level → (c : ℕ) → c < 4
    → to_start (channel_of (act st x).card c).phase ≡ countdown (act st x).settings c level

-- ---- the older ramp, and the older free run

-- channel c's ramp and its copy are in y what they were in x
pub record RampKept (c : ℕ) (x y : State) : Type 0 where
  pub ramp : ramp_of (channel_of y.card c).phase ≡ ramp_of (channel_of x.card c).phase
  pub loaded : (channel_of y.card c).loaded ≡ (channel_of x.card c).loaded
  pub table : SameTable y.tables (first_of c) x.tables (first_of c)

-- what one tick makes of channel c's ramp and of its value
abbrev pub stepped : ℕ → State → Moved
stepped c x = advance x.card.edition x.tables (first_of c) (channel_of x.card c).loaded (ramp_of (channel_of x.card c).phase) (channel_of x.card c).shown

-- the ramp goes on by one tick, over the same copy, and its sample makes the signal
pub record GoesOn (w : List ℕ) (c : ℕ) (x y : State) : Type 0 where
  pub ramp : ramp_of (channel_of y.card c).phase ≡ (stepped c x).ramp
  pub shown : (channel_of y.card c).shown ≡ (stepped c x).shown
  pub signal : (channel_of y.card c).signal
      ≡ make_of w c (stepped c x).gave (channel_of x.card c).loaded.tone (stepped c x).shown.amplitude (channel_of x.card c).signal
  pub loaded : (channel_of y.card c).loaded ≡ (channel_of x.card c).loaded
  pub table : SameTable y.tables (first_of c) x.tables (first_of c)

-- until the load an older ramp goes on as if no trigger had come
pub record OlderGoesOn : Type 0 where
  -- a trigger that does not load at once leaves the ramp, its copy, its value and the signal
  pub trigger : (st : State) → Sound st → (x : Act) (level : ℕ) → trigger_by st x ≡ Some level → (c : ℕ) → c < 4
      → lead < countdown (act st x).settings c level → RampKept c (just_before st x) (act st x)
  pub shown : (st : State) (x : Act) (level : ℕ) → trigger_by st x ≡ Some level → (c : ℕ) → c < 4 → lead < countdown (act st x).settings c level
      → (channel_of (act st x).card c).shown ≡ (channel_of (just_before st x).card c).shown
  pub signal : (st : State) (x : Act) (level : ℕ) → trigger_by st x ≡ Some level → (c : ℕ) → c < 4 → lead < countdown (act st x).settings c level
      → (channel_of (act st x).card c).signal ≡ (channel_of (just_before st x).card c).signal
  -- a tick moves it on while the load is to come on a later tick, as it moves a ramp with no countdown beside it
  pub counting : (w : List ℕ) (st : State) → Sound st → (c : ℕ) → c < 4 → 11 < to_start (channel_of st.card c).phase → GoesOn w c st (advanced w st)
  pub running : (w : List ℕ) (st : State) → Sound st → (c : ℕ) → c < 4 → (r : Way) → (channel_of st.card c).phase ≡ Running r → GoesOn w c st (advanced w st)
  pub free : (w : List ℕ) (st : State) → Sound st → (c : ℕ) → c < 4 → (r : Way) → (channel_of st.card c).phase ≡ FreeRunning r → GoesOn w c st (advanced w st)
  -- a write that is no trigger leaves the ramp and its copy
  pub write : (st : State) → Sound st → (start count : ℕ) (ws : List ℕ) → trigger_by st (Write start count ws) ≡ None → (c : ℕ) → c < 4
      → RampKept c st (act st (Write start count ws))
