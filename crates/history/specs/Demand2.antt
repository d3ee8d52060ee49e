-- Demand 2: 'Every read-back, counter and output sample is what the V473 manual says, as document 01 sets it out. A setting written reads
-- back the same until a write, an erase or a reset changes it.'
use Rattle.std.specs.Prelude.{◌≡◌, List, ℕ}
use Rattle.card.specs.Card.{State}
use Rattle.card.specs.Tick.{ticks}
use Rattle.history.specs.History.{acts, idle}
use Rattle.history.specs.Effects.{SettingsAre}
use Rattle.history.specs.Settings.{SettingsKept}
use Rattle.history.specs.Counts.{CountsRight}
use Rattle.history.specs.Triggers.{TriggerRule, ImageRight}
use Rattle.history.specs.Story.{ChannelsRight, AtRest}
use Rattle.history.specs.Countdowns.{CountdownsSet, OlderGoesOn}
use Rattle.history.specs.Waves.{WavesRight}
use Rattle.history.specs.Sines.{SinesOverHistories}
use Rattle.history.specs.Active.{ActiveRight, NeverShows, ShownOnTime, LoadsNamed}

-- N ticks at once are N acts, so what holds of histories holds of them
unfoldable pub TicksAre : Type 0
TicksAre = (waves : List ℕ) (n : ℕ) (st : State) → ticks waves n st ≡ acts st (idle waves n)

pub record Demand2 : Type 0 where
  -- the settings, and which words those are
  pub settings : SettingsKept
  pub are : SettingsAre
  -- 0x4220 to 0x423F, by the triggers accepted; which those are, and what each sets
  pub counts : CountsRight
  pub triggers : TriggerRule
  pub countdowns : CountdownsSet
  -- 0x4210 and 0x4211: which trigger they show, when they change, and that every load is for the level then shown
  pub active : ActiveRight
  pub replaced : NeverShows
  pub on_time : ShownOnTime
  pub named : LoadsNamed
  -- 0x4100 to 0x41FF
  pub image : ImageRight
  -- A04, A30 to A34 and A39, tone, amplitude and counter: what happens on the channel. When it happens is demand 3; before it nothing runs,
  -- and from a later trigger to its load the older ramp goes on
  pub channels : ChannelsRight
  pub rest : AtRest
  pub older : OlderGoesOn
  -- the wave tables, and the sine
  pub waves : WavesRight
  pub sines : SinesOverHistories
  -- N ticks, no event
  pub ticks : TicksAre
