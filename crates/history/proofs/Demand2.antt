-- Demand 2, of its parts. Assumes nothing.
use mathlib.Core.Path.{refl}
use Prim.Native.Nat.{zero, suc}
use Rattle.card.specs.Trigger.{accepted_of}
use Rattle.card.specs.Tick.{advanced, ticks}
use Rattle.history.specs.Demand2.{TicksAre, Demand2}
use Rattle.history.proofs.Registers.{settings_are}
use Rattle.history.proofs.Settings.{settings_kept}
use Rattle.history.proofs.Counts.{counts_right}
use Rattle.history.proofs.Triggers.{trigger_rule, image_right}
use Rattle.history.proofs.Story.{channels_right, at_rest}
use Rattle.history.proofs.Countdowns.{countdowns_set, older_goes_on}
use Rattle.history.proofs.Waves.{waves_right}
use Rattle.history.proofs.Sines.{sines_over_histories}
use Rattle.history.proofs.Active.{active_right, never_shows, shown_on_time}
use Rattle.history.proofs.Named.{loads_named}

-- N TICKS ARE N ACTS
pub ticks_are : TicksAre
unfolding TicksAre ticks accepted_of
ticks_are waves zero st = refl
ticks_are waves (suc n) st = ticks_are waves n (advanced waves st)

-- DEMAND 2
pub demand2 : Demand2
demand2 =
    record {
      settings = settings_kept;
      are = settings_are;
      counts = counts_right;
      triggers = trigger_rule;
      countdowns = countdowns_set;
      active = active_right;
      replaced = never_shows;
      on_time = shown_on_time;
      named = loads_named;
      image = image_right;
      rest = at_rest;
      channels = channels_right;
      waves = waves_right;
      sines = sines_over_histories;
      older = older_goes_on;
      ticks = ticks_are;
    }
