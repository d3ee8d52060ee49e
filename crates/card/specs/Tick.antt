-- 'A tick first advances every channel, then takes its event, if any.' Every channel is advanced in two passes (document 02, Two): all ramp
-- values move, with the card's own edition, then the outputs are made, with the wave tables w.
use Rattle.std.specs.Prelude.{List, [], ◌∷◌, ℕ, zero, suc}
use Rattle.channel.specs.declared.Channel.{Channel}
use Rattle.channel.specs.declared.Ticked.{Ticked}
use Rattle.channel.specs.Channel.{Move, move_of, sounded, ticked}
use Rattle.card.specs.Card.{State, state, All, channel_of, with_channels}
use Rattle.card.specs.Active.{showing}
use Rattle.card.specs.Trigger.{event_of}

-- the four channels after the first pass, with the samples that they gave
pub record Pass : Type 0 where
  pub zero : Ticked
  pub one : Ticked
  pub two : Ticked
  pub three : Ticked

-- one after the other over the loaded tables
pub record Passed : Type 0 where
  pub pass : Pass
  pub tables : List ℕ

unfoldable pub first_pass : State → Passed
first_pass st =
    let a : Move = move_of st.card.edition st.settings st.tables 0 (channel_of st.card 0) in
    let b : Move = move_of st.card.edition st.settings a.tables 1 (channel_of st.card 1) in
    let c : Move = move_of st.card.edition st.settings b.tables 2 (channel_of st.card 2) in
    let d : Move = move_of st.card.edition st.settings c.tables 3 (channel_of st.card 3) in
    record { pass = record { zero = ticked a; one = ticked b; two = ticked c; three = ticked d }; tables = d.tables }

-- the second pass
unfoldable pub second_pass : List ℕ → Pass → List Channel
second_pass w p =
    sounded w 0 p.zero.channel p.zero.gave
    ∷ sounded w 1 p.one.channel p.one.gave
    ∷ sounded w 2 p.two.channel p.two.gave
    ∷ sounded w 3 p.three.channel p.three.gave
    ∷ []

abbrev pub both_passes : List ℕ → State → All
both_passes w st = record { channels = second_pass w (first_pass st).pass; tables = (first_pass st).tables }

-- every channel one microsecond on; a load by counting shows the pending trigger, and only then the event is taken
unfoldable pub advanced : List ℕ → State → State
advanced w st = state (showing (with_channels st.card (both_passes w st).channels)) st.settings (both_passes w st).tables

-- a tick with its event, 0xFE if there is none
abbrev pub tick_with : List ℕ → State → ℕ → State
tick_with w st event = event_of (advanced w st) event

-- n ticks, no event
unfoldable pub ticks : List ℕ → ℕ → State → State
ticks w zero st = st
ticks w (suc n) st = ticks w n (advanced w st)
