-- 'Events and levels'.
use Rattle.std.specs.Prelude.{cond, List, ℕ, eqb, Option, Some, None}
use Rattle.word.specs.Word.{grown}
use Rattle.slots.specs.Slots.{holder_of}
use Rattle.channel.specs.Channel.{word, triggered}
use Rattle.card.specs.declared.Cause.{Cause}
use Rattle.card.specs.declared.Card.{Card}
use Rattle.card.specs.Card.{State, state, All, on_all, with_channels, count_of, with_count}
use Rattle.card.specs.Active.{cause, showing}

-- 'a trigger of level L adds 1 to L's count (65,535 goes round to 0)'
abbrev pub counted : Card → ℕ → Card
counted k level = with_count k level (grown (count_of k level))

-- the trigger's level and event (0xFE if manual) are kept as pending, in the place of the last trigger's
abbrev pub keeping : Card → Cause → Card
keeping k t = record { edition = k.edition; channels = k.channels; counts = k.counts; active = k.active; pending = t }

-- 'on each channel, enabled or not, the countdown is set anew'
abbrev pub struck : State → ℕ → All
struck st level = on_all (λ c l ch. triggered st.settings l c ch level) st.card st.tables

unfoldable pub trigger_of : State → ℕ → ℕ → State
trigger_of st level event =
    state
    (showing (keeping (counted (with_channels st.card (struck st level).channels) level) (cause level event)))
    st.settings
    (struck st level).tables

-- 'an event other than 0xFE, received while 0x4200 is 1 and held by some slot of level L, is an accepted trigger of L'
unfoldable pub accepted_of : List ℕ → ℕ → Option ℕ
accepted_of s event = cond (eqb event 0xFE) None (cond (eqb (word s 0x4200) 1) (holder_of s event) None)

-- 'any other event does nothing beyond its tick'
abbrev pub on_event : Option ℕ → State → ℕ → State
on_event (Some level) st event = trigger_of st level event
on_event None st event = st

abbrev pub event_of : State → ℕ → State
event_of st event = on_event (accepted_of st.settings event) st event
