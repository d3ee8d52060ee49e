-- Document 02, One: what 0x4210 and 0x4211 show, and when they change.
use Rattle.std.specs.Prelude.{Bool, cond, ℕ}
use Rattle.channel.specs.Channel.{just_loaded}
use Rattle.card.specs.declared.Cause.{Cause}
use Rattle.card.specs.declared.Card.{Card}
use Rattle.card.specs.Card.{channel_of, on_some}

abbrev pub cause : ℕ → ℕ → Cause
cause level event = record { level = level; event = event }

-- a load 'on whichever channel', enabled or not, in a card that a trigger or a tick has just moved
abbrev pub some_loaded : Card → Bool
some_loaded k = on_some (λ c. just_loaded (channel_of k c).phase)

-- '0x4210 and 0x4211 shall change at the first load that follows a trigger .. to that trigger's level and event'; the later loads show
-- the same trigger again, since every trigger sets all four countdowns anew
abbrev pub showing : Card → Card
showing k = record { edition = k.edition; channels = k.channels; counts = k.counts; active = cond (some_loaded k) k.pending k.active; pending = k.pending }
