-- One word of a transfer: whether it may be written, what it does, and what is read.
use Rattle.std.specs.Prelude.{◌≡◌, Bool, true, false, not, ◌&&◌, cond, List, ℕ, ◌<◌, eqb, set, Option, Some, None, Result, Ok, Err}
use Rattle.map.specs.declared.Field.{Field}
use Rattle.map.specs.declared.Field.TheVariants as F
use Rattle.map.specs.declared.Register.{Register}
use Rattle.map.specs.declared.Register.TheVariants as R
use Rattle.map.specs.Map.{register_of}
use Rattle.map.specs.Register.{allowed}
use Rattle.map.specs.Settings.{is_fixed}
use Rattle.slots.specs.Slots.{other_of, image_of, erased}
use Rattle.channel.specs.declared.Channel.{Channel}
use Rattle.channel.specs.Channel.{word, runs_of, output_to, overflow_cleared}
use Rattle.card.specs.declared.Card.{Card}
use Rattle.card.specs.Card.{State, state, channel_of, with_channel, count_of, with_count}
use Rattle.card.specs.Trigger.{trigger_of}
use Rattle.transfer.specs.declared.Why.TheVariants.{Fixed, Value, Held, Running}
use Rattle.transfer.specs.declared.Effect.{Effect}
use Rattle.transfer.specs.declared.Effect.TheVariants.{Keep, Output, ClearOverflow, ClearCount, Erase, Trigger, Nothing}
use Rattle.transfer.specs.declared.Why.{Why}

-- ---- whether a word may be written: numbers 5 to 8, in their order

-- 5, 'write to a fixed word, whatever the value', is `is_fixed` of the map

-- 7: 'event held by another level'; 0xFE is null and empties the slot
abbrev pub is_level : Option ℕ → Bool
is_level (Some l) = true
is_level None = false

abbrev pub held_at : List ℕ → Register → ℕ → Bool
held_at s (R.Setting x) v = false
held_at s (R.Fixed x) v = false
held_at s (R.Output c) v = false
held_at s (R.Status c f) v = false
held_at s (R.Overflow c) v = false
held_at s (R.Slot level) v = not (eqb v 0xFE) && is_level (other_of s v level)
held_at s (R.Image e) v = false
held_at s R.Erase v = false
held_at s R.Manual v = false
held_at s R.ActiveLevel v = false
held_at s R.ActiveEvent v = false
held_at s (R.Count l) v = false
held_at s R.Unlisted v = false

-- 8: 'write to A04 while a ramp runs on that channel', 'also in free run'
abbrev pub running_at : Card → Register → Bool
running_at k (R.Setting x) = false
running_at k (R.Fixed x) = false
running_at k (R.Output c) = runs_of (channel_of k c)
running_at k (R.Status c f) = false
running_at k (R.Overflow c) = false
running_at k (R.Slot l) = false
running_at k (R.Image e) = false
running_at k R.Erase = false
running_at k R.Manual = false
running_at k R.ActiveLevel = false
running_at k R.ActiveEvent = false
running_at k (R.Count l) = false
running_at k R.Unlisted = false

-- what the register allows is what the map accepts at its address (`accepted_is` of `map`)
unfoldable pub judge_of : List ℕ → Card → Register → ℕ → Result Unit Why
judge_of s k r v =
    cond (is_fixed r) (Err Fixed)
    (cond (not (allowed r v)) (Err Value)
    (cond (held_at s r v) (Err Held)
    (cond (running_at k r) (Err Running)
    (Ok tt))))

-- ---- what an accepted word does: all that a write can do

abbrev pub effect_of : Register → ℕ → Effect
effect_of (R.Setting s) v = Keep v
effect_of (R.Fixed s) v = Nothing
effect_of (R.Output c) v = Output c v
effect_of (R.Status c f) v = Nothing
effect_of (R.Overflow c) v = ClearOverflow c
effect_of (R.Slot l) v = Keep v
effect_of (R.Image e) v = Nothing
effect_of R.Erase v = cond (eqb v 1) Erase Nothing
effect_of R.Manual v = Trigger v
effect_of R.ActiveLevel v = Nothing
effect_of R.ActiveEvent v = Nothing
effect_of (R.Count l) v = ClearCount l
effect_of R.Unlisted v = Nothing

-- only the trigger reaches the loaded tables, a phase or a pending level
abbrev pub perform_of : State → ℕ → Effect → State
perform_of st a (Keep v) = state st.card (set st.settings a v) st.tables
perform_of st a (Output c v) = state (with_channel st.card c (output_to (channel_of st.card c) v)) st.settings st.tables
perform_of st a (ClearOverflow c) = state (with_channel st.card c (overflow_cleared (channel_of st.card c))) st.settings st.tables
perform_of st a (ClearCount level) = state (with_count st.card level 0) st.settings st.tables
perform_of st a Erase = state st.card (erased st.settings) st.tables
perform_of st a (Trigger level) = trigger_of st level 0xFE
perform_of st a Nothing = st

-- a word that is kept has its place among the settings lent
abbrev pub Fits : ℕ → Effect → Type 0
Fits a (Keep v) = a < 16960
Fits a (Output c v) = Unit
Fits a (ClearOverflow c) = Unit
Fits a (ClearCount level) = Unit
Fits a Erase = Unit
Fits a (Trigger level) = Unit
Fits a Nothing = Unit

-- one word written: its verdict, and the state after it
pub record One : Type 0 where
  pub state : State
  pub verdict : Result Unit Why

abbrev pub one : State → Result Unit Why → One
one st d = record { state = st; verdict = d }

abbrev pub on_verdict : Result Unit Why → State → ℕ → ℕ → One
on_verdict (Ok tt) st a v = one (perform_of st a (effect_of (register_of a) v)) (Ok tt)
on_verdict (Err why) st a v = one st (Err why)

unfoldable pub write_word : State → ℕ → ℕ → One
write_word st a v = on_verdict (judge_of st.settings st.card (register_of a) v) st a v

-- the card, the settings and the tables left, and the verdict handed back
abbrev pub Steps : One → Card → Result Unit Why → List ℕ → List ℕ → Type 0
Steps o k d settings tables = (k ≡ o.state.card) × (d ≡ o.verdict) × (settings ≡ o.state.settings) × (tables ≡ o.state.tables)

-- ---- what is read

abbrev pub status_of : Channel → Field → ℕ
status_of ch F.Table = ch.loaded.table
status_of ch F.Scale = ch.loaded.scale
status_of ch F.Offset = ch.loaded.offset
status_of ch F.Segment = ch.shown.place.segment
status_of ch F.Left = ch.shown.place.left.0

abbrev pub read_at : List ℕ → Card → ℕ → Register → ℕ
read_at s k a (R.Setting x) = word s a
read_at s k a (R.Fixed x) = word s a
read_at s k a (R.Output c) = (channel_of k c).signal.output
read_at s k a (R.Status c f) = status_of (channel_of k c) f
read_at s k a (R.Overflow c) = (channel_of k c).signal.overflow
read_at s k a (R.Slot l) = word s a
read_at s k a (R.Image e) = image_of s e
read_at s k a R.Erase = 0
read_at s k a R.Manual = 0
read_at s k a R.ActiveLevel = k.active.level
read_at s k a R.ActiveEvent = k.active.event
read_at s k a (R.Count l) = count_of k l
read_at s k a R.Unlisted = 0

abbrev pub read_word : List ℕ → Card → ℕ → ℕ
read_word s k a = read_at s k a (register_of a)
