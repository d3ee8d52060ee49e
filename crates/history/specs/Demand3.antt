-- Demand 3 of the card.
use Rattle.std.specs.Prelude.{◌≡◌, List, ℕ, ◌+◌, ◌*◌, ◌-◌, ◌≤◌, ◌<◌, length, Some, None}
use Rattle.map.specs.Addresses.{enable_at}
use Rattle.channel.specs.declared.Channel.{Channel}
use Rattle.channel.specs.Channel.{Side, side, word, countdown}
use Rattle.card.specs.Card.{State, channel_of}
use Rattle.course.specs.Follows.{Follows}
use Rattle.course.specs.Outputs.{Outputs}
use Rattle.history.specs.History.{Act, Tick, act, acts, trigger_by, Quiet, ticks_in, until, waves_on}

-- channel c, and the loaded tables beside it
abbrev pub side_at : State → ℕ → Side
side_at st c = side (channel_of st.card c) st.tables

-- In any state st, whose loaded tables have room for four channels, as every call's have by type, the act x is an accepted trigger of
-- a level. After it come the acts xs and then a tick with an event and these wave tables, no trigger accepted and no reset among them.
-- On each channel c the countdown d is the delay held at the trigger, at least 10. The load is of the settings held on tick d − 10, and A00
-- is looked at on tick d. Sums are rounded as the card's own edition has it; none of these acts changes it.
unfoldable pub Demand3 : Type 0
Demand3 =
    (st : State) → 512 ≤ length st.tables
    → (x : Act) (level : ℕ) → trigger_by st x ≡ Some level
    → (xs : List Act) (waves : List ℕ) (event : ℕ) → Quiet (act st x) xs → trigger_by (acts (act st x) xs) (Tick waves event) ≡ None
    → (c : ℕ) → c < 4
    → let k : State = act st x in
    let d : ℕ = countdown k.settings c level in
    let loaded : List ℕ = (acts k (until (d - 10) xs)).settings in
    let enable : ℕ = word (acts k (until d xs)).settings (enable_at c) in
    let before : Channel = channel_of (acts k (until d xs)).card c in
    let now : Side = side_at (acts k xs) c in
    let later : Side = side_at (act (acts k xs) (Tick waves event)) c in
    Follows k.card.edition c level d loaded enable (ticks_in xs) waves now later
    × (enable ≡ 1 → Outputs k.card.edition c level d loaded (λ n. waves_on waves (d + 10 * n) xs) before.shown.amplitude before.signal.output (ticks_in xs) now later)
