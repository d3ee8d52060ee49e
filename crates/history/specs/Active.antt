-- Demand 2 of 0x4210 and 0x4211, as document 02, One, has them: they 'shall change at the first load that follows a trigger, on whichever
-- channel that comes first, to that trigger's level and event'.
use Rattle.std.specs.Prelude.{◌≡◌, Bool, true, false, ◌||◌, cond, List, [], ◌∷◌, ℕ, ◌-◌, ◌<◌, min, leb, Option, Some, None}
use Rattle.sum.specs.declared.Edition.{Edition}
use Rattle.map.specs.Addresses.{delay_at}
use Rattle.channel.specs.Channel.{word, lead, loaded_for}
use Rattle.card.specs.declared.Cause.{Cause}
use Rattle.card.specs.Card.{State, on_some}
use Rattle.card.specs.Active.{cause}
use Rattle.card.specs.Tick.{advanced}
use Rattle.card.specs.Reset.{fresh_of}
use Rattle.history.specs.History.{Act, Tick, Write, Ask, HandIn, Renew, act, acts, read_back, trigger_by, Quiet, ticks_in}
use Rattle.history.specs.Triggers.{event_by}
use Rattle.history.specs.Story.{Happening, Load, Sample, FreeSample, Output, Clear, Fresh, in_tick, at_trigger, happens}
use Rattle.history.specs.Countdowns.{just_before}

-- ---- loads

-- a load among what happens on a channel
abbrev pub load_among : List Happening → Bool
load_among [] = false
load_among (Load ld ∷ hs) = true
load_among (Sample w f p u ∷ hs) = load_among hs
load_among (FreeSample w ∷ hs) = load_among hs
load_among (Output v ∷ hs) = load_among hs
load_among (Clear ∷ hs) = load_among hs
load_among (Fresh ∷ hs) = load_among hs

-- some channel loads in an act, and in acts
abbrev pub loads_by : State → Act → Bool
loads_by st x = on_some (λ c. load_among (happens c st x))

abbrev pub loads_in : State → List Act → Bool
loads_in st [] = false
loads_in st (x ∷ xs) = loads_by st x || loads_in (act st x) xs

-- some channel loads by counting, in a tick with the wave tables w
abbrev pub loads_by_counting : List ℕ → State → Bool
loads_by_counting w st = on_some (λ c. load_among (in_tick w st c))

-- some channel loads in x before the trigger that x is
abbrev pub loads_before : State → Act → Bool
loads_before st (Tick waves event) = loads_by_counting waves st
loads_before st (Write start count ws) = false
loads_before st (Ask what) = false
loads_before st (HandIn to ws) = false
loads_before st (Renew how) = false

-- some channel loads at the trigger itself
abbrev pub loads_at_trigger : State → Act → Bool
loads_at_trigger st x = on_some (λ c. load_among (at_trigger st x c))

-- some channel loads after it: at the trigger itself, or in the acts xs that follow
abbrev pub loads_after : State → Act → List Act → Bool
loads_after st x xs = loads_at_trigger st x || loads_in (act st x) xs

-- ---- after any history

-- what 0x4210 and 0x4211 read
abbrev pub active_in : State → Cause
active_in st = cause (read_back st 0x4210) (read_back st 0x4211)

-- after a reset: 0 and 0xFE
abbrev pub at_reset : Cause
at_reset = cause 0 0xFE

-- what an act leaves of `old`: a trigger takes its place if some channel has loaded since, a reset always. A load after a later trigger
-- counts too: that trigger then takes the place in its turn
abbrev pub active_after : Option ℕ → Act → Bool → Cause → Cause
active_after (Some l) x loaded old = cond loaded (cause l (event_by x)) old
active_after None (Tick waves event) loaded old = old
active_after None (Write start count ws) loaded old = old
active_after None (Ask what) loaded old = old
active_after None (HandIn to ws) loaded old = old
active_after None (Renew how) loaded old = at_reset

-- the last accepted trigger after which some channel has loaded; `old` where there is none
abbrev pub last_loaded : State → List Act → Cause → Cause
last_loaded st [] old = old
last_loaded st (x ∷ xs) old = last_loaded (act st x) xs (active_after (trigger_by st x) x (loads_after st x xs) old)

-- of a fresh card
unfoldable pub ActiveRight : Type 0
ActiveRight = (edition : Edition) (s l : List ℕ) (xs : List Act) → active_in (acts (fresh_of edition s l) xs) ≡ last_loaded (fresh_of edition s l) xs at_reset

-- ---- the last trigger

-- In any state st the act x is an accepted trigger of a level; after it come the acts xs, no trigger accepted and no reset among them.
abbrev pub LastTrigger : State → Act → ℕ → List Act → Type 0
LastTrigger st x level xs = (trigger_by st x ≡ Some level) × Quiet (act st x) xs

-- 'A trigger replaced before any channel loads never shows there.'
pub record NeverShows : Type 0 where
  -- until a channel loads: what was shown before it
  pub meanwhile : (st : State) (x : Act) (level : ℕ) (xs : List Act) → LastTrigger st x level xs → loads_after st x xs ≡ false
      → active_in (acts (act st x) xs) ≡ active_in (just_before st x)
  -- a trigger y then takes its place, and no channel loads before y; whatever acts ys come, they show the last trigger from y on after which
  -- some channel has loaded, and where there is none what was shown before x
  pub afterwards : (st : State) (x : Act) (level : ℕ) (xs : List Act) → LastTrigger st x level xs → loads_after st x xs ≡ false
      → (y : Act) (l : ℕ) → trigger_by (acts (act st x) xs) y ≡ Some l → loads_before (acts (act st x) xs) y ≡ false → (ys : List Act)
      → active_in (acts (acts (act st x) xs) (y ∷ ys)) ≡ last_loaded (acts (act st x) xs) (y ∷ ys) (active_in (just_before st x))

-- the shortest of the four channels' delays for a level
abbrev pub shortest : List ℕ → ℕ → ℕ
shortest s level = min (min (word s (delay_at 0 level)) (word s (delay_at 1 level))) (min (word s (delay_at 2 level)) (word s (delay_at 3 level)))

-- the tick of the first load after a trigger: 0, the trigger itself, where some channel's delay is 10 or less, else the tick (shortest
-- delay − 10) after it
abbrev pub first_load : List ℕ → ℕ → ℕ
first_load s level = shortest s level - lead

-- 'at the first load that follows a trigger'
pub record ShownOnTime : Type 0 where
  -- that tick is the first load's
  pub loads : (st : State) (x : Act) (level : ℕ) (xs : List Act) → LastTrigger st x level xs
      → loads_after st x xs ≡ leb (first_load (act st x).settings level) (ticks_in xs)
  -- before it the words are what they were, from it on they are the trigger's
  pub shows : (st : State) (x : Act) (level : ℕ) (xs : List Act) → LastTrigger st x level xs
      → active_in (acts (act st x) xs) ≡ cond (leb (first_load (act st x).settings level) (ticks_in xs)) (cause level (event_by x)) (active_in (just_before st x))

-- ---- what is loaded

-- After any history of a fresh card, whatever a channel loads, by counting or at a trigger, is table, scale factor, offset and tone
-- for the level that 0x4210 then shows; a channel that has yet to load may hold those of an older level
pub record LoadNamed (st : State) : Type 0 where
  pub counting : (w : List ℕ) (c : ℕ) → c < 4 → load_among (in_tick w st c) ≡ true → in_tick w st c ≡ Load (loaded_for st.settings c (read_back (advanced w st) 0x4210)) ∷ []
  pub trigger : (x : Act) (c : ℕ) → c < 4 → load_among (at_trigger st x c) ≡ true
      → at_trigger st x c ≡ Load (loaded_for st.settings c (read_back (act st x) 0x4210)) ∷ []

unfoldable pub LoadsNamed : Type 0
LoadsNamed = (edition : Edition) (s l : List ℕ) (xs : List Act) → LoadNamed (acts (fresh_of edition s l) xs)
