-- The rule of accepted triggers, and what the event image shows.
use Rattle.std.specs.Prelude.{◌≡◌, List, ℕ, ◌+◌, ◌<◌, length, get_or, Some}
use Rattle.slots.specs.Slots.{slot_of, level_of}
use Rattle.card.specs.Card.{State}
use Rattle.history.specs.History.{Act, Tick, Write, Ask, HandIn, Renew, read_back, words_done, trigger_by}
use Rattle.history.specs.Sound.{Sound}

-- ---- the rule

-- some slot of a level holds the event
pub record Holds (s : List ℕ) (level event : ℕ) : Type 0 where
  pub slot : ℕ
  pub inside : slot < 256
  pub of : level_of slot ≡ level
  pub holds : slot_of s slot ≡ event

-- 'An event other than 0xFE, received while 0x4200 is 1 and held by some slot of level L, is an accepted trigger of L'
pub record ByClock (st : State) (event level : ℕ) : Type 0 where
  pub real : event ≡ 0xFE → ⊥
  pub enabled : read_back st 0x4200 ≡ 1
  pub held : Holds st.settings level event

-- 'so is every word done at 0x4202, whatever 0x4200 holds'
pub record ByHand (start : ℕ) (done : List ℕ) (level : ℕ) : Type 0 where
  pub place : ℕ
  pub inside : place < length done
  pub address : start + place ≡ 0x4202
  pub word : get_or done place 0 ≡ level

abbrev pub Accepted : State → Act → ℕ → Type 0
Accepted st (Tick waves event) level = ByClock st event level
Accepted st (Write start count ws) level = ByHand start (words_done st start count ws) level
Accepted st (Ask what) level = ⊥
Accepted st (HandIn to ws) level = ⊥
Accepted st (Renew how) level = ⊥

-- the triggers of a history are exactly those of the rule, whatever the channels are doing
pub record TriggerRule : Type 0 where
  pub accepted : (st : State) → Sound st → (x : Act) (level : ℕ) → Accepted st x level → trigger_by st x ≡ Some level
  pub only : (st : State) (x : Act) (level : ℕ) → trigger_by st x ≡ Some level → Accepted st x level

-- 'the event (0xFE if manual)'
abbrev pub event_by : Act → ℕ
event_by (Tick waves event) = event
event_by (Write start count ws) = 0xFE
event_by (Ask what) = 0xFE
event_by (HandIn to ws) = 0xFE
event_by (Renew how) = 0xFE

-- ---- the event image

-- 'image word of event e: 0x0080 + level if e is not 0xFE and some slot holds it, else 0'
pub record ImageShown (st : State) (event : ℕ) : Type 0 where
  pub held : (level : ℕ) → (event ≡ 0xFE → ⊥) → Holds st.settings level event → read_back st (0x4100 + event) ≡ 0x0080 + level
  pub null : event ≡ 0xFE → read_back st (0x4100 + event) ≡ 0
  pub free : ((level : ℕ) → Holds st.settings level event → ⊥) → read_back st (0x4100 + event) ≡ 0

unfoldable pub ImageRight : Type 0
ImageRight = (st : State) → Sound st → (event : ℕ) → event < 256 → ImageShown st event
