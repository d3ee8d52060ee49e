-- A history of the card: ticks with their events, transfers, saves, checks, wave tables handed in, resets and fresh cards, one after the other.
use Rattle.std.specs.Prelude.{◌≡◌, Bool, true, false, cond, List, [], ◌∷◌, ℕ, zero, suc, ◌+◌, ◌<◌, eqb, take, Option, Some, None}
use Rattle.sum.specs.declared.Edition.{Edition}
use Rattle.card.specs.Card.{State}
use Rattle.card.specs.Trigger.{accepted_of}
use Rattle.card.specs.Tick.{tick_with}
use Rattle.card.specs.Reset.{fresh_of}
use Rattle.map.specs.Map.{register_of}
use Rattle.transfer.specs.Word.{effect_of, perform_of, read_word}
use Rattle.transfer.specs.Transfer.{processed_of, write_of}

-- what is asked of the card: it answers, and nothing of it changes
pub data Question : Type 0 where
  -- a read: start, count and the words of its slice
  Read : ℕ → ℕ → List ℕ → Question
  -- its settings as lines, into a buffer
  Save : List ℕ → Question
  -- whether they keep the profile
  Check : Question

-- what makes the card fresh
pub data Renewal : Type 0 where
  -- a fresh card of an edition, in the place of the one before
  FreshCard : Edition → Renewal
  Reset : Renewal

pub data Act : Type 0 where
  -- a tick with the wave tables lent to it, and its event, 0xFE if there is none
  Tick : List ℕ → ℕ → Act
  -- a write: start, count and words
  Write : ℕ → ℕ → List ℕ → Act
  Ask : Question → Act
  -- a wave table for a channel: its words change no part of the state, only the wave tables beside it (`specs/Waves`)
  HandIn : ℕ → List ℕ → Act
  Renew : Renewal → Act

-- 'The edition is chosen with the fresh card and survives a reset'
abbrev pub edition_by : Renewal → Edition → Edition
edition_by (FreshCard edition) before = edition
edition_by Reset before = before

abbrev pub act : State → Act → State
act st (Tick waves event) = tick_with waves st event
act st (Write start count ws) = (write_of st start count ws).state
-- a read 'has no other effect': `read_of` answers with words alone, `save_of` with bytes alone, and `verdict_of` with a verdict
act st (Ask what) = st
act st (HandIn to ws) = st
act st (Renew how) = fresh_of (edition_by how st.card.edition) st.settings st.tables

abbrev pub acts : State → List Act → State
acts st [] = st
acts st (x ∷ xs) = acts (act st x) xs

-- N ticks, no event
abbrev pub idle : List ℕ → ℕ → List Act
idle waves zero = []
idle waves (suc n) = Tick waves 0xFE ∷ idle waves n

-- the word that a read gives at an address
abbrev pub read_back : State → ℕ → ℕ
read_back st a = read_word st.settings st.card a

-- a rule of every word of a list
abbrev pub Each : (ℕ → Type 0) → List ℕ → Type 0
Each Q [] = Unit
Each Q (v ∷ vs) = Q v × Each Q vs

-- 'words have 16 bits': those of every write
abbrev pub Words16 : List Act → Type 0
Words16 [] = Unit
Words16 (Tick waves event ∷ xs) = Words16 xs
Words16 (Write start count ws ∷ xs) = Each (λ v. v < 65536) ws × Words16 xs
Words16 (Ask what ∷ xs) = Words16 xs
Words16 (HandIn to ws ∷ xs) = Words16 xs
Words16 (Renew how ∷ xs) = Words16 xs

-- ---- the words of a write

-- the words that a write does: the first of them, as many as it says
abbrev pub words_done : State → ℕ → ℕ → List ℕ → List ℕ
words_done st start count ws = take (processed_of (write_of st start count ws).answer) ws

-- words done from address a on, one after the other, each with all its effects
abbrev pub done_from : State → ℕ → List ℕ → State
done_from st a [] = st
done_from st a (v ∷ vs) = done_from (perform_of st a (effect_of (register_of a) v)) (a + 1) vs

-- ---- triggers

-- the level written at 0x4202 by words done from address a on
abbrev pub manual_among : ℕ → List ℕ → Option ℕ
manual_among a [] = None
manual_among a (v ∷ vs) = cond (eqb a 0x4202) (Some v) (manual_among (a + 1) vs)

-- the level of the accepted trigger that an act is: 'an event .. is an accepted trigger of L; so is every word done at 0x4202'
abbrev pub trigger_by : State → Act → Option ℕ
trigger_by st (Tick waves event) = accepted_of st.settings event
trigger_by st (Write start count ws) = manual_among start (words_done st start count ws)
trigger_by st (Ask what) = None
trigger_by st (HandIn to ws) = None
trigger_by st (Renew how) = None

-- a reset, or a fresh card in its place
abbrev pub is_reset : Act → Bool
is_reset (Tick waves event) = false
is_reset (Write start count ws) = false
is_reset (Ask what) = false
is_reset (HandIn to ws) = false
is_reset (Renew how) = true

-- 'with no trigger accepted after it and no reset'
pub record Calm (st : State) (x : Act) : Type 0 where
  pub no_trigger : trigger_by st x ≡ None
  pub no_reset : is_reset x ≡ false

abbrev pub Quiet : State → List Act → Type 0
Quiet st [] = Unit
Quiet st (x ∷ xs) = Calm st x × Quiet (act st x) xs

-- ---- ticks

abbrev pub ticks_in : List Act → ℕ
ticks_in [] = 0
ticks_in (Tick waves event ∷ xs) = suc (ticks_in xs)
ticks_in (Write start count ws ∷ xs) = ticks_in xs
ticks_in (Ask what ∷ xs) = ticks_in xs
ticks_in (HandIn to ws ∷ xs) = ticks_in xs
ticks_in (Renew how ∷ xs) = ticks_in xs

-- the acts before the n-th tick; none before the 0-th, which is the trigger
abbrev pub until : ℕ → List Act → List Act
until zero xs = []
until (suc n) [] = []
until (suc zero) (Tick waves event ∷ xs) = []
until (suc (suc n)) (Tick waves event ∷ xs) = Tick waves event ∷ until (suc n) xs
until (suc n) (Write start count ws ∷ xs) = Write start count ws ∷ until (suc n) xs
until (suc n) (Ask what ∷ xs) = Ask what ∷ until (suc n) xs
until (suc n) (HandIn to ws ∷ xs) = HandIn to ws ∷ until (suc n) xs
until (suc n) (Renew how ∷ xs) = Renew how ∷ until (suc n) xs

-- the wave tables of the n-th tick; z, those of the tick that follows the acts, where they have none
abbrev pub waves_on : List ℕ → ℕ → List Act → List ℕ
waves_on z zero xs = z
waves_on z (suc n) [] = z
waves_on z (suc zero) (Tick waves event ∷ xs) = waves
waves_on z (suc (suc n)) (Tick waves event ∷ xs) = waves_on z (suc n) xs
waves_on z (suc n) (Write start count ws ∷ xs) = waves_on z (suc n) xs
waves_on z (suc n) (Ask what ∷ xs) = waves_on z (suc n) xs
waves_on z (suc n) (HandIn to ws ∷ xs) = waves_on z (suc n) xs
waves_on z (suc n) (Renew how ∷ xs) = waves_on z (suc n) xs
