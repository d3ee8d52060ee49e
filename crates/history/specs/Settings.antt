-- Demand 2 of the settings: 'a setting written reads back the same until a write, an erase or a reset changes it'.
use Rattle.std.specs.Prelude.{◌≡◌, Bool, true, ◌&&◌, cond, List, [], ◌∷◌, ℕ, ◌+◌, ◌%◌, eqb, leb, ltb, length}
use Rattle.sum.specs.declared.Edition.{Edition}
use Rattle.map.specs.Map.{register_of}
use Rattle.map.specs.Settings.{is_setting}
use Rattle.card.specs.Card.{State}
use Rattle.card.specs.Reset.{fresh_of}
use Rattle.history.specs.History.{Act, Tick, Write, Ask, HandIn, Renew, act, acts, read_back, words_done}

-- 'trigger slots', 'scale factors'
abbrev pub is_slot : ℕ → Bool
is_slot b = leb 0x4000 b && ltb b 0x4100

abbrev pub is_scale : ℕ → Bool
is_scale b = ltb b 0x4000 && (leb 0x860 (b % 0x1000) && ltb (b % 0x1000) 0x880)

-- after a reset: 'scale factors 0x0100', 'trigger slots .. are 0xFE', 'all else 0'
unfoldable pub reset_word : ℕ → ℕ
reset_word b = cond (is_slot b) 0xFE (cond (is_scale b) 0x0100 0)

-- what a word v done at address a leaves at address b, where w was: v there; 0xFE in a slot, if it is the erase; else w
unfoldable pub word_left : ℕ → ℕ → ℕ → ℕ → ℕ
word_left b a v w = cond (eqb a b) v (cond (eqb a 0x4201 && (eqb v 1 && is_slot b)) 0xFE w)

-- and words done from address a on, one after the other
abbrev pub left_at : ℕ → ℕ → List ℕ → ℕ → ℕ
left_at b a [] w = w
left_at b a (v ∷ vs) w = left_at b (a + 1) vs (word_left b a v w)

abbrev pub left_by : ℕ → State → Act → ℕ → ℕ
left_by b st (Tick waves event) w = w
left_by b st (Write start count ws) w = left_at b start (words_done st start count ws) w
left_by b st (Ask what) w = w
left_by b st (HandIn to ws) w = w
left_by b st (Renew how) w = reset_word b

-- the last word done at b, or what an erase or a reset left there after it; w before the acts
abbrev pub last_word : ℕ → State → List Act → ℕ → ℕ
last_word b st [] w = w
last_word b st (x ∷ xs) w = last_word b (act st x) xs (left_by b st x w)

-- at every address that has a setting, of 16,960 words, as every call has them by type
pub record SettingsKept : Type 0 where
  -- after any history the last word done there, or what an erase or a reset left
  pub kept : (st : State) → length st.settings ≡ 16960 → (b : ℕ) → is_setting (register_of b) ≡ true
      → (xs : List Act) → read_back (acts st xs) b ≡ last_word b st xs (read_back st b)
  -- after a reset its reset value
  pub fresh : (edition : Edition) (s l : List ℕ) → length s ≡ 16960 → (b : ℕ) → is_setting (register_of b) ≡ true → read_back (fresh_of edition s l) b ≡ reset_word b
