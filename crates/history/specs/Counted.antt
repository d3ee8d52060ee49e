-- 'Counted only when really done': of every word that a write counts, at every address.
use Rattle.std.specs.Prelude.{◌≡◌, true, List, [], ◌∷◌, ℕ, ◌+◌, length}
use Rattle.map.specs.Map.{register_of}
use Rattle.map.specs.Settings.{is_setting}
use Rattle.card.specs.Card.{State}
use Rattle.transfer.specs.Word.{effect_of, perform_of}
use Rattle.transfer.specs.Transfer.{write_of}
use Rattle.history.specs.History.{read_back, words_done}
use Rattle.history.specs.Effects.{Does}

-- the word v at address a makes y of x: what the address says happens, and a setting's word is there
pub record WordDone (x : State) (a v : ℕ) (y : State) : Type 0 where
  pub does : Does x a v y
  pub there : is_setting (register_of a) ≡ true → read_back y a ≡ v

-- words from address a on, each of them done, lead from x to y
abbrev pub EachDone : State → ℕ → List ℕ → State → Type 0
EachDone x a [] y = y ≡ x
EachDone x a (v ∷ vs) y = WordDone x a v (perform_of x a (effect_of (register_of a) v)) × EachDone (perform_of x a (effect_of (register_of a) v)) (a + 1) vs y

-- with 16,960 words of settings, which every call has by the type of what it is lent
unfoldable pub CountedIsDone : Type 0
CountedIsDone =
    (st : State) → length st.settings ≡ 16960 → (start count : ℕ) (ws : List ℕ)
    → EachDone st start (words_done st start count ws) (write_of st start count ws).state
