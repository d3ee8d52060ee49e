-- Document 02, Four: 'Fed to a reset card the lines are all answered 0 and leave the same settings. Two cards give equal lines exactly when
-- these settings are equal.'
use Rattle.std.specs.Prelude.{◌≡◌, true, List, [], ◌∷◌, ◌++◌, map, ℕ, length}
use Rattle.sum.specs.declared.Edition.{Edition}
use Rattle.map.specs.Map.{register_of}
use Rattle.map.specs.Settings.{is_setting}
use Rattle.card.specs.Card.{State}
use Rattle.card.specs.Reset.{waves_reset, fresh_of}
use Rattle.line.specs.Answer.{head_of}
use Rattle.line.specs.Session.{lines_of, answers_of, played_of, session}
use Rattle.saved.specs.declared.Span.{Span}
use Rattle.saved.specs.Saved.{frames, frame_text, saved_text}
use Rattle.saved.specs.Laws.{within}
use Rattle.history.specs.History.{read_back}
use Rattle.history.specs.Sound.{Sound}

-- ---- fed to a fresh card

-- 'all answered 0', all words of each frame processed
abbrev pub answered_all : List Span → List ℕ
answered_all [] = []
answered_all (x ∷ xs) = (head_of 0x81 0 x.count ++ 10 ∷ []) ++ answered_all xs

-- two cards have the same settings, those that no write alters among them
abbrev pub SameSettings : State → State → Type 0
SameSettings x y = (a : ℕ) → is_setting (register_of a) ≡ true → read_back x a ≡ read_back y a

-- a fresh card of an edition, whatever the lent words were, that a text was then fed to, and what it answered
abbrev pub fed_to : Edition → List ℕ → List ℕ → List ℕ → List ℕ → State
fed_to edition s l w text = played_of (waves_reset w) (fresh_of edition s l) (lines_of text)

abbrev pub answers_to : Edition → List ℕ → List ℕ → List ℕ → List ℕ → List ℕ
answers_to edition s l w text = answers_of (waves_reset w) (fresh_of edition s l) (lines_of text)

-- the lines of the text, whatever the settings are: one for each frame, 173 in all
pub record LinesAre : Type 0 where
  pub each : (s : List ℕ) → lines_of (saved_text s) ≡ map (frame_text s) frames
  pub many : (s : List ℕ) → length (lines_of (saved_text s)) ≡ 173

-- of any reachable card, and a fresh card of either edition whose settings have the 16,960 words that every call has by type
pub record Restored : Type 0 where
  pub answered : (edition : Edition) (st : State) → Sound st → (s l w : List ℕ) → length s ≡ 16960
      → answers_to edition s l w (saved_text st.settings) ≡ answered_all frames
  -- the line program's session among them
  pub line_program : (st : State) → Sound st → (s l w : List ℕ) → length s ≡ 16960 → session s l w (saved_text st.settings) ≡ answered_all frames
  pub settings : (edition : Edition) (st : State) → Sound st → (s l w : List ℕ) → length s ≡ 16960 → SameSettings (fed_to edition s l w (saved_text st.settings)) st
  -- and nothing else of the fresh card changes
  pub rest : (edition : Edition) (st : State) → Sound st → (s l w : List ℕ) → length s ≡ 16960
      → ((fed_to edition s l w (saved_text st.settings)).card ≡ (fresh_of edition s l).card) × ((fed_to edition s l w (saved_text st.settings)).tables ≡ (fresh_of edition s l).tables)
  -- so saving what was fed gives the same lines again
  pub again : (edition : Edition) (st : State) → Sound st → (s l w : List ℕ) → length s ≡ 16960
      → saved_text (fed_to edition s l w (saved_text st.settings)).settings ≡ saved_text st.settings

-- ---- two cards

-- they have the same saved settings, which are those that aren't fixed (`SavedAre`)
abbrev pub SameSaved : State → State → Type 0
SameSaved x y = (a : ℕ) → within frames a ≡ true → read_back x a ≡ read_back y a

-- 'exactly when these settings are equal'; of reachable cards the fixed ones are equal too
pub record EqualLines : Type 0 where
  pub equal : (x y : State) → SameSaved x y → saved_text x.settings ≡ saved_text y.settings
  pub only : (x y : State) → Sound x → Sound y → saved_text x.settings ≡ saved_text y.settings → SameSettings x y
