-- Demand 2 of the level counts: 'triggers since the last clearing, modulo 65,536'.
use Rattle.std.specs.Prelude.{◌≡◌, Bool, true, false, ◌||◌, cond, List, [], ◌∷◌, ℕ, ◌+◌, ◌%◌, ◌<◌, eqb, Option, Some, None}
use Rattle.sum.specs.declared.Edition.{Edition}
use Rattle.card.specs.Card.{State}
use Rattle.card.specs.Reset.{fresh_of}
use Rattle.history.specs.History.{Act, Tick, Write, Ask, HandIn, Renew, act, acts, read_back, words_done, trigger_by}

-- one of the words done from address a on is done at address b
abbrev pub does_at : ℕ → ℕ → List ℕ → Bool
does_at b a [] = false
does_at b a (v ∷ vs) = eqb a b || does_at b (a + 1) vs

-- 0x4220 to 0x423F: 'any, sets 0'; a reset clears them all
abbrev pub clears : State → ℕ → Act → Bool
clears st level (Tick waves event) = false
clears st level (Write start count ws) = does_at (0x4220 + level) start (words_done st start count ws)
clears st level (Ask what) = false
clears st level (HandIn to ws) = false
clears st level (Renew how) = true

-- n triggers of a level before an act, which is a trigger, or clears the count, or neither
abbrev pub tally : Option ℕ → Bool → ℕ → ℕ → ℕ
tally (Some l) cleared level n = cond (eqb level l) (n + 1) n
tally None cleared level n = cond cleared 0 n

-- the accepted triggers of a level since its last clearing or reset, with n before the acts
abbrev pub triggers_since : ℕ → State → List Act → ℕ → ℕ
triggers_since level st [] n = n
triggers_since level st (x ∷ xs) n = triggers_since level (act st x) xs (tally (trigger_by st x) (clears st level x) level n)

-- after any history of a fresh card
unfoldable pub CountsRight : Type 0
CountsRight =
    (edition : Edition) (s l : List ℕ) (xs : List Act) (level : ℕ) → level < 32
    → read_back (acts (fresh_of edition s l) xs) (0x4220 + level) ≡ triggers_since level (fresh_of edition s l) xs 0 % 65536
