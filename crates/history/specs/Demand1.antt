-- Demand 1 of transfers, of wave tables and of saves: 'A bad one gets its number from document 01, checked in the order given there. Words
-- before the stopping word are done with all their effects, and nothing else changes.' A check is never refused.
use Rattle.std.specs.Prelude.{◌≡◌, true, List, ℕ}
use Rattle.map.specs.declared.Register.TheVariants as R
use Rattle.card.specs.Card.{State}
use Rattle.transfer.specs.Word.{held_at}
use Rattle.saved.specs.Saved.{save_of}
use Rattle.profile.specs.Laws.{VerdictRight}
use Rattle.transfer.specs.Transfer.{write_of, read_of}
use Rattle.history.specs.Numbers.{WriteAnswered, ReadAnswered}
use Rattle.history.specs.Effects.{AllEffects}
use Rattle.history.specs.Counted.{CountedIsDone}
use Rattle.history.specs.Triggers.{Holds}
use Rattle.history.specs.Waves.{WaveTables}
use Rattle.history.specs.Saves.{SaveAnswered}

-- 7: 'unless a slot of a different level holds it'; 0xFE is null
pub record HeldElsewhere (s : List ℕ) (level event : ℕ) : Type 0 where
  pub real : event ≡ 0xFE → ⊥
  pub other : ℕ
  pub different : other ≡ level → ⊥
  pub held : Holds s other event

pub record Demand1 : Type 0 where
  -- every transfer in every state: its number and words processed, and what it comes to
  pub write : (st : State) (start count : ℕ) (ws : List ℕ) → WriteAnswered st start count ws (write_of st start count ws)
  pub read : (st : State) (start count : ℕ) (ws : List ℕ) → ReadAnswered st start count ws (read_of st.settings st.card start count ws)
  -- what a word that is done does, and that every word counted is done
  pub effects : AllEffects
  pub counted : CountedIsDone
  -- every wave table handed in
  pub tables : WaveTables
  -- every save
  pub saves : (st : State) (buffer : List ℕ) → SaveAnswered st.settings buffer (save_of st.settings buffer)
  -- every check gets its verdict, with the card's own edition
  pub checks : (st : State) → VerdictRight st.card.edition st.settings
  -- the case of 7, in the paper's words
  pub seven : (s : List ℕ) (level event : ℕ) → held_at s (R.Slot level) event ≡ true → HeldElsewhere s level event
  pub seven_only : (s : List ℕ) (level event : ℕ) → HeldElsewhere s level event → held_at s (R.Slot level) event ≡ true
