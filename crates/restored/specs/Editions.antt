-- Document 02, Six, of lines: 'the line program's card is edition 1', and 'Saved lines carry no edition'.
use Rattle.std.specs.Prelude.{◌≡◌, List, ℕ}
use Rattle.sum.specs.declared.Edition.{Edition}
use Rattle.sum.specs.declared.Edition.TheVariants.{First}
use Rattle.card.specs.Card.{State}
use Rattle.card.specs.Reset.{fresh_of}
use Rattle.line.specs.Session.{session}
use Rattle.saved.specs.Saved.{save_of}
use Rattle.history.specs.History.{Act, acts}
use Rattle.restored.specs.Restored.{SameSaved, fed_to, answers_to}

pub record LinesAndEditions : Type 0 where
  -- the line program's session is that of a fresh card of edition 1
  pub first : (s l w input : List ℕ) → session s l w input ≡ answers_to First s l w input
  -- and no line changes a card's edition
  pub kept : (edition : Edition) (s l w text : List ℕ) → (fed_to edition s l w text).card.edition ≡ edition
  -- two cards, each of its own edition and with its own history, that have equal settings save equal lines
  pub equal : (edition other : Edition) (s l s' l' : List ℕ) (xs ys : List Act)
      → let x : State = acts (fresh_of edition s l) xs in
      let y : State = acts (fresh_of other s' l') ys in
      SameSaved x y → (buffer : List ℕ) → save_of x.settings buffer ≡ save_of y.settings buffer
