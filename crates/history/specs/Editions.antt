-- Document 02, Six: 'The edition is chosen with the fresh card and survives a reset'.
use Rattle.std.specs.Prelude.{◌≡◌, List, [], ◌∷◌}
use Rattle.sum.specs.declared.Edition.{Edition}
use Rattle.card.specs.Card.{State}
use Rattle.card.specs.Reset.{fresh_of, reset_of}
use Rattle.history.specs.History.{FreshCard, Reset, Act, Tick, Write, Ask, HandIn, Renew, edition_by, act, acts}

-- the edition that an act leaves, `before` being the one before it
abbrev pub edition_after : Act → Edition → Edition
edition_after (Tick waves event) before = before
edition_after (Write start count ws) before = before
edition_after (Ask what) before = before
edition_after (HandIn to ws) before = before
edition_after (Renew how) before = edition_by how before

-- the last fresh card's among the acts; `before` where there is none
abbrev pub last_chosen : List Act → Edition → Edition
last_chosen [] before = before
last_chosen (x ∷ xs) before = last_chosen xs (edition_after x before)

pub record EditionKept : Type 0 where
  -- after any history
  pub kept : (st : State) (xs : List Act) → (acts st xs).card.edition ≡ last_chosen xs st.card.edition
  -- the two acts that make a card fresh are what the two calls leave
  pub fresh : (st : State) (edition : Edition) → act st (Renew (FreshCard edition)) ≡ fresh_of edition st.settings st.tables
  pub reset : (st : State) → act st (Renew Reset) ≡ reset_of st
