-- What is known after some bytes of a chunk have been served: all but what was written, which no promise can speak of.
use Rattle.std.specs.Prelude.{◌≡◌, List, ℕ, ◌≤◌, min, length, take, Result, IfOk}
use Rattle.card.specs.declared.Card.{Card}
use Rattle.card.specs.Card.{state}
use Rattle.line.specs.Session.{Flow, most, found, feed_of}
use Rattle.rampcard.specs.declared.Session.{Session}

-- the card, the lent words and the open line are those of the bytes taken, fed one after the other, with the wave tables w
pub record Taken (w : List ℕ) (t : Flow) (chunk settings tables line : List ℕ) (card : Card) (held taken : ℕ) : Type 0 where
  pub same : state card settings tables ≡ (feed_of w t (take taken chunk)).state
  pub lined : line ≡ (feed_of w t (take taken chunk)).line
  pub holds : min held most ≡ (feed_of w t (take taken chunk)).held
  pub within : taken ≤ length chunk

-- and they are all of the chunk's bytes where the program goes on, all answers being written
pub record Served {A E : Type 0} (w : List ℕ) (t : Flow) (chunk settings tables line : List ℕ) (card : Card) (held : ℕ) (r : Result A E) : Type 0 where
  pub taken : ℕ
  pub takes : Taken w t chunk settings tables line card held taken
  pub whole : IfOk r (λ _. length chunk ≤ taken)

-- of a call: the session that it finds, and the one that it leaves
abbrev pub Serves : {A E : Type 0} → Session → Session → List ℕ → Result A E → Type 0
Serves x y chunk r = Served x.waves (found x.card x.settings x.tables x.line x.held) chunk y.settings y.tables y.line y.card y.held r
