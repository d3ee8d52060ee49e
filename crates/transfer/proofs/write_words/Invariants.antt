-- `transfer::write_words`: what is left to do from here equals the whole.
use Rattle.std.proofs.Common.{◌≡◌, ◌+◌, drop}
use Rattle.card.specs.Card.{state}
use Rattle.transfer.specs.Transfer.{write_words}
use Rattle.transfer.proofs.write_words.Given as goal

abbrev pub invariant-loop-i : goal.invariant-loop-i
invariant-loop-i l =
    write_words (state l.card l.settings l.tables) (l.start + l.i-counter) l.last l.i-counter (drop l.i-counter l.words) ≡ write_words (state l.fn.card l.fn.settings l.fn.tables) l.start l.last 0 l.words
