-- `transfer::read_words`: what is left to read from here equals the whole.
use Rattle.std.proofs.Common.{◌≡◌, ◌+◌, ◌-◌, length}
use Rattle.transfer.specs.Transfer.{read_words}
use Rattle.transfer.proofs.read_words.Given as goal

abbrev pub invariant-loop-i : goal.invariant-loop-i
invariant-loop-i l =
    read_words l.settings l.card (l.start + l.i) l.last l.i (length l.fn.words - l.i) l.words ≡ read_words l.settings l.card l.start l.last 0 (length l.fn.words) l.fn.words
