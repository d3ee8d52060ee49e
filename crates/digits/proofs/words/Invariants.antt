-- `digits::words`: the words before place i are stored.
use Rattle.std.proofs.Common.{length, ◌≡◌}
use Rattle.std.proofs.lemmas.List.Edits.{sets}
use Rattle.digits.specs.Digits.{words_from}
use Rattle.digits.proofs.words.Given as goal

abbrev pub invariant-loop-i : goal.invariant-loop-i
invariant-loop-i l = (l.words ≡ sets l.initial.words 0 (words_from l.at l.i l.s)) × (length l.words ≡ length l.initial.words)
