-- `digits::put_words`: the words before place i are written.
use Rattle.std.proofs.Common.{length, ◌≡◌, take}
use Rattle.std.proofs.lemmas.List.Edits.{sets}
use Rattle.digits.specs.Digits.{hex_all}
use Rattle.digits.proofs.put_words.Given as goal

abbrev pub invariant-loop-i : goal.invariant-loop-i
invariant-loop-i l = (l.out ≡ sets l.initial.out l.at (hex_all (take l.i l.words))) × (length l.out ≡ length l.initial.out)
