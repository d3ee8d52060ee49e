-- `digits::all_digits`: the library's test of every byte is the definition's.
use Rattle.std.proofs.Common.{rules, tests, ◌∙◌}
use Rattle.std.proofs.lemmas.Iterator.{YieldsList-from_slice}
use Rattle.std.proofs.lemmas.Iterator.Search.{all_from_yields_List}
use Rattle.word.proofs.Every.{all_every}
use Rattle.digits.specs.Digits.{is_digit}
use Rattle.digits.proofs.all_digits.Goals as goal

pub returns : goal.returns
returns c =
    let xs = c.args.s.now in
    all_from_yields_List is_digit _ _ _ c.all.ensures.ran (YieldsList-from_slice xs cc) (λ x b q k. search (rules, tests)) ∙ all_every is_digit xs
