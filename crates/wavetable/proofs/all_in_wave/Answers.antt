-- `wavetable::all_in_wave`: the chain answers with the library's test of a list, which is `every`.
use Rattle.std.proofs.Common.{◌∙◌, rules, tests}
use Rattle.std.proofs.lemmas.Iterator.{YieldsList-from_slice}
use Rattle.std.proofs.lemmas.Iterator.Search.{all_from_yields_List}
use Rattle.word.proofs.Every.{all_every}
use Rattle.wavetable.specs.Hand.{in_wave}
use Rattle.wavetable.proofs.all_in_wave.Goals as goal

pub returns : goal.returns
returns c =
    let ws = c.args.words.now in
    all_from_yields_List in_wave _ _ _ c.all.ensures.ran (YieldsList-from_slice ws cc) (λ x b q k. search (rules, tests)) ∙ all_every in_wave ws
