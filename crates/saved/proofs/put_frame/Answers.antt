-- `saved::put_frame`: 01, the start, the words and LF, one after the other.
use Rattle.std.proofs.Common.{◌+◌, List, ℕ, ap, ◌∙◌}
use Rattle.std.proofs.lemmas.List.Edits.{sets}
use Rattle.digits.specs.Digits.{hex_all}
use Rattle.saved.proofs.Text.{line_laid, words_are}
use Rattle.saved.proofs.put_frame.Goals as goal

pub returns : goal.returns
returns c =
    let a = c.args in
    let w = ap (λ (l : List ℕ). sets c.put4.new.out (a.at + 6) (hex_all l)) (words_are a.settings.now a.x.first a.x.count c.requires.0) in
    line_laid a.settings.now a.x.first a.x.count a.at a.out.now c.put2.ensures c.put4.ensures (c.put_words.ensures ∙ w) c.put.ensures
