-- `saved::put_words`: four digits more stand behind those of the words before.
use Rattle.std.proofs.Common.{rules, ◌+◌, ◌*◌, List, ℕ, get_or, ap, ◌∙◌}
use Rattle.std.proofs.lemmas.List.Edits.{sets}
use Rattle.digits.specs.Digits.{hex4}
use Rattle.digits.proofs.Digits.{hex_all_more}
use Rattle.saved.proofs.Text.{four_stores}
use Rattle.saved.proofs.put_words.Goals as goal

pub loop-i-preserved : goal.loop-i-preserved
loop-i-preserved c =
    let t = c.loop-i in
    let a = c.args in
    let w = get_or a.words.now t.i 0 in (
      rw c.from-w.ensures (four_stores t.out (a.at + 4 * t.i) w) ∙ ap (λ (l : List ℕ). sets l (a.at + 4 * t.i) (hex4 w)) t.invariant.0 ∙ hex_all_more a.out.now a.at a.words.now t.i (search rules),
      search rules,
    )
