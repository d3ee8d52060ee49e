-- `card::run`: a tick more.
use Rattle.std.proofs.Common.{◌≡◌, refl, sym, ap, ◌∙◌}
use Rattle.card.specs.Card.{State, state}
use Rattle.card.specs.Tick.{advanced, ticks}
use Rattle.card.proofs.Ticks.{same_state, one_more}
use Rattle.card.proofs.run.Goals as goal

pub loop-preserved : goal.loop-preserved
unfolding advanced
loop-preserved c =
    let t = c.loop in
    let s = c.args.settings.now in
    let v = c.args.waves.now in
    let st : State = state t.card s t.tables in
    let e : state c.advance.new.card s c.advance.new.tables ≡ advanced v st = same_state (advanced v st) c.advance.ensures.0 c.advance.ensures.1 refl in
    ap (ticks v _) e ∙ sym (one_more v _ t.counter st c.loop-test.true) ∙ t.invariant
