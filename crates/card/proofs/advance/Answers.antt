-- `card::advance`: one channel's tick more, and both passes of all four.
use Rattle.std.proofs.Common.{ap, sym, ◌∙◌, rules, arith}
use Rattle.channel.specs.declared.Ticked.{Ticked}
use Rattle.channel.specs.Channel.{sounded, tick_of}
use Rattle.card.specs.declared.Card.{Card}
use Rattle.card.specs.Card.{All, state, with_channels}
use Rattle.card.specs.Active.{showing}
use Rattle.card.specs.Tick.{advanced}
use Rattle.card.proofs.All.{none, more, all_four, two_passes}
use Rattle.card.proofs.advance.Goals as goal

pub loop-c-init : goal.loop-c-init
loop-c-init c = none _ _ _

pub loop-c-preserved : goal.loop-c-preserved
unfolding tick_of
loop-c-preserved c =
    let e = ap (λ (k : Card). k.edition) c.loop-c.invariant.card in
    let m = rw e at c.move_ramp-t.ensures in
    more _ _ _ _ c.loop-c.invariant (record { channel = c.make_output.ensures ∙ ap (λ (t : Ticked). sounded c.args.waves.now c.loop-c.c t.channel t.gave) m.0; tables = m.1 })

pub returns : goal.returns
unfolding advanced
returns c =
    let a = c.args in
    let r = all_four _ _ _ (search rules) (omega arith) c.loop-c.invariant in
    let e = sym (two_passes a.waves.now (state a.card.now a.settings.now a.tables.now)) in
    (c.show.ensures ∙ ap showing (r.0 ∙ ap (λ (x : All). with_channels a.card.now x.channels) e), r.1 ∙ ap (λ (x : All). x.tables) e)
