-- `card::reset_settings`: one channel's scale factors more, and all.
use Rattle.std.proofs.Common.{◌≡◌, ℕ, ◌+◌, ◌*◌, ap, ◌∙◌, arith, rules}
use Rattle.slots.specs.Slots.{filled, erased}
use Rattle.map.specs.Addresses.{scale_at}
use Rattle.card.specs.Reset.{scales_reset}
use Rattle.card.proofs.Resets.{all_filled, scaled, none_scaled, more_scaled, all_scaled}
use Rattle.card.proofs.reset_settings.Goals as goal

pub loop-c-init : goal.loop-c-init
loop-c-init c = none_scaled _

pub loop-c-preserved : goal.loop-c-preserved
loop-c-preserved c =
    let t = c.loop-c in
    let at : t.c * 0x1000 + 0x860 ≡ scale_at t.c 0 = omega arith in
    c.fill-in-loop-c.ensures ∙ ap (λ (a : ℕ). filled 32 t.settings a 0x0100) at ∙ ap (scales_reset t.c) t.invariant ∙ more_scaled t.c _

pub returns : goal.returns
returns c =
    let t = c.loop-c in
    let e : t.c ≡ 4 = omega arith in
    c.erase.ensures ∙ ap erased (t.invariant ∙ ap (λ (n : ℕ). scaled n c.fill.new.self) e ∙ ap (scaled 4) (all_filled 0x4240 c.args.settings.now _ c.told-settings (c.fill.ensures.after (search rules)))) ∙ all_scaled _
