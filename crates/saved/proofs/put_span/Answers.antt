-- `saved::put_span`: there is room for frame j, and it stands behind the j before it.
use Rattle.std.proofs.Common.{◌-◌, ◌*◌, min, ◌≡◌, ◌∙◌, arith}
use Rattle.saved.specs.Saved.{pieces, cut}
use Rattle.saved.proofs.Text.{length_text, frame_room, frame_more, frame_short}
use Rattle.saved.proofs.put_span.Goals as goal

pub put_frame-end-requires : goal.put_frame-end-requires
put_frame-end-requires c =
    let t = c.loop-j in
    let x = c.args.x in
    let n = c.min.ensures in
    let r = frame_room x t.j (pieces x) (omega (arith, c.div_ceil-j-end.ensures)) in
    let e = length_text c.args.settings.now (cut x 0 t.j) in
    (omega (arith, n, c.requires.0), omega (arith, n, r, e, t.invariant.0.1, t.invariant.2, c.requires.1), omega (arith, t.invariant.1, c.div_ceil-j-end.ensures, c.requires.2, c.requires.3), omega (arith, n))

pub loop-j-preserved : goal.loop-j-preserved
loop-j-preserved c =
    let t = c.loop-j in
    let a = c.args in
    let s = a.settings.now in
    let n : c.min.result ≡ min 64 (a.x.count - 64 * t.j) = omega (arith, c.min.ensures) in
    let e = c.put_frame-end.ensures in
    (frame_more s a.x t.j _ n a.at a.out.now t.invariant.0 e, frame_short s a.x t.j _ n a.at t.invariant.1 e.1, c.put_frame-end.auto.out ∙ t.invariant.2)
