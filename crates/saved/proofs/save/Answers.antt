-- `saved::save`: a buffer that is too short stays; else there is room for span k, it stands behind the k before it, and the 54 are all.
use Rattle.std.proofs.Common.{rules, ◌≡◌, ◌<◌, List, length, take, ap, sym, ◌∙◌, subst, arith, Ok}
use Rattle.std.proofs.Math.Nat.{le_antisymm}
use Rattle.std.proofs.Math.Seq.{take_all}
use Rattle.saved.specs.declared.Span.{Span}
use Rattle.saved.specs.Saved.{span, spans, pieces, cut, frames_of, frames, text_of, saved_text, Laid, Kept}
use Rattle.saved.specs.Laws.{bytes_in}
use Rattle.saved.proofs.Text.{length_text, span_room, span_more}
use Rattle.saved.proofs.Frames.{frames_are, too_short, has_room}
use Rattle.saved.proofs.Spans.{many}
use Rattle.saved.proofs.save.Goals as goal

pub returns-then-out-lt-LENGTH : goal.returns-then-out-lt-LENGTH
returns-then-out-lt-LENGTH c =
    let a = c.args in
    let e = too_short a.settings.now a.out.now c.if-out-lt-LENGTH.true in
    (ap (λ (x : Kept). x.answer) (sym e), ap (λ (x : Kept). x.buffer) (sym e))

pub put_span-at-requires : goal.put_span-at-requires
unfolding frames
put_span-at-requires c =
    let x = c.span_at.ensures in
    let t = c.loop-k in
    let s = c.args.settings.now in
    let r = span_room spans t.k (span 0 0) (rw many c.loop-k-test.true) in
    let e = length_text s (frames_of (take t.k spans)) in
    let q = ap (λ (y : Span). bytes_in (cut y 0 (pieces y))) x.value in
    (search rules, omega (arith, q, r, e, frames_are.bytes, t.invariant.0.1, t.invariant.2, c.if-out-lt-LENGTH.false), omega (arith, t.invariant.1, c.loop-k-test.true), x.count_bound.1)

pub loop-k-preserved : goal.loop-k-preserved
loop-k-preserved c =
    let t = c.loop-k in
    let a = c.args in
    let h : t.k < length spans = rw many c.loop-k-test.true in
    let e = c.put_span-at.ensures in
    (span_more a.settings.now spans t.k (span 0 0) h _ c.span_at.ensures.value 0 a.out.now t.invariant.0 e.lays, omega (arith, t.invariant.1, e.upper_bound), c.put_span-at.auto.out ∙ t.invariant.2)

pub returns : goal.returns
unfolding saved_text frames
returns c =
    let t = c.loop-k in
    let a = c.args in
    let s = a.settings.now in
    let k : t.k ≡ 54 = le_antisymm (omega arith) c.loop-k-test.false in
    let l : take t.k spans ≡ spans = take_all t.k spans (omega (arith, k, many)) in
    let d : Laid (saved_text s) 0 a.out.now t.out t.at = subst (λ (l : List Span). Laid (text_of s (frames_of l)) 0 a.out.now t.out t.at) l t.invariant.0 in
    let n : t.at ≡ length (saved_text s) = omega (arith, d.1) in
    let e = has_room s a.out.now c.if-out-lt-LENGTH.false in
    (ap Ok n ∙ ap (λ (x : Kept). x.answer) (sym e), d.0 ∙ ap (λ (x : Kept). x.buffer) (sym e))
