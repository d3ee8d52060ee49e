-- `panel::plot_from`: a point at which the ramp ended before shows nothing; the others show their volts and microseconds, exactly.
use Rattle.std.proofs.Common.{◌≡◌, ◌≤◌, ℕ, true, pos, sym, ap, ◌∙◌, subst, arith, Some}
use lib.Ieee.{Float, binary64, of_int}
use Rattle.word.specs.Word.{signed_of}
use Rattle.word.specs.Table.{value_at, is_end}
use Rattle.panel.specs.Shown.{volts_of, Times}
use Rattle.panel.specs.Plots.{reached, since}
use Rattle.panel.proofs.Exact.{whole_exact}
use Rattle.panel.proofs.Plotting.{ended, no_more, there}
use Rattle.panel.proofs.plot_from.Goals as goal

pub returns-then-ends : goal.returns-then-ends
returns-then-ends c =
    let a = c.args in
    let n = c.loop-n.n in
    let e = ap (is_end n) (sym c.get.ensures) ∙ sym c.ends.ensures ∙ c.if-ends.true in
    (no_more a.words.now a.first a.point (ended a.words.now a.first n a.point c.loop-n-test.true e), tt)

pub returns : goal.returns
returns c =
    let a = c.args in
    let t = c.loop-n in
    let e : t.n ≡ a.point = omega arith in
    let m : t.micros ≡ since a.words.now a.first a.point = t.invariant.0 ∙ ap (since a.words.now a.first) e in
    let small : since a.words.now a.first a.point ≤ 41287050 = omega arith in
    let v : c.get-2.result ≡ value_at a.words.now a.first a.point = c.get-2.ensures in rw c.from.ensures (
      ap (λ (x : Float). Some (record { volts = x; micros = of_int binary64 (pos t.micros) })) (c.volts.ensures.0 ∙ ap volts_of v)
          ∙ ap (λ (j : ℕ). Some (record { volts = volts_of (value_at a.words.now a.first a.point); micros = of_int binary64 (pos j) })) m
          ∙ there a.words.now a.first a.point (subst (λ (j : ℕ). reached a.words.now a.first j ≡ true) e t.invariant.2),
      (
        subst (λ (w : ℕ). Times c.volts.result 32768 (signed_of w) 10) v c.volts.ensures.1,
        subst (λ (j : ℕ). Times (of_int binary64 (pos j)) 1 (pos (since a.words.now a.first a.point)) 1) (sym m) (whole_exact (since a.words.now a.first a.point) (omega arith)),
        small,
      ),
    )
