-- `line::feed`: LF ends a line; any other byte goes on with it.
use Rattle.std.proofs.Common.{◌≤◌, ℕ, length, take, get_or, [], arith, ◌∙◌}
use Rattle.card.specs.Card.{state}
use Rattle.line.specs.Session.{Flow, flow, opened, byte_of, feed_of, Feeds}
use Rattle.line.proofs.Flows.{byte_ends, keeps_feeds, feed_more, feeds_more, taken_turn}
use Rattle.line.proofs.feed.Goals as goal
use Rattle.line.proofs.feed.Goals.{then-b-eq10, else-b-eq10}

pub loop-i-preserved : goal.loop-i-preserved
loop-i-preserved c =
    let l = c.loop-i in
    let a = c.args in
    let x = c.if-b-eq10 in
    let t : Flow = opened a.card a.settings.now a.tables.now a.line.now a.held in
    let b : ℕ = get_or a.chunk.now l.i 0 in
    let u : Flow = feed_of a.waves.now t (take l.i a.chunk.now) in
    let turn : Feeds (byte_of a.waves.now u b) 0 a.out.now x.out x.settings x.tables x.line x.at.card x.at.held x.at.end × (x.at.end ≤ length a.out.now) = elim x.branch [
      | then-b-eq10 w ↦
          let e = w.end_line-at.ensures in
          rw (w.settings-is, w.tables-is, w.line-is, w.out-is, w.at-is, e.emptied)
          (feeds_more a.waves.now u b l.invariant.0 (rw (byte_ends a.waves.now (flow (state l.at.card l.settings l.tables) l.line l.at.held []) b w.if-b-eq10.true) e.ends), omega (arith, e.end_bound, c.if-out-at.false, l.invariant.2))
      | else-b-eq10 w ↦
          rw (w.settings-is, w.tables-is, w.line-is, w.out-is, w.at-is)
          (feeds_more a.waves.now u b l.invariant.0 (keeps_feeds a.waves.now l.settings l.tables l.line _ l.out b _ l.at.end l.at.card l.at.held w.if-b-eq10.false w.keep.ensures), l.invariant.1)
    ] in (
      rw (feed_more a.waves.now t a.chunk.now l.i c.loop-i-test.true) turn.0,
      turn.1,
      x.auto.out ∙ l.invariant.2,
      taken_turn a.waves.now (length a.out.now) t a.chunk.now l.i c.loop-i-test.true (omega (arith, l.invariant.0.ends, l.invariant.2, c.if-out-at.false)) l.invariant.3,
    )
