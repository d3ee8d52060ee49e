-- `line::end_line`: the bytes that are held are answered, and LF comes behind.
use Rattle.std.proofs.Common.{rules}
use Rattle.card.specs.Card.{State, state}
use Rattle.line.proofs.Flows.{laid_in_rest, end_feeds}
use Rattle.line.proofs.end_line.Goals as goal

pub returns-clause-ends : goal.returns-clause-ends
returns-clause-ends c =
    let a = c.args in
    let st : State = state a.at.card a.settings.now a.tables.now in
    (end_feeds a.waves.now st a.line.now a.at.held _ a.at.end (search rules) (laid_in_rest _ a.at.end a.out.now c.answer_line-a.ensures) c.put.ensures).0
