-- `line::answer_read`: the head, and the words that are read behind it.
use Rattle.line.proofs.Frames.{read_put}
use Rattle.line.proofs.answer_read.Goals as goal

pub returns : goal.returns
returns c =
    let a = c.args in
    let r = c.read-answer.ensures in
    read_put a.settings.now a.card a.start a.count c.requires r.0 c.processed-n.ensures a.out.now 0 r.1 c.number.ensures c.put_head.ensures c.put_words.ensures
