-- Where there is room, each list is copied whole.
use lib.ListN.{length}
use Rattle.refusal.proofs.AnswerLaws.{required-passed}
use Rattle.curve.proofs.HandingLaws.{copied-whole}
use Rattle.curve.proofs.ListLaws.{lists-same}
use Rattle.curve.proofs.RoomLaws.{enough-each}
use Rattle.curve.proofs.Lent.receive.Goals as goal

pub returns-clause-result : goal.returns-clause-result
returns-clause-result c =
    let a = c.args in
    let each = enough-each (length a.knots.now) (length a.xs.now) (length a.ys.now) (length a.self.knots.now) (length a.self.xs.now) (length a.self.ys.now) (required-passed _ _ _ c.in_ok-room.ensures.answer) in lists-same
    (copied-whole a.knots.now a.self.knots.now c.copy_into.new.to each.0 c.copy_into.ensures.result)
    (copied-whole a.xs.now a.self.xs.now c.copy_into-2.new.to each.1 c.copy_into-2.ensures.result)
    (copied-whole a.ys.now a.self.ys.now c.copy_into-3.new.to each.2 c.copy_into-3.ensures.result)
