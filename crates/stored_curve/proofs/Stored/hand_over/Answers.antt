-- Refused for room and nothing changed, or the lists that were read.
use Rattle.std.proofs.Common.{rules}
use Rattle.curve.specs.Lists.{lists}
use Rattle.stored_curve.proofs.RoomLaws.{room_told}
use Rattle.stored_curve.proofs.Stored.hand_over.Goals as goal

pub returns-in_err-room-clause-answer : goal.returns-in_err-room-clause-answer
returns-in_err-room-clause-answer c =
    let a = c.args in
    let h = room_told a.self.bytes.now a.self.layout.knots a.self.layout.xs a.self.layout.ys (lists a.into.knots.now a.into.xs.now a.into.ys.now) _ c.in_err-room.ensures.answer in search rules

pub returns-clause-answer : goal.returns-clause-answer
returns-clause-answer c =
    let a = c.args in
    room_told a.self.bytes.now a.self.layout.knots a.self.layout.xs a.self.layout.ys (lists a.into.knots.now a.into.xs.now a.into.ys.now) _ c.in_ok-room.ensures.answer
