-- Of four entries each is asked; any other list is asked from its front.
use Rattle.std.proofs.Common.{arith}
use Rattle.std.specs.Int.Signed.{le_z}
use Rattle.std.proofs.lemmas.Int.{to_z-of_z}
use Rattle.boxes.proofs.MeetingLaws.{any_of_four}
use Rattle.boxes.proofs.some_at_most.Goals as goal

pub returns-in-len4 : goal.returns-in-len4
returns-in-len4 c =
    record { answer = grind (arith, to_z-of_z, any_of_four (λ z. le_z z c.args.high) c.args.zs.now c.in-len4.len_at_least c.in-len4.len_below) }
