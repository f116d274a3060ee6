-- Both sides are as they were lent.
use Rattle.std.proofs.Common.{arith}
use Rattle.boxes.proofs.MeetingLaws.{meets_any}
use Rattle.boxes.proofs.meets_on_axis.Goals as goal

pub returns-then-some_at_most : goal.returns-then-some_at_most
returns-then-some_at_most c = grind (arith, meets_any)
