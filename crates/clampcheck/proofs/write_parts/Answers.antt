-- What was put at the front of the text is part k of the text of the job.
use mathlib.Core.Path.{◌≡◌}
use Prim.Native.Nat.{◌≤◌}
use native.Mathlib.Omega.{arith}
use lib.ListN.{length, take}
use Rattle.curve.specs.Lists.{lists}
use Rattle.digits.proofs.PutLaws.{put_front}
use Rattle.report.specs.Part.{told, part_put}
use Rattle.job_text.proofs.TextLaws.{parts-are-the-text}
use Rattle.clampcheck.proofs.write_parts.Goals.{After-put_part-n}
use Rattle.clampcheck.proofs.write_parts.Goals as goal

-- the part at the front of the text
front : (c : After-put_part-n) → let a = c.args in let call = c.put_part-n in (call.result ≤ length call.new.text) × (take call.result call.new.text ≡ part_put (told a.answer) (lists a.knots.now a.xs.now a.ys.now) a.sides.now c.loop-k.k (length c.loop-k.text))
front c = put_front (rw c.told-told.ensures.answer at c.put_part-n.ensures.result)

pub write_part-written-requires : goal.write_part-written-requires
write_part-written-requires c = let a = c.args in
    let loop = c.loop-k in (
      omega arith,
      rw (front (goal.at.write_part-written-requires c).After-put_part-n).1
          (parts-are-the-text a.job.now a.answer (lists a.knots.now a.xs.now a.ys.now) a.sides.now loop.k (length loop.text) c.requires.0 (omega (arith, loop.invariant.1, c.requires.1))),
    )
