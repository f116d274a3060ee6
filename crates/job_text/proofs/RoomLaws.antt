-- The program's places are enough for every job: 15 is never given.
use mathlib.Core.List.{List}
use mathlib.Core.Path.{◌≡◌}
use Prim.Native.Nat.{ℕ}
use native.Mathlib.Omega.{arith}
use lib.IntN.{ℤ}
use lib.ListN.{length}
use borrow.Author.Tests.{le-leb}
use Rattle.curve.specs.Lists.{Lists}
use Rattle.curve.proofs.RoomLaws.{enough-all}
use Rattle.format.specs.Format.{form1}
use Rattle.format.proofs.SizeLaws.{length-knots, length-coordinates}
use Rattle.clamps.specs.Clamp.{Clamp, all_sides}
use Rattle.job.specs.JobFormat.{StorableJob}
use Rattle.job.specs.JobReading.{job_number}
use Rattle.job_text.specs.Program.{Places}
use Rattle.job_text.specs.Text.{text_number}
use Rattle.job_text.proofs.ClampLaws.{sides-length}

pub number_same : (m : ℕ) (c : Lists) (radius : ℕ) (cs : List Clamp) (lent : Lists) (sides : List ℤ) → StorableJob form1 m c radius cs → Places lent sides
    → job_number m c radius cs lent (length sides) ≡ text_number m c radius cs
unfolding job_number text_number
number_same m c radius cs lent sides w p =
    rw (
      le-leb (length (all_sides cs)) (length sides) (omega (arith, w.few, sides-length cs, p.on_sides)),
      enough-all (length c.knots) (length c.xs) (length c.ys) (length lent.knots) (length lent.xs) (length lent.ys)
          (omega (arith, w.curve.knot_room, length-knots c.knots, p.on_knots))
          (omega (arith, w.curve.x_room, length-coordinates c.xs, p.on_x))
          (omega (arith, w.curve.y_room, length-coordinates c.ys, p.on_y)),
    )
