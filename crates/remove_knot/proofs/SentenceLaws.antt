-- A knot that was inserted is removed again.
use mathlib.Core.Path.{refl}
use native.Mathlib.Omega.{arith}
use lib.ListN.{length}
use Rattle.std.specs.Prelude.{Ok}
use Rattle.curve.specs.Lists.{Lists}
use Rattle.curve.specs.HandingOver.{handed_over}
use Rattle.curve.proofs.HandingLaws.{ends-done}
use Rattle.insertion.specs.Insertion.{inserted}
use Rattle.insertion.proofs.ResultLaws.{inserted-passes}
use Rattle.removal.proofs.SentenceLaws.{inserted-is-removed, removal-takes-one}
use Rattle.removal.specs.Outcome.{RemovalComesTo, removed}
use Rattle.remove_knot.specs.Sentences.{InsertedIsHandedBack}
use Rattle.removal.proofs.JudgedLaws.{number-of-inner}
use Rattle.remove_knot.proofs.OutcomeLaws.{removal-determined}

pub inserted-is-handed-back : InsertedIsHandedBack
inserted-is-handed-back m c v lent before answer now h room outcome =
    let back = (inserted-is-removed m c v lent h).0 in
    let takes = removal-takes-one m v (inserted m c v) c back in
    let number = number-of-inner m (inserted m c v).knots (inserted m c v).xs (inserted m c v).ys v
    (record {
      passes = inserted-passes m c.knots c.xs c.ys v lent h;
      low = takes.inside.0;
      high = takes.inside.1;
      present = omega (arith, takes.once);
    }) in
    let comes : RemovalComesTo m (inserted m c v) v before 0 c = removed number back (rw room) in
    removal-determined m (inserted m c v) v before answer (Ok (length c.xs)) now (handed_over 0 c before) outcome
    (ends-done (RemovalComesTo m (inserted m c v) v before) (λ (d : Lists). length d.xs) before 0 c comes (handed_over 0 c before) refl refl)
