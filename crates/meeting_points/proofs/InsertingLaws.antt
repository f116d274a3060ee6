-- Values inserted one after the other keep the exact curve, and what they give passes the check.
use mathlib.Core.List.{List, [], ◌∷◌}
use mathlib.Core.Path.{subst}
use Prim.Native.Nat.{ℕ}
use Rattle.curve.specs.Lists.{Lists}
use Rattle.grid.specs.Check.{Passes}
use Rattle.insertion.specs.Insertion.{inserted}
use Rattle.insertion.proofs.ResultLaws.{inserted-passes}
use Rattle.knots_exact.specs.SameCurve.{SameCurve}
use Rattle.knots_exact.proofs.InsertionLaws.{insert-keeps-curve}
use Rattle.knots_exact.proofs.CompactionLaws.{passes-some, same_refl, same-trans}
use Rattle.meeting_points.specs.Inserting.{InsertsEach}

pub inserts-each-keeps : (m : ℕ) (vs : List ℕ) (c d : Lists) → Passes m c.knots c.xs c.ys → InsertsEach m vs c d → SameCurve m c d
inserts-each-keeps m [] c d passes e = subst (SameCurve m c) e (same_refl m c)
inserts-each-keeps m (v ∷ vs) c d passes (accepts, others) =
    let next = inserted-passes m c.knots c.xs c.ys v (inserted m c v) accepts in
    same-trans m c (inserted m c v) d (passes-some m c passes) (passes-some m (inserted m c v) next)
    (insert-keeps-curve m c v (inserted m c v) accepts) (inserts-each-keeps m vs (inserted m c v) d next others)

pub inserts-each-passes : (m : ℕ) (vs : List ℕ) (c d : Lists) → Passes m c.knots c.xs c.ys → InsertsEach m vs c d → Passes m d.knots d.xs d.ys
inserts-each-passes m [] c d passes e = subst (λ (f : Lists). Passes m f.knots f.xs f.ys) e passes
inserts-each-passes m (v ∷ vs) c d passes (accepts, others) =
    inserts-each-passes m vs (inserted m c v) d (inserted-passes m c.knots c.xs c.ys v (inserted m c v) accepts) others
