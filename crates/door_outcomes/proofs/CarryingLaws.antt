-- The index of the first carrying point and the part that the carrying call hands back belong together.
use mathlib.Core.List.{List}
use mathlib.Core.Path.{◌≡◌, refl, sym, ◌∙◌}
use Prim.Native.Nat.{ℕ, ◌+◌, ◌-◌, ◌<◌}
use native.Mathlib.Omega.{arith}
use borrow.Author.Tests.{eq-eqb}
use lib.IntN.{ℤ}
use lib.ListN.{length}
use Rattle.span.specs.Span.{span_of}
use Rattle.domain.specs.Parameter.{parameter_number}
use Rattle.domain.proofs.ParameterLaws.{accepted-within}
use Rattle.carrying.specs.Carrying.{on_axis}
use Rattle.checked.specs.declared.Axis.{Axis}
use Rattle.checked.specs.declared.Axis.TheVariants.{X, Y}
use Rattle.tsaghnobir.specs.Places.{first_carrying}
use Rattle.door_outcomes.specs.Exports.{FirstFindsCarrying}

-- the last carrying point is inside the list of either axis
inside : (m : ℕ) (ts : List ℕ) (xs ys : List ℤ) (t : ℕ) → parameter_number m ts xs ys t ≡ 0 → (axis : Axis) → first_carrying m ts xs t + m < length (on_axis axis xs ys)
inside m ts xs ys t accepted X = omega (arith, accepted-within m ts xs ys t (span_of ts m (length xs - 1) t 1) accepted refl)
inside m ts xs ys t accepted Y = omega (arith, accepted-within m ts xs ys t (span_of ts m (length xs - 1) t 1) accepted refl)

pub first-finds-carrying : FirstFindsCarrying
first-finds-carrying m ts xs ys t held number first e h none axis =
    let accepted : parameter_number m ts xs ys t ≡ 0 = sym e ∙ none in
    let same : first ≡ first_carrying m ts xs t = rw none at h in
    (rw same (inside m ts xs ys t accepted axis), rw (same, eq-eqb (parameter_number m ts xs ys t) 0 accepted))
