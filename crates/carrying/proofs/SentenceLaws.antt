-- The part that is handed back is what its sentences say.
use mathlib.Core.List.{List}
use mathlib.Core.Path.{◌≡◌, refl, subst}
use Prim.Native.Nat.{ℕ, ◌-◌}
use native.Mathlib.Omega.{arith}
use borrow.Author.Tests.{ne_eqb}
use lib.IntN.{ℤ}
use lib.ListN.{length}
use Rattle.span.specs.Span.{span_of, carrying_of}
use Rattle.span.specs.Sentences.{Carry}
use Rattle.span.proofs.SentenceLaws.{carrying-entries}
use Rattle.domain.specs.Parameter.{parameter_number}
use Rattle.domain.proofs.ParameterLaws.{accepted-within}
use Rattle.checked.specs.declared.Axis.{Axis}
use Rattle.checked.specs.declared.Axis.TheVariants.{X, Y}
use Rattle.carrying.specs.Carrying.{on_axis, part_of}
use Rattle.carrying.specs.Sentences.{PartOfAskedAxis, RefusalHandsNoPart}
use Rattle.carrying.proofs.CarryingLaws.{part-accepted}

module _ (m : ℕ) (ts : List ℕ) (xs ys : List ℤ) (t : ℕ) (accepted : parameter_number m ts xs ys t ≡ 0) where
  abbrev span : ℕ
  span = span_of ts m (length xs - 1) t 1

  on-axis : (axis : Axis) (ps : List ℤ) → on_axis axis xs ys ≡ ps → length ps ≡ length xs → Carry m span ps (part_of m ts xs ys t axis)
  on-axis axis ps e alike =
      let w = accepted-within m ts xs ys t span accepted refl in
      subst (λ (part : List ℤ). Carry m span ps part)
      (part-accepted m ts xs ys t span axis axis (carrying_of m span ps) accepted refl refl (rw e))
      (carrying-entries m span ps w.first (omega (arith, w.point)))

pub part-of-asked-axis : PartOfAskedAxis
part-of-asked-axis m ts xs ys t accepted = (
  on-axis m ts xs ys t accepted X xs refl refl,
  on-axis m ts xs ys t accepted Y ys refl (accepted-within m ts xs ys t (span_of ts m (length xs - 1) t 1) accepted refl).alike,
)

pub refusal-hands-no-part : RefusalHandsNoPart
refusal-hands-no-part m ts xs ys t axis refused = rw (ne_eqb (parameter_number m ts xs ys t) 0 refused)
