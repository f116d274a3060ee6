-- The part that is handed back, in sentences (heading "The point at a parameter").
use Rattle.std.specs.Prelude.{List, [], ◌≡◌, ℕ, ◌-◌, ℤ, length}
use Rattle.span.specs.Span.{span_of}
use Rattle.span.specs.Sentences.{Carry}
use Rattle.domain.specs.Parameter.{parameter_number}
use Rattle.checked.specs.declared.Axis.{Axis}
use Rattle.checked.specs.declared.Axis.TheVariants.{X, Y}
use Rattle.carrying.specs.Carrying.{part_of}

-- where nothing is refused: asked for x, the m+1 coordinates x of the points P_{i-m} .. P_i, where i is the span of t; asked for y, their y
abbrev pub PartOfAskedAxis : Type 0
PartOfAskedAxis =
    (m : ℕ) (ts : List ℕ) (xs ys : List ℤ) (t : ℕ) → parameter_number m ts xs ys t ≡ 0
    → Carry m (span_of ts m (length xs - 1) t 1) xs (part_of m ts xs ys t X)
    × Carry m (span_of ts m (length xs - 1) t 1) ys (part_of m ts xs ys t Y)

-- a refusal hands back no entry
abbrev pub RefusalHandsNoPart : Type 0
RefusalHandsNoPart =
    (m : ℕ) (ts : List ℕ) (xs ys : List ℤ) (t : ℕ) (axis : Axis) → (parameter_number m ts xs ys t ≡ 0 → ⊥) → part_of m ts xs ys t axis ≡ []
