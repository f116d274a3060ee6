-- The carrying coordinates of a parameter on one axis (heading "The point at a parameter").
use Rattle.std.specs.Prelude.{cond, List, [], ℕ, ◌-◌, eqb, ℤ, length}
use Rattle.span.specs.Span.{span_of, carrying_of}
use Rattle.domain.specs.Parameter.{parameter_number}
use Rattle.checked.specs.declared.Axis.{Axis}
use Rattle.checked.specs.declared.Axis.TheVariants.{X, Y}

abbrev pub on_axis : Axis → List ℤ → List ℤ → List ℤ  -- the list of the asked axis
on_axis X xs ys = xs
on_axis Y xs ys = ys

-- the part that is handed back: the carrying coordinates of the span of t where nothing is refused, else none
abbrev pub part_of : ℕ → List ℕ → List ℤ → List ℤ → ℕ → Axis → List ℤ
part_of m ts xs ys t axis =
    cond (eqb (parameter_number m ts xs ys t) 0) (carrying_of m (span_of ts m (length xs - 1) t 1) (on_axis axis xs ys)) []
