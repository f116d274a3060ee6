-- The point at a parameter, and what the call answers (heading "The point at a parameter").
use Rattle.std.specs.Prelude.{List, ℕ, ◌-◌, ℤ, length}
use Rattle.refusal.specs.Judging.{answered}
use Rattle.span.specs.Span.{span_of}
use Rattle.triangle.specs.FloatTriangle.{coordinate_of}
use Rattle.domain.specs.Parameter.{parameter_number}
use Rattle.point_at.specs.declared.Place.{Place}
use Rattle.point_at.specs.declared.PointAnswer.{PointAnswer}
use Rattle.point_at.specs.declared.PointAnswer.TheVariants.{At, Refused}

-- the point at t: x and y worked out alike, by the triangle of the span that holds t
abbrev pub point_of : ℕ → List ℕ → List ℤ → List ℤ → ℕ → Place
point_of m ts xs ys t =
    let i = span_of ts m (length xs - 1) t 1 in
    record { x = coordinate_of m ts xs i t; y = coordinate_of m ts ys i t }

-- the answer: the point where nothing is refused, else the number alone, 1 to 7 for the curve and 8 for the parameter
abbrev pub answer_of : ℕ → List ℕ → List ℤ → List ℤ → ℕ → PointAnswer
answer_of m ts xs ys t =
    answered At Refused (parameter_number m ts xs ys t) (point_of m ts xs ys t)
