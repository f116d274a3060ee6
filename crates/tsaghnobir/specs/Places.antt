-- What the single lent numbers hold after an exported call, and the values that only the exports name.
use Rattle.std.specs.Prelude.{cond, List, ℕ, ◌-◌, eqb, ℤ, length}
use Rattle.span.specs.Span.{span_of}
use Rattle.boxes.specs.declared.Rectangle.{Rectangle}

-- "Numbers of refusal": lent places hold the value where the refusal number is 0, else what they held before
abbrev pub placed : {A : Type 0} → ℕ → A → A → A
placed number value before = cond (eqb number 0) value before

-- "The record on disk": the single numbers lent to a call that reads a job: degree, points, radius, clamps, and the place of a fault
abbrev pub JobPlaces : Type 0
JobPlaces = ℕ × ℕ × ℕ × ℕ × ℕ

-- "The point at a parameter": the first of the points i-m to i that carry the span i of t
abbrev pub first_carrying : ℕ → List ℕ → List ℤ → ℕ → ℕ
first_carrying m ts xs t = span_of ts m (length xs - 1) t 1 - m

-- "Spans to check": the clamp of four sides
abbrev pub clamp_of : ℤ → ℤ → ℤ → ℤ → Rectangle
clamp_of low_x high_x low_y high_y = record { low_x = low_x; high_x = high_x; low_y = low_y; high_y = high_y }
