-- What the point call answers, in sentences (heading "The point at a parameter").
use Rattle.std.specs.Prelude.{List, ◌≡◌, ℕ, suc, ◌+◌, ◌-◌, ◌≤◌, ◌<◌, ℤ, pos, length, get_or}
use Rattle.std.specs.Float.{binary64}
use Rattle.std.specs.Float.Ieee.{of_int}
use Rattle.span.specs.Span.{span_of, carrying_of}
use Rattle.triangle.specs.FloatTriangle.{entry_of}
use Rattle.domain.specs.Parameter.{parameter_number}
use Rattle.point_at.specs.declared.PointAnswer.TheVariants.{At, Refused}
use Rattle.point_at.specs.Point.{answer_of}

-- row 0 of the triangle of span i is the m+1 carrying points: entry i-m+k is number k of them, as a float
abbrev pub FirstRowCarries : Type 0
FirstRowCarries =
    (m i : ℕ) (ts : List ℕ) (ps : List ℤ) (t k : ℕ) → m ≤ i → i < length ps → k ≤ m
    → entry_of m ts ps t 0 (i - m + k) ≡ of_int binary64 (get_or (carrying_of m i ps) k (pos 0))

-- where nothing is refused: x is the last entry of the triangle over the x coordinates in the span of t, y that over the y coordinates
abbrev pub PointAnswered : Type 0
PointAnswered =
    (m : ℕ) (ts : List ℕ) (xs ys : List ℤ) (t : ℕ) → parameter_number m ts xs ys t ≡ 0
    → let i = span_of ts m (length xs - 1) t 1 in answer_of m ts xs ys t ≡ At (record { x = entry_of m ts xs t m i; y = entry_of m ts ys t m i })

-- a refusal answers its number and nothing else
abbrev pub RefusalAnswered : Type 0
RefusalAnswered =
    (m : ℕ) (ts : List ℕ) (xs ys : List ℤ) (t n : ℕ) → parameter_number m ts xs ys t ≡ suc n → answer_of m ts xs ys t ≡ Refused (suc n)
