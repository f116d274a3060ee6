-- The spans to check (heading "Spans to check"): of all non-empty spans, in rising order, those whose closed box of carrying
-- points meets a closed rectangle. `m` is the degree, `ts` the knots, `xs` and `ys` the coordinates, `i` a span's index.
-- The rectangle's sides are any whole numbers.
use Rattle.std.specs.Prelude.{Bool, cond, ◌&&◌, List, [], ◌∷◌, map, ℕ, zero, suc, ◌+◌, ◌-◌, ltb, ℤ, length, get_or}
use Rattle.span.specs.Span.{carrying_of}
use Rattle.boxes.specs.Meeting.{meets_on_axis}
use Rattle.boxes.specs.declared.Rectangle.{Rectangle}

unfoldable pub up_from : ℕ → ℕ → List ℕ  -- `count` numbers from i on, rising
up_from i zero = []
up_from i (suc count) = i ∷ up_from (suc i) count

unfoldable pub keep : (ℕ → Bool) → List ℕ → List ℕ  -- the entries that pass a test, in their order
keep test [] = []
keep test (i ∷ rest) = cond (test i) (i ∷ keep test rest) (keep test rest)

abbrev pub spans_of : ℕ → ℕ → List ℕ  -- all spans of a curve with `count` points: i from m to n
spans_of m count = up_from m (count - m)

abbrev pub non_empty : List ℕ → ℕ → Bool  -- t_i < t_{i+1}
non_empty ts i = ltb (get_or ts i 0) (get_or ts (i + 1) 0)

unfoldable pub span_count : ℕ → List ℕ → ℕ → ℕ  -- how many spans are not empty
span_count m ts count = length (keep (non_empty ts) (spans_of m count))

unfoldable pub box_meets : Rectangle → ℕ → List ℤ → List ℤ → ℕ → Bool  -- the box of span i meets the rectangle
box_meets clamp m xs ys i =
    meets_on_axis clamp.low_x clamp.high_x (carrying_of m i xs)
    && meets_on_axis clamp.low_y clamp.high_y (carrying_of m i ys)

abbrev pub to_check : Rectangle → ℕ → List ℕ → List ℤ → List ℤ → ℕ → Bool  -- span i is to be checked
to_check clamp m ts xs ys i = non_empty ts i && box_meets clamp m xs ys i

unfoldable pub spans_met : Rectangle → ℕ → List ℕ → List ℤ → List ℤ → List ℕ  -- the indices of the spans to check
spans_met clamp m ts xs ys = keep (to_check clamp m ts xs ys) (spans_of m (length xs))

unfoldable pub low_knots : List ℕ → List ℕ → List ℕ  -- the low knots of spans, and the high ones
low_knots ts spans = map (λ i. get_or ts i 0) spans

unfoldable pub high_knots : List ℕ → List ℕ → List ℕ
high_knots ts spans = map (λ i. get_or ts (i + 1) 0) spans
