-- Spans worked by hand, by computation: a curve of degree 2 with a doubled knot, and a clamp that shares one corner with a box.
use mathlib.Core.List.{List, [], ◌∷◌}
use mathlib.Core.Path.{◌≡◌, refl}
use Prim.Native.Nat.{ℕ}
use lib.IntN.{ℤ, pos}
use Rattle.grid.specs.Rows.{occurrences}
use Rattle.boxes.specs.declared.Rectangle.{Rectangle}
use Rattle.boxes.specs.Meeting.{some_at_most, some_at_least, meets_on_axis}
use Rattle.span_walk.specs.SpansMet.{up_from, keep, span_count, box_meets, spans_met, low_knots, high_knots}
use Rattle.span_walk.specs.SpanLists.{span_lists, knots_met}
use Rattle.span_walk.specs.Sentences.{different_values}

-- points (0,0) (4,8) (6,8) (8,8) (12,0), spans 0..2 and 2..4
abbrev knots : List ℕ
knots = 0 ∷ 0 ∷ 0 ∷ 2 ∷ 2 ∷ 4 ∷ 4 ∷ 4 ∷ []

abbrev xs : List ℤ
xs = pos 0 ∷ pos 4 ∷ pos 6 ∷ pos 8 ∷ pos 12 ∷ []

abbrev ys : List ℤ
ys = pos 0 ∷ pos 8 ∷ pos 8 ∷ pos 8 ∷ pos 0 ∷ []

-- it touches the box 6..12, 0..8 of the second span at the corner (12, 8), and the other box not at all
abbrev corner : Rectangle
corner = record { low_x = pos 12; high_x = pos 20; low_y = pos 8; high_y = pos 9 }

two-spans : span_count 2 knots 5 ≡ 2
unfolding span_count keep up_from
two-spans = refl

three-values : different_values (0 ∷ 2 ∷ 2 ∷ 4 ∷ []) ≡ 3
unfolding different_values occurrences
three-values = refl

corner-listed : spans_met corner 2 knots xs ys ≡ 4 ∷ []
unfolding spans_met keep up_from box_meets meets_on_axis some_at_most some_at_least
corner-listed = refl

corner-knots : knots_met corner 2 knots xs ys ≡ span_lists (2 ∷ []) (4 ∷ [])
unfolding spans_met keep up_from box_meets meets_on_axis some_at_most some_at_least low_knots high_knots
corner-knots = refl
