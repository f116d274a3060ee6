-- What the list call answers (headings "Spans to check", "Numbers of refusal"): 1 to 7, then 22, 14 and 15; else the number of spans.
-- `m` is the degree, `c` the curve's lists, `clamp` the rectangle, `radius` the cutter's: the clamp is widened by it before the boxes are tested.
use Rattle.std.specs.Prelude.{◌&&◌, Result, ℕ, leb, length}
use Rattle.refusal.specs.Answers.{Answers}
use Rattle.refusal.specs.Judging.{unless}
use Rattle.refusal.specs.Numbers.{accepted, radius_refused, rectangle_refused, room_refused}
use Rattle.curve.specs.Lists.{Lists}
use Rattle.grid.specs.Check.{checked_then}
use Rattle.grid.specs.Rows.{radius_ok, rectangle_ok}
use Rattle.span_walk.specs.SpansMet.{span_count, spans_met}
use Rattle.span_walk.specs.SpanLists.{SpanLists, knots_met, spans_handed_over}
use Rattle.boxes.specs.Widening.{widened}
use Rattle.boxes.specs.declared.Rectangle.{Rectangle}
use Rattle.refusal.specs.declared.Refusal.{Refusal}

-- the number of refusal where the two lent lists have so many places: each must have as many as there are non-empty spans
unfoldable pub number_with_places : ℕ → Lists → Rectangle → ℕ → ℕ → ℕ → ℕ
number_with_places m c clamp radius low_places high_places =
    checked_then m c.knots c.xs c.ys
    (unless (radius_ok radius) radius_refused
    (unless (rectangle_ok clamp.low_x clamp.high_x clamp.low_y clamp.high_y) rectangle_refused
    (unless (leb (span_count m c.knots (length c.xs)) low_places && leb (span_count m c.knots (length c.xs)) high_places)
    room_refused accepted)))

abbrev pub list_number : ℕ → Lists → Rectangle → ℕ → SpanLists → ℕ  -- the number of refusal with these lent lists
list_number m c clamp radius lent = number_with_places m c clamp radius (length lent.lows) (length lent.highs)

-- the answer: how many spans were listed, or the refusal with the number
abbrev pub ListAnswer : ℕ → Lists → Rectangle → ℕ → SpanLists → Result ℕ Refusal → Type 0
ListAnswer m c clamp radius lent answer =
    Answers (list_number m c clamp radius lent) (length (spans_met (widened radius clamp) m c.knots c.xs c.ys)) answer

-- the two lent lists afterwards: the two knots of each span to check in front, or as they were found
abbrev pub listed : ℕ → Lists → Rectangle → ℕ → SpanLists → SpanLists
listed m c clamp radius before =
    spans_handed_over (list_number m c clamp radius before) (knots_met (widened radius clamp) m c.knots c.xs c.ys) before
