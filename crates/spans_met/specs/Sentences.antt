-- The rows of the list call, each as a sentence, in the order of the call (heading "Numbers of refusal").
use Rattle.std.specs.Prelude.{List, [], ◌∷◌, ◌⊎◌, ℕ, ◌<◌, length}
use Rattle.refusal.specs.Chain.{Row, row, AnswersFirst}
use Rattle.curve.specs.Lists.{Lists}
use Rattle.checked.specs.Sentences.{curve_rows, RadiusWrong, RectangleWrong}
use Rattle.boxes.specs.declared.Rectangle.{Rectangle}
use Rattle.span_walk.specs.SpansMet.{span_count}
use Rattle.span_walk.specs.SpanLists.{SpanLists}
use Rattle.spans_met.specs.Answer.{list_number}

-- 1 to 7 for the curve, 22 for the radius, 14 for the rectangle, and 15: one of the two lent lists has fewer places than the curve has non-empty spans
abbrev pub list_rows : ℕ → Lists → Rectangle → ℕ → SpanLists → List Row
list_rows m c clamp radius lent =
    let spans = span_count m c.knots (length c.xs) in
    curve_rows m c.knots c.xs c.ys
    (row 22 (RadiusWrong radius)
    ∷ row 14 (RectangleWrong clamp.low_x clamp.high_x clamp.low_y clamp.high_y)
    ∷ row 15 ((length lent.lows < spans) ⊎ (length lent.highs < spans))
    ∷ [])

-- the list call answers n exactly when row n applies and none before it does, and 0 exactly when none applies
abbrev pub ListAnswersFirst : Type 0
ListAnswersFirst =
    (m : ℕ) (c : Lists) (clamp : Rectangle) (radius : ℕ) (lent : SpanLists)
    → AnswersFirst (list_number m c clamp radius lent) (list_rows m c clamp radius lent)
