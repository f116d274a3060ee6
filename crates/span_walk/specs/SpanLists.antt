-- Two lists of knots that go together (heading "Spans to check"): where each of some spans begins and where it ends, or the two lent
-- lists that receive them.
use Rattle.std.specs.Prelude.{List, ℕ, ℤ}
use Rattle.lent.specs.Lent.{after}
use Rattle.boxes.specs.declared.Rectangle.{Rectangle}
use Rattle.span_walk.specs.SpansMet.{spans_met, low_knots, high_knots}

pub record SpanLists : Type 0 where  -- low knots, high knots
  pub lows : List ℕ
  pub highs : List ℕ

abbrev pub span_lists : List ℕ → List ℕ → SpanLists
span_lists lows highs = record { lows = lows; highs = highs }

abbrev pub knots_met : Rectangle → ℕ → List ℕ → List ℤ → List ℤ → SpanLists  -- the two knots of each span to check
knots_met clamp m ts xs ys =
    span_lists (low_knots ts (spans_met clamp m ts xs ys)) (high_knots ts (spans_met clamp m ts xs ys))

-- the lent lists afterwards: each its result and then the rest where the number is 0, else as they were found
abbrev pub spans_handed_over : ℕ → SpanLists → SpanLists → SpanLists
spans_handed_over number result before =
    span_lists (after number result.lows before.lows) (after number result.highs before.highs)
