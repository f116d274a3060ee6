-- What the list call answers and leaves in the two lent lists, in sentences (headings "Spans to check", "Numbers of refusal").
use Rattle.std.specs.Prelude.{List, Result, Ok, ◌↔◌, ◌≡◌, ℕ, suc, ◌+◌, ◌≤◌, ◌<◌, ℤ, length, get_or}
use Rattle.refusal.specs.Answers.{number_in}
use Rattle.refusal.specs.declared.Refusal.{Refusal}
use Rattle.lent.specs.Sentences.{ResultThenRest}
use Rattle.curve.specs.Lists.{Lists}
use Rattle.boxes.specs.Sentences.{Near}
use Rattle.boxes.specs.Widening.{widened}
use Rattle.boxes.specs.declared.Rectangle.{Rectangle}
use Rattle.span_walk.specs.SpansMet.{spans_met}
use Rattle.span_walk.specs.SpanLists.{SpanLists, knots_met}
use Rattle.span_walk.specs.Sentences.{InBox, Stands}
use Rattle.spans_met.specs.Answer.{list_number, ListAnswer, listed}

-- where nothing is refused: the answer is how many spans are to be checked, and each list holds one knot of each in front and then what it held
pub record ListedSpans (m : ℕ) (c : Lists) (clamp : Rectangle) (radius : ℕ) (before : SpanLists) : Type 0 where
  pub answer : (answer : Result ℕ Refusal) → ListAnswer m c clamp radius before answer → answer ≡ Ok (length (spans_met (widened radius clamp) m c.knots c.xs c.ys))
  pub lows : ResultThenRest (knots_met (widened radius clamp) m c.knots c.xs c.ys).lows before.lows (listed m c clamp radius before).lows
  pub highs : ResultThenRest (knots_met (widened radius clamp) m c.knots c.xs c.ys).highs before.highs (listed m c clamp radius before).highs

abbrev pub SuccessListsSpans : Type 0
SuccessListsSpans =
    (m : ℕ) (c : Lists) (clamp : Rectangle) (radius : ℕ) (before : SpanLists) → list_number m c clamp radius before ≡ 0 → ListedSpans m c clamp radius before

-- i is a span, from m to n; it is not empty; and some whole point of its box is at most the radius away, on each axis, from some whole point of the clamp
pub record MayReach (clamp : Rectangle) (radius m : ℕ) (ts : List ℕ) (xs ys : List ℤ) (i : ℕ) : Type 0 where
  pub from : m ≤ i
  pub to : i < length xs
  pub wide : get_or ts i 0 < get_or ts (i + 1) 0
  pub x : ℤ
  pub y : ℤ
  pub box-x : InBox m i xs x
  pub box-y : InBox m i ys y
  pub near-x : Near radius clamp.low_x clamp.high_x x
  pub near-y : Near radius clamp.low_y clamp.high_y y

-- and such a span is on the list, and no other
abbrev pub AcceptedListIsExact : Type 0
AcceptedListIsExact =
    (m : ℕ) (c : Lists) (clamp : Rectangle) (radius : ℕ) (before : SpanLists) → list_number m c clamp radius before ≡ 0
    → (i : ℕ) → Stands (spans_met (widened radius clamp) m c.knots c.xs c.ys) i ↔ MayReach clamp radius m c.knots c.xs c.ys i

-- a refusal answers its number and nothing else, and leaves both lists as they were
abbrev pub RefusalListsNothing : Type 0
RefusalListsNothing =
    (m : ℕ) (c : Lists) (clamp : Rectangle) (radius : ℕ) (before : SpanLists) (n : ℕ) → list_number m c clamp radius before ≡ suc n
    → ((answer : Result ℕ Refusal) → ListAnswer m c clamp radius before answer → number_in answer ≡ suc n) × (listed m c clamp radius before ≡ before)
