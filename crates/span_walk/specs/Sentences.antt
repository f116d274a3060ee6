-- Which spans are on the list, with which knots, and how many a curve has, in sentences (heading "Spans to check").
use Rattle.std.specs.Prelude.{cond, List, [], ◌∷◌, ◌↔◌, ◌≡◌, ℕ, suc, ◌+◌, ◌-◌, ◌≤◌, ◌<◌, eqb, ℤ, pos, length, get_or, take, drop, ◌≤ℤ◌}
use Rattle.lent.specs.Sentences.{ResultThenRest}
use Rattle.curve.specs.Lists.{NeverFall}
use Rattle.grid.specs.Rows.{occurrences}
use Rattle.boxes.specs.Sentences.{Inside}
use Rattle.boxes.specs.declared.Rectangle.{Rectangle}
use Rattle.span_walk.specs.SpansMet.{span_count, spans_met}
use Rattle.span_walk.specs.SpanLists.{SpanLists, knots_met, spans_handed_over}

-- on one axis z lies in the closed box of span i: from the coordinate of one of its carrying points P_{i-m} .. P_i to that of another
pub record InBox (m i : ℕ) (ps : List ℤ) (z : ℤ) : Type 0 where
  pub below : ℕ
  pub above : ℕ
  pub below-carries : (i ≤ below + m) × (below ≤ i)
  pub above-carries : (i ≤ above + m) × (above ≤ i)
  pub low : get_or ps below (pos 0) ≤ℤ z
  pub high : z ≤ℤ get_or ps above (pos 0)

-- a whole point (x, y) that lies in the box of span i and in the rectangle, the sides of both included
pub record SharedPoint (clamp : Rectangle) (m i : ℕ) (xs ys : List ℤ) : Type 0 where
  pub x : ℤ
  pub y : ℤ
  pub box-x : InBox m i xs x
  pub box-y : InBox m i ys y
  pub inside : Inside clamp x y

-- i is a span, from m to n; it is not empty; and its box shares a point with the rectangle
pub record MayMeet (clamp : Rectangle) (m : ℕ) (ts : List ℕ) (xs ys : List ℤ) (i : ℕ) : Type 0 where
  pub from : m ≤ i
  pub to : i < length xs
  pub wide : get_or ts i 0 < get_or ts (i + 1) 0
  pub shares : SharedPoint clamp m i xs ys

-- the number i stands in the list, at some place
abbrev pub Stands : List ℕ → ℕ → Type 0
Stands l i = (k : ℕ) × (k < length l) × (get_or l k 0 ≡ i)

-- for a rectangle whose sides are in order: the list holds exactly the spans that may meet it
abbrev pub ListedExactly : Type 0
ListedExactly =
    (clamp : Rectangle) (m : ℕ) (ts : List ℕ) (xs ys : List ℤ)
    → length ys ≡ length xs → clamp.low_x ≤ℤ clamp.high_x → clamp.low_y ≤ℤ clamp.high_y
    → (i : ℕ) → Stands (spans_met clamp m ts xs ys) i ↔ MayMeet clamp m ts xs ys i

-- in rising order, so none twice
abbrev pub ListRises : Type 0
ListRises =
    (clamp : Rectangle) (m : ℕ) (ts : List ℕ) (xs ys : List ℤ) (a b : ℕ)
    → a < b → b < length (spans_met clamp m ts xs ys) → get_or (spans_met clamp m ts xs ys) a 0 < get_or (spans_met clamp m ts xs ys) b 0

-- each list has an entry for each span; entry k is the low knot t_i, or the high knot t_{i+1}, of span number k on the list
pub record KnotsOf (ts spans : List ℕ) (knots : SpanLists) : Type 0 where
  pub count-lows : length knots.lows ≡ length spans
  pub count-highs : length knots.highs ≡ length spans
  pub low : (k : ℕ) → k < length spans → get_or knots.lows k 0 ≡ get_or ts (get_or spans k 0) 0
  pub high : (k : ℕ) → k < length spans → get_or knots.highs k 0 ≡ get_or ts (get_or spans k 0 + 1) 0

abbrev pub KnotsOfEachSpan : Type 0
KnotsOfEachSpan =
    (clamp : Rectangle) (m : ℕ) (ts : List ℕ) (xs ys : List ℤ) → KnotsOf ts (spans_met clamp m ts xs ys) (knots_met clamp m ts xs ys)

-- how many different values a list holds: a value is counted where it stands for the last time
unfoldable pub different_values : List ℕ → ℕ
different_values [] = 0
different_values (t ∷ ts) = cond (eqb (occurrences t ts) 0) (suc (different_values ts)) (different_values ts)

-- the knots of the domain, t_m to t_{n+1}, of a curve with n + 1 points
abbrev pub domain_knots : ℕ → List ℕ → ℕ → List ℕ
domain_knots m ts n = take (n + 1 - m + 1) (drop m ts)

-- the non-empty spans are one fewer than the different knot values of the domain
abbrev pub SpanCountExactly : Type 0
SpanCountExactly =
    (m : ℕ) (ts : List ℕ) (n : ℕ) → NeverFall ts → m ≤ n → n + 1 < length ts
    → span_count m ts (n + 1) + 1 ≡ different_values (domain_knots m ts n)

-- after success each of the two lent lists holds its own result and then what it held before; a refused call leaves both as they were
abbrev pub SuccessHandsSpans : Type 0
SuccessHandsSpans =
    (result before : SpanLists) → length result.lows ≤ length before.lows → length result.highs ≤ length before.highs
    → ResultThenRest result.lows before.lows (spans_handed_over 0 result before).lows
    × ResultThenRest result.highs before.highs (spans_handed_over 0 result before).highs

abbrev pub RefusalHandsNoSpans : Type 0
RefusalHandsNoSpans = (number : ℕ) (result before : SpanLists) → 0 < number → spans_handed_over number result before ≡ before
