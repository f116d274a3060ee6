-- A worked example: a call, what it is called on and what it answers (heading "Worked by hand"). It holds where the call's own
-- definition gives that answer. Refusal numbers are numerals here, and parameters stand in knot units.
use Rattle.std.specs.Prelude.{false, List, [], ◌∷◌, map, Result, Ok, Err, ◌≡◌, ℕ, ℤ, pos, Float, length, replicate}
use Rattle.std.specs.Float.{binary64}
use Rattle.std.specs.Float.Ieee.{round}
use Rattle.refusal.specs.Answers.{number_of}
use Rattle.refusal.specs.declared.Refusal.{Refusal}
use Rattle.curve.specs.Lists.{Lists, lists}
use Rattle.point_at.specs.declared.PointAnswer.{PointAnswer}
use Rattle.point_at.specs.declared.PointAnswer.TheVariants.{At}
use Rattle.point_at.specs.Point.{answer_of}
use Rattle.domain.specs.Parameter.{parameter_number}
use Rattle.checked.specs.declared.Axis.{Axis}
use Rattle.carrying.specs.Carrying.{part_of}
use Rattle.boxes.specs.declared.Rectangle.{Rectangle}
use Rattle.span_walk.specs.SpanLists.{SpanLists, span_lists}
use Rattle.spans_met.specs.Answer.{ListAnswer, listed}
use Rattle.lent.specs.Lent.{after}
use Rattle.format.specs.Format.{form1, record_bytes}
use Rattle.record.specs.Writing.{write_number, WriteAnswers}
use Rattle.compact.specs.Outcome.{CompactOutcome}
use Rattle.insert_knot.specs.Answer.{InsertOutcome}
use Rattle.remove_knot.specs.Outcome.{RemovalOutcome}
use Rattle.joining.specs.SplinePoints.{SplinePoints}
use Rattle.joining.specs.Answer.{JoinOutcome}
use Rattle.clamp_ends.specs.Answer.{ClampOutcome}
use Rattle.unclamp_right.specs.Answer.{UnclampOutcome}

-- coordinates that are not below zero
abbrev pub whole : List ℕ → List ℤ
whole ns = map pos ns

-- the binary64 number n/100
abbrev pub hundredths : ℕ → Float
hundredths n = round binary64 false n 100

-- the answer (x/100, y/100)
abbrev pub at : ℕ → ℕ → PointAnswer
at x y = At (record { x = hundredths x; y = hundredths y })

-- what a call takes for a parameter of u knot units
abbrev pub argument : ℕ → ℕ
argument u = u

-- each is a call on a curve of some degree; what is lent are lists of just the places that the result needs, and for a refusal none
pub data Case : Type 0 where
  -- the point of a curve at a parameter
  point_at : ℕ → Lists → ℕ → PointAnswer → Case
  -- the carrying coordinates at a parameter on an axis; or there are none
  carried : ℕ → Lists → ℕ → Axis → List ℤ → Case
  carried_not : ℕ → Lists → ℕ → Axis → ℕ → Case
  -- on so many spans a cutter of some radius may meet a clamp, and the lists of their knots, where each lent list was zeros in as many places as there
  -- are spans; or that is refused
  spans_listed : ℕ → Lists → Rectangle → ℕ → ℕ → SpanLists → Case
  spans_not : ℕ → Lists → Rectangle → ℕ → ℕ → Case
  -- the record of a curve
  recorded : ℕ → Lists → List ℕ → Case
  -- a curve with so many knots compacted away is another curve
  compacted : ℕ → Lists → ℕ → Lists → Case
  -- a curve with a knot inserted is another curve; or that is refused
  inserted : ℕ → Lists → ℕ → Lists → Case
  inserted_not : ℕ → Lists → ℕ → ℕ → Case
  -- a curve with a knot removed is another curve; or that is refused
  removed : ℕ → Lists → ℕ → Lists → Case
  removed_not : ℕ → Lists → ℕ → ℕ → Case
  -- spline points joined, with so many knots where pieces meet, are a curve of degree 3; or that is refused
  joined : ℕ → SplinePoints → Lists → Case
  joined_not : ℕ → SplinePoints → ℕ → Case
  -- a curve with both ends clamped is another curve; or that is refused
  full_ends : ℕ → Lists → Lists → Case
  full_ends_not : ℕ → Lists → ℕ → Case
  -- a curve with its right end unclamped is another curve; or that is refused
  open_right : ℕ → Lists → Lists → Case
  open_right_not : ℕ → Lists → ℕ → Case

-- zeros in the places of a curve's lists
abbrev pub places_of : Lists → Lists
places_of d = lists (replicate (length d.knots) 0) (replicate (length d.xs) (pos 0)) (replicate (length d.ys) (pos 0))

-- zeros in the places of two lists of knots
abbrev pub places_of_spans : SpanLists → SpanLists
places_of_spans s = span_lists (replicate (length s.lows) 0) (replicate (length s.highs) 0)

-- lists without a place
abbrev pub no_places : Lists
no_places = lists [] [] []

-- a call ends so with the refusal that has this number
abbrev pub RefusedBy : ℕ → (Result ℕ Refusal → Type 0) → Type 0
RefusedBy n EndsSo = (e : Refusal) × (number_of e ≡ n) × EndsSo (Err e)

-- a call ends so with this answer, and with no other
abbrev pub Only : Result ℕ Refusal → (Result ℕ Refusal → Type 0) → Type 0
Only answer EndsSo = EndsSo answer × ((other : Result ℕ Refusal) → EndsSo other → other ≡ answer)

-- the call's definition gives the answer, and the lent lists are then the expected ones
abbrev pub Holds : Case → Type 0
Holds (point_at m c u a) = answer_of m c.knots c.xs c.ys (argument u) ≡ a
Holds (carried m c u axis part) =
    (parameter_number m c.knots c.xs c.ys (argument u) ≡ 0) × (part_of m c.knots c.xs c.ys (argument u) axis ≡ part)
Holds (carried_not m c u axis n) =
    (parameter_number m c.knots c.xs c.ys (argument u) ≡ n) × (part_of m c.knots c.xs c.ys (argument u) axis ≡ [])
Holds (spans_listed m c clamp radius count s) =
    Only (Ok count) (λ answer. ListAnswer m c clamp radius (places_of_spans s) answer) × (listed m c clamp radius (places_of_spans s) ≡ s)
Holds (spans_not m c clamp radius n) =
    RefusedBy n (λ answer. Only answer (λ other. ListAnswer m c clamp radius (span_lists [] []) other)) × (listed m c clamp radius (span_lists [] []) ≡ span_lists [] [])
Holds (recorded m c bytes) =
    let places : List ℕ = replicate (length bytes) 0 in
    Only (Ok (length bytes)) (λ answer. WriteAnswers m c places answer) × (after (write_number m c places) (record_bytes form1 m c) places ≡ bytes)
Holds (compacted m c count d) = CompactOutcome m c (places_of d) (Ok count) d
Holds (inserted m c v d) = InsertOutcome m c v (places_of d) (Ok (length d.xs)) d
Holds (inserted_not m c v n) = RefusedBy n (λ answer. InsertOutcome m c v no_places answer no_places)
Holds (removed m c v d) = RemovalOutcome m c v (places_of d) (Ok (length d.xs)) d
Holds (removed_not m c v n) = RefusedBy n (λ answer. RemovalOutcome m c v no_places answer no_places)
Holds (joined inner s d) = JoinOutcome inner s (places_of d) (Ok (length d.xs)) d
Holds (joined_not inner s n) = RefusedBy n (λ answer. JoinOutcome inner s no_places answer no_places)
Holds (full_ends m c d) = ClampOutcome m c (places_of d) (Ok (length d.xs)) d
Holds (full_ends_not m c n) = RefusedBy n (λ answer. ClampOutcome m c no_places answer no_places)
Holds (open_right m c d) = UnclampOutcome m c (places_of d) (Ok (length d.xs)) d
Holds (open_right_not m c n) = RefusedBy n (λ answer. UnclampOutcome m c no_places answer no_places)

-- each of a list holds
abbrev pub AllHold : List Case → Type 0
AllHold [] = Unit {0}
AllHold (c ∷ cs) = Holds c × AllHold cs
