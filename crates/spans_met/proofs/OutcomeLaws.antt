-- What the list call answers and leaves is what its sentences say: where nothing is refused there is a place for each listed span, and the
-- rectangle's sides are in order.
use mathlib.Core.Bool.{true, ◌&&◌}
use mathlib.Core.List.{List}
use mathlib.Core.Logic.Iff
use mathlib.Core.Path.{◌≡◌, sym, ◌∙◌}
use Prim.Native.Nat.{ℕ, ◌≤◌}
use native.Mathlib.Decide.{ℕ_discrete}
use native.Mathlib.Omega.{arith}
use borrow.Author.Tests.{leb-true}
use lib.Dec.{leb, eqb-suc-zero}
use lib.IntN.{ℤ}
use lib.ListN.{length}
use lib.Signed.{le_z, ◌≤ℤ◌}
use Rattle.refusal.proofs.AnswerLaws.{answers-value}
use Rattle.refusal.proofs.JudgingLaws.{unless-accepted, both}
use Rattle.curve.specs.Lists.{Lists}
use Rattle.grid.specs.Check.{check_number, Passes}
use Rattle.grid.specs.Rows.{radius_ok, on_grid, axis_ok, rectangle_ok}
use Rattle.grid.proofs.SizeLaws.{sizes-of-passes}
use Rattle.grid.proofs.ThenLaws.{checked_then-refused, checked_then-passed}
use Rattle.boxes.specs.declared.Rectangle.{Rectangle}
use Rattle.boxes.specs.Widening.{widened}
use Rattle.boxes.proofs.SentenceLaws.{order}
use Rattle.boxes.proofs.NearLaws.{widened-exactly, widened-order}
use Rattle.span_walk.specs.SpansMet.{non_empty, box_meets, to_check, spans_of, span_count, spans_met}
use Rattle.span_walk.specs.SpanLists.{SpanLists, knots_met}
use Rattle.span_walk.specs.Sentences.{MayMeet}
use Rattle.span_walk.proofs.KeepLaws.{keep-fewer}
use Rattle.span_walk.proofs.SentenceLaws.{listed-exactly, knots-of-each-span, success-hands-spans}
use Rattle.spans_met.specs.Answer.{number_with_places, list_number}
use Rattle.spans_met.specs.Outcome.{SuccessListsSpans, MayReach, AcceptedListIsExact, RefusalListsNothing}
use Rattle.spans_met.proofs.AnswerLaws.{sides_ok}

module _ (m : ℕ) (c : Lists) (clamp : Rectangle) (radius : ℕ) (before : SpanLists) where
  -- no more spans are listed than are not empty
  listed-fewer : length (spans_met (widened radius clamp) m c.knots c.xs c.ys) ≤ span_count m c.knots (length c.xs)
  unfolding spans_met span_count
  listed-fewer =
      keep-fewer (to_check (widened radius clamp) m c.knots c.xs c.ys) (non_empty c.knots)
      (λ i h. (both (non_empty c.knots i) (box_meets (widened radius clamp) m c.xs c.ys i) h).0)
      (spans_of m (length c.xs))

  -- nothing refused: the curve passes, the rectangle's sides do, and both lists have a place for each non-empty span
  record Accepted : Type 0 where
    passed : Passes m c.knots c.xs c.ys
    short : radius_ok radius ≡ true
    sides : sides_ok clamp ≡ true
    lows : span_count m c.knots (length c.xs) ≤ length before.lows
    highs : span_count m c.knots (length c.xs) ≤ length before.highs

  accepted-says : list_number m c clamp radius before ≡ 0 → Accepted
  unfolding number_with_places
  accepted-says e = by (ℕ_discrete (check_number m c.knots c.xs c.ys) 0)
    where
      by : Dec (check_number m c.knots c.xs c.ys ≡ 0) → Accepted
      by (no refused) = absurd (refused (sym (checked_then-refused m c.knots c.xs c.ys _ refused) ∙ e))
      by (yes passed) =
          let short = unless-accepted (radius_ok radius) 21 _ (sym (checked_then-passed m c.knots c.xs c.ys _ passed) ∙ e) in
          let sides = unless-accepted (sides_ok clamp) 13 _ short.1 in
          let room = unless-accepted _ 14 0 sides.1 in
          let each = both (leb (span_count m c.knots (length c.xs)) (length before.lows)) (leb (span_count m c.knots (length c.xs)) (length before.highs)) room.0 in
          record { passed = passed; short = short.0; sides = sides.0; lows = leb-true _ _ each.0; highs = leb-true _ _ each.1 }

pub success-lists-spans : SuccessListsSpans
success-lists-spans m c clamp radius before e =
    let fewer = listed-fewer m c clamp radius before in
    let room = accepted-says m c clamp radius before e in
    let knots = knots-of-each-span (widened radius clamp) m c.knots c.xs c.ys in
    let hands = success-hands-spans (knots_met (widened radius clamp) m c.knots c.xs c.ys) before (omega (arith, knots.count-lows, room.lows)) (omega (arith, knots.count-highs, room.highs)) in
    record { answer = λ answer says. answers-value (list_number m c clamp radius before) _ answer says e; lows = rw e hands.0; highs = rw e hands.1 }

-- sides that pass row 14 are in order
axis-order : (low high : ℤ) → axis_ok low high ≡ true → low ≤ℤ high
unfolding axis_ok
axis-order low high e = order (both (le_z low high) (on_grid low) (both (le_z low high && on_grid low) (on_grid high) e).0).0

sides-order : (clamp : Rectangle) → sides_ok clamp ≡ true → (clamp.low_x ≤ℤ clamp.high_x) × (clamp.low_y ≤ℤ clamp.high_y)
unfolding rectangle_ok
sides-order clamp e =
    let each = both (axis_ok clamp.low_x clamp.high_x) (axis_ok clamp.low_y clamp.high_y) e in
    (axis-order _ _ each.0, axis-order _ _ each.1)

-- a span whose box shares a point with the widened clamp is one that may be reached, and back
module _ (clamp : Rectangle) (radius m : ℕ) (ts : List ℕ) (xs ys : List ℤ) (i : ℕ) (sides : (clamp.low_x ≤ℤ clamp.high_x) × (clamp.low_y ≤ℤ clamp.high_y)) where
  reaches : MayMeet (widened radius clamp) m ts xs ys i → MayReach clamp radius m ts xs ys i
  reaches meets =
      let at = meets.shares in
      let near = (widened-exactly radius clamp at.x at.y sides.0 sides.1).0 at.inside in
      record { from = meets.from; to = meets.to; wide = meets.wide; x = at.x; y = at.y; box-x = at.box-x; box-y = at.box-y; near-x = near.0; near-y = near.1 }

  reached : MayReach clamp radius m ts xs ys i → MayMeet (widened radius clamp) m ts xs ys i
  reached near =
      let inside = (widened-exactly radius clamp near.x near.y sides.0 sides.1).1 (near.near-x, near.near-y) in
      record {
        from = near.from;
        to = near.to;
        wide = near.wide;
        shares = record { x = near.x; y = near.y; box-x = near.box-x; box-y = near.box-y; inside = inside };
      }

pub accepted-list-is-exact : AcceptedListIsExact
accepted-list-is-exact m c clamp radius before e i =
    let a = accepted-says m c clamp radius before e in
    let sides = sides-order clamp a.sides in
    let as_many = (sizes-of-passes m c.knots c.xs c.ys a.passed).as_many in
    let wide = widened-order radius clamp sides.0 sides.1 in
    Iff.trans (listed-exactly (widened radius clamp) m c.knots c.xs c.ys as_many wide.0 wide.1 i)
    (reaches clamp radius m c.knots c.xs c.ys i sides, reached clamp radius m c.knots c.xs c.ys i sides)

pub refusal-lists-nothing : RefusalListsNothing
refusal-lists-nothing m c clamp radius before n e = (λ answer says. says.0 ∙ e, rw (e, eqb-suc-zero n))
