-- Every cut is reported: where the cutter reaches the clamp the exact point lies in the widened clamp; the span of such a parameter is not empty,
-- and its box meets the widened clamp on both axes, so it is on the list.
use mathlib.Core.Bool.{true}
use mathlib.Core.List.{List}
use mathlib.Core.Path.{◌≡◌, refl, sym, ◌∙◌, subst}
use Prim.Native.Nat.{ℕ, ◌+◌, ◌-◌, ◌<◌}
use native.Mathlib.Decide.{ℕ_discrete}
use native.Mathlib.Omega.{arith}
use lib.IntN.{ℤ}
use lib.ListN.{length, get_or}
use borrow.Author.Tests.{lt-ltb}
use Rattle.refusal.specs.Numbers.{accepted}
use Rattle.grid.specs.Check.{Passes, check_number}
use Rattle.checked.specs.Checked.{Checked}
use Rattle.checked.proofs.CheckedLaws.{checked-of-passes}
use Rattle.curve.specs.Lists.{lists}
use Rattle.boxes.specs.Widening.{widened}
use Rattle.boxes.specs.declared.Rectangle.{Rectangle}
use Rattle.span.specs.Span.{span_of, in_domain}
use Rattle.span.proofs.SpanLaws.{span-holds, in_domain-says}
use Rattle.exact.proofs.DomainLaws.{domain-span, domain-carried}
use Rattle.span_walk.specs.SpansMet.{box_meets, to_check, spans_met, low_knots, high_knots}
use Rattle.span_walk.specs.SpanLists.{SpanLists}
use Rattle.span_walk.specs.Sentences.{Stands}
use Rattle.span_walk.proofs.ListedLaws.{keep-has, map_at}
use Rattle.spans_met.specs.Answer.{list_number}
use Rattle.spans_met.proofs.AnswerLaws.{number-curve}
use Rattle.spans_met_exact.specs.Crossing.{InClamp, ReportedAt, EveryCutReported, EveryCrossingReported}
use Rattle.spans_met_exact.proofs.MeetsLaws.{exact-meets}
use Rattle.spans_met_exact.proofs.DistanceLaws.{reached-within, no-width-widens-nothing, no-width-is-the-point}

-- a call that refuses nothing has a curve that passes the check
accepted-passes : (m : ℕ) (ts : List ℕ) (xs ys : List ℤ) (clamp : Rectangle) (radius : ℕ) (lent : SpanLists)
    → list_number m (lists ts xs ys) clamp radius lent ≡ accepted → Passes m ts xs ys
accepted-passes m ts xs ys clamp radius lent e = by (ℕ_discrete (check_number m ts xs ys) 0)
  where
    by : Dec (check_number m ts xs ys ≡ 0) → Passes m ts xs ys
    by (yes h) = h
    by (no h) = absurd (h (sym (number-curve m ts xs ys clamp radius (length lent.lows) (length lent.highs) h) ∙ e))

-- `reach` is any rectangle in which the exact point lies
module _ (m : ℕ) (ts : List ℕ) (xs ys : List ℤ) (reach : Rectangle) (c : Checked m ts xs ys) (p q : ℕ) (above : 0 < q) (inside : in_domain ts m (length xs - 1) p q ≡ true) where
  -- the box of the parameter's span meets the rectangle
  crossing-meets : InClamp reach m ts xs ys p q → box_meets reach m xs ys (span_of ts m (length xs - 1) p q) ≡ true
  unfolding box_meets
  crossing-meets hit =
      rw (
        exact-meets ts xs m (span_of ts m (length xs - 1) p q) p q (domain-carried m ts xs ys c xs refl p q above inside) reach.low_x reach.high_x hit.x.above hit.x.under,
        exact-meets ts ys m (span_of ts m (length xs - 1) p q) p q (domain-carried m ts xs ys c ys c.sizes.as_many p q above inside) reach.low_y reach.high_y (rw c.sizes.as_many at hit.y.above) (rw c.sizes.as_many at hit.y.under),
      )

  -- so that span is listed
  crossing-listed : InClamp reach m ts xs ys p q → Stands (spans_met reach m ts xs ys) (span_of ts m (length xs - 1) p q)
  unfolding spans_met
  crossing-listed hit =
      let s = domain-span m ts xs ys c p q inside in
      keep-has (to_check reach m ts xs ys) m (length xs - m) (span_of ts m (length xs - 1) p q) s.from (omega (arith, s.to, c.sizes.enough)) (rw (lt-ltb _ _ s.wide) (crossing-meets hit))

  -- and its two knots hold the parameter
  crossing-reported : InClamp reach m ts xs ys p q → (k : ℕ) × ReportedAt reach m ts xs ys p q k
  unfolding low_knots high_knots
  crossing-reported hit =
      let s = domain-span m ts xs ys c p q inside in
      let there = crossing-listed hit in
      let holds = span-holds ts m (length xs - 1) p q (span_of ts m (length xs - 1) p q) s (in_domain-says ts m (length xs - 1) p q inside).1 in (
        there.0,
        record {
          listed = there.1;
          span = there.2;
          low = rw (map_at (λ i. get_or ts i 0) (spans_met reach m ts xs ys) there.0 there.1, there.2) refl;
          high = rw (map_at (λ i. get_or ts (i + 1) 0) (spans_met reach m ts xs ys) there.0 there.1, there.2) refl;
          starts = rw (map_at (λ i. get_or ts i 0) (spans_met reach m ts xs ys) there.0 there.1, there.2) holds.0;
          ends = rw (map_at (λ i. get_or ts (i + 1) 0) (spans_met reach m ts xs ys) there.0 there.1, there.2) holds.1;
        },
      )

pub every-cut-reported : EveryCutReported
every-cut-reported m ts xs ys clamp radius lent p q e above inside hit =
    crossing-reported m ts xs ys (widened radius clamp) (checked-of-passes m ts xs ys (accepted-passes m ts xs ys clamp radius lent e)) p q above inside
    (reached-within clamp radius m ts xs ys p q hit)

pub every-crossing-reported : EveryCrossingReported
every-crossing-reported m ts xs ys clamp lent p q e above inside hit =
    subst (λ reach. (k : ℕ) × ReportedAt reach m ts xs ys p q k) (no-width-widens-nothing clamp)
    (every-cut-reported m ts xs ys clamp 0 lent p q e above inside ((no-width-is-the-point clamp m ts xs ys p q).1 hit))
