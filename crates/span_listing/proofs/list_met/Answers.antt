-- After each span the lists hold the knots of the spans to check so far; each has its place, since those are no more than the non-empty ones.
use mathlib.Core.Bool.{true, false}
use mathlib.Core.List.{List, [], ◌∷◌, append-nil}
use mathlib.Core.Path.{◌≡◌, sym, ◌∙◌}
use Prim.Native.Nat.{ℕ, ◌+◌, ◌≤◌, ◌<◌}
use native.Mathlib.Nat.{sub_self}
use native.Mathlib.Omega.{arith}
use lib.IntN.{ℤ}
use lib.ListN.{length, get_or, length-append}
use Rattle.refusal.proofs.JudgingLaws.{both}
use Rattle.boxes.specs.declared.Rectangle.{Rectangle}
use Rattle.span_walk.specs.SpansMet.{non_empty, to_check, up_from, keep, span_count, spans_met, low_knots, high_knots}
use Rattle.span_walk.proofs.KeepLaws.{keep-up_to, keep-room}
use Rattle.span_walk.proofs.SpanListLaws.{span-lists-same}
use Rattle.span_listing.proofs.ListingLaws.{written_none, written_next}
use Rattle.span_listing.proofs.list_met.Invariants.{listed}
use Rattle.span_listing.proofs.list_met.Goals.{Then-meets, else-meets, then-meets}
use Rattle.span_listing.proofs.list_met.Goals as goal

pub loop-i-init : goal.loop-i-init
unfolding up_from keep
loop-i-init c = let a = c.args in
    let none = sub_self a.m in (
      rw none,
      rw none (written_none (λ k. get_or a.knots.now k 0) c.args.lows.now),
      rw none (written_none (λ k. get_or a.knots.now (k + 1) 0) c.args.highs.now),
    )

-- a span that is listed next has its place
place-left : (clamp : Rectangle) (m : ℕ) (ts : List ℕ) (xs ys : List ℤ) (i at : ℕ) → m ≤ i → i < length xs → at ≡ length (listed clamp m ts xs ys i)
    → to_check clamp m ts xs ys i ≡ true → at < span_count m ts (length xs)
unfolding span_count
place-left clamp m ts xs ys i at from below count met =
    rw count (keep-room (to_check clamp m ts xs ys) (non_empty ts) (λ k h. (both _ _ h).0) m i (length xs) from below met)

room : (c : Then-meets) → c.loop-i.at < span_count c.args.m c.args.knots.now (length c.args.xs.now)
room c =
    let turn = c.loop-i in let a = c.args in
    place-left c.args.clamp a.m a.knots.now a.xs.now a.ys.now turn.i turn.at (omega arith) (omega arith) turn.invariant.0 (sym c.meets.ensures.answer ∙ c.if-meets.true)

pub bounds-lows-at : goal.bounds-lows-at
bounds-lows-at c = omega (arith, room (goal.at.bounds-lows-at c).Then-meets)

pub bounds-highs-at : goal.bounds-highs-at
bounds-highs-at c = omega (arith, room (goal.at.bounds-highs-at c).Then-meets)

pub loop-i-preserved : goal.loop-i-preserved
loop-i-preserved c = let a = c.args in
    let at = c.loop-i in let test = to_check c.args.clamp a.m a.knots.now a.xs.now a.ys.now in
    let before = listed c.args.clamp a.m a.knots.now a.xs.now a.ys.now at.i in
    let next = keep-up_to test a.m at.i (omega arith) in
    elim c.if-meets.branch [
      | then-meets w ↦
          let met : test at.i ≡ true = sym c.meets.ensures.answer ∙ w.if-meets.true in
          let fits = place-left c.args.clamp a.m a.knots.now a.xs.now a.ys.now at.i at.at (omega arith) (omega arith) at.invariant.0 met in (
            rw (next, met, length-append before (at.i ∷ [])) (omega (arith, w.at-is)),
            rw (next, met) (written_next at.invariant.1 at.i at.at _ w.lows-is at.invariant.0 (omega arith)),
            rw (next, met) (written_next at.invariant.2 at.i at.at _ w.highs-is at.invariant.0 (omega arith)),
          )
      | else-meets w ↦
          let passed : test at.i ≡ false = sym c.meets.ensures.answer ∙ w.if-meets.false in (
            rw (next, passed, append-nil before) (w.at-is ∙ at.invariant.0),
            rw (next, passed, append-nil before, w.lows-is) at.invariant.1,
            rw (next, passed, append-nil before, w.highs-is) at.invariant.2,
          )
    ]

pub returns-clause-count : goal.returns-clause-count
unfolding spans_met
returns-clause-count c = let all : c.loop-i.i ≡ length c.args.xs.now = omega arith in rw (← all) c.loop-i.invariant.0

pub returns-clause-result : goal.returns-clause-result
unfolding spans_met low_knots high_knots
returns-clause-result c =
    let at = c.loop-i in let all : at.i ≡ length c.args.xs.now = omega arith in rw (← all) (span-lists-same at.invariant.1.holds at.invariant.2.holds)
