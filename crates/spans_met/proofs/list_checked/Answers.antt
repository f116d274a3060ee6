-- Each return cites the refusal that its tests have shown; the walk's contract gives the lists.
use mathlib.Core.Bool.{true, not}
use mathlib.Core.Path.{◌≡◌, refl, ap}
use native.Mathlib.Omega.{arith}
use mir.Syntax.{w32}
use Rattle.refusal.specs.declared.Refusal.TheVariants.{Radius, Rectangle, Room}
use Rattle.refusal.proofs.JudgingLaws.{test-failed, test-passed}
use Rattle.signed.proofs.ReadLaws.{number-as-read}
use Rattle.grid.specs.Rows.{radius_ok}
use Rattle.span_walk.specs.SpanLists.{span_lists}
use Rattle.spans_met.proofs.AnswerLaws.{sides_ok, number-radius, number-sides, number-room, number-none, ends-refused, ends-listed}
use Rattle.spans_met.proofs.list_checked.Goals.{After-sides_ok, Else-not-radius_ok}
use Rattle.spans_met.proofs.list_checked.Goals as goal

-- the radius has
short : (c : Else-not-radius_ok) → radius_ok c.args.radius ≡ true
short c = test-passed (ap not c.if-not-radius_ok.false) c.radius_ok.ensures.answer

-- what the test of the sides says of the clamp
sides : (c : After-sides_ok) → c.sides_ok.result ≡ sides_ok c.args.clamp
sides c =
    let clamp = c.args.clamp in
    let given = c.type_inv.clamp in
    rw (number-as-read w32 clamp.low_x given.0.1, number-as-read w32 clamp.high_x given.1.0.1, number-as-read w32 clamp.low_y given.1.1.0.1, number-as-read w32 clamp.high_y given.1.1.1.0.1) at c.sides_ok.ensures.answer

pub returns-then-not-radius_ok : goal.returns-then-not-radius_ok
returns-then-not-radius_ok c = let a = c.args.curve in
    let whole = ends-refused a.degree a.knots.now a.xs.now a.ys.now c.args.clamp c.args.radius c.args.lows.now c.args.highs.now Radius _ refl
    (number-radius a.degree a.knots.now a.xs.now a.ys.now c.args.clamp c.args.radius _ _ a.passes (test-failed (ap not c.if-not-radius_ok.true) c.radius_ok.ensures.answer)) in
    record { answer = whole.0; result = whole.1 }

pub returns-then-not-sides_ok : goal.returns-then-not-sides_ok
returns-then-not-sides_ok c = let a = c.args.curve in
    let before = goal.at.returns-then-not-sides_ok c in
    let whole = ends-refused a.degree a.knots.now a.xs.now a.ys.now c.args.clamp c.args.radius c.args.lows.now c.args.highs.now Rectangle _ refl
    (number-sides a.degree a.knots.now a.xs.now a.ys.now c.args.clamp c.args.radius _ _ a.passes (short before.Else-not-radius_ok) (test-failed (ap not c.if-not-sides_ok.true) (sides before.After-sides_ok))) in
    record { answer = whole.0; result = whole.1 }

pub returns-then-min-count_spans : goal.returns-then-min-count_spans
returns-then-min-count_spans c = let a = c.args.curve in
    let before = goal.at.returns-then-min-count_spans c in
    let whole = ends-refused a.degree a.knots.now a.xs.now a.ys.now c.args.clamp c.args.radius c.args.lows.now c.args.highs.now Room _ refl
    (number-room a.degree a.knots.now a.xs.now a.ys.now c.args.clamp c.args.radius _ _ a.passes (short before.Else-not-radius_ok) (test-passed (ap not c.if-not-sides_ok.false) (sides before.After-sides_ok)) (rw (c.min.ensures, c.count_spans.ensures.count) at c.if-min-count_spans.true)) in
    record { answer = whole.0; result = whole.1 }

pub returns : goal.returns
returns c = let a = c.args.curve in
    let before = goal.at.returns c in
    let filled = c.list_met.ensures in
    let reach = c.widened-reach.ensures.answer in
    let room = rw (c.min.ensures, c.count_spans.ensures.count) at c.if-min-count_spans.false in
    let whole = ends-listed a.degree a.knots.now a.xs.now a.ys.now c.args.clamp c.args.radius (span_lists c.args.lows.now c.args.highs.now) _ _
    (number-none a.degree a.knots.now a.xs.now a.ys.now c.args.clamp c.args.radius _ _ a.passes (short before.Else-not-radius_ok) (test-passed (ap not c.if-not-sides_ok.false) (sides before.After-sides_ok)) (omega (arith, room)) (omega (arith, room)))
    (rw reach at filled.count) (rw reach at filled.result) in
    record { answer = whole.0; result = whole.1 }
