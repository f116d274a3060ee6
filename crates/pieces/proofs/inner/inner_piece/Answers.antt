-- The high knot is not the right end, so it stands a run of times; its insertions are those of the whole curve, and the rows are then the piece and the next span's.
use mathlib.Core.Path.{◌≡◌}
use Prim.Native.Nat.{◌+◌}
use native.Mathlib.Omega.{arith}
use borrow.Author.Rules.{rules}
use lib.ListN.{length}
use Rattle.std.specs.Prelude.{Err}
use Rattle.checked.specs.Along.{lists_of}
use Rattle.cut_steps.specs.Step.{CutStands}
use Rattle.pieces.specs.Walk.{cut_up_to}
use Rattle.pieces.proofs.ValueLaws.{below_end}
use Rattle.pieces.proofs.WalkLaws.{bounds, run-few, run-within, opened-stands, fails, inner-hands}
use Rattle.pieces.proofs.inner.inner_piece.Goals.{After-opened-begun}
use Rattle.pieces.proofs.inner.inner_piece.Goals as goal

pub run_behind-s-requires : goal.run_behind-s-requires
run_behind-s-requires c =
    let a = c.args in
    let at = c.requires.0 in (
      a.curve.rising,
      (bounds a.curve.degree (lists_of a.curve) a.walk at).knots,
      record {
        place = length a.curve.xs.now;
        inside = omega (arith, a.curve.sizes.knots);
        larger = below_end a.curve.degree a.curve.knots.now a.curve.xs.now a.curve.ys.now a.curve.passes at.window.clamped (a.walk.span + 1) c.requires.1;
      },
    )

pub opened-begun-requires : goal.opened-begun-requires
opened-begun-requires c =
    let a = c.args in
    let at = c.requires.0 in
    let run = c.run_behind-s.ensures.answer in
    let few = run-few a.curve.degree (lists_of a.curve) a.walk at c.run_behind-s.result run in
    let within = run-within a.curve.degree (lists_of a.curve) a.walk at c.run_behind-s.result run in
    (omega (arith, few, a.curve.sizes.degree-most), within, omega (arith, within, a.curve.sizes.as_many))

-- the span is opened as the curve stands
stands : (c : After-opened-begun) → let a = c.args in
    CutStands a.curve.degree (lists_of a.curve) (cut_up_to a.curve.degree (lists_of a.curve) a.walk.span) a.walk.span a.walk.index c.run_behind-s.result 0 c.opened-begun.result
stands c = let a = c.args in
    opened-stands a.curve.degree (lists_of a.curve) a.walk c.requires.0 c.run_behind-s.result c.run_behind-s.ensures.answer c.opened-begun.result c.opened-begun.ensures.answer

pub insert_rest-requires : goal.insert_rest-requires
insert_rest-requires c =
    let a = c.args in (
      (a.curve.xs.now, a.curve.ys.now, cut_up_to a.curve.degree (lists_of a.curve) a.walk.span, a.walk.index, stands (goal.at.insert_rest-requires c).After-opened-begun),
      run-few a.curve.degree (lists_of a.curve) a.walk c.requires.0 c.run_behind-s.result c.run_behind-s.ensures.answer,
    )

pub returns-in_err-cut : goal.returns-in_err-cut
returns-in_err-cut c = record {
  answer = let a = c.args in
      let refused = c.in_err-cut.field-0.0 in
      let same : c.from_residual.result ≡ Err refused = search rules in
      rw same
      (fails a.curve.degree (lists_of a.curve) a.walk c.requires.0 c.run_behind-s.result c.run_behind-s.ensures.answer refused
      (c.in_err-cut.ensures.answer a.curve.xs.now a.curve.ys.now (cut_up_to a.curve.degree (lists_of a.curve) a.walk.span) a.walk.index (stands (goal.at.returns-in_err-cut c).After-opened-begun)));
}

pub closed-requires : goal.closed-requires
closed-requires c =
    let a = c.args in
    let z = bounds a.curve.degree (lists_of a.curve) a.walk c.requires.0 in
    let few = run-few a.curve.degree (lists_of a.curve) a.walk c.requires.0 c.run_behind-s.result c.run_behind-s.ensures.answer in
    (z.degree, omega (arith, few, z.degree), z.index, omega (arith, z.span))

pub returns : goal.returns
returns c = record {
  answer = let a = c.args in
      inner-hands a.curve.degree (lists_of a.curve) a.walk c.requires.0 c.run_behind-s.result c.run_behind-s.ensures.answer c.in_ok-cut.cut c.closed.result.0 c.closed.result.1
      (c.in_ok-cut.ensures.answer a.curve.xs.now a.curve.ys.now (cut_up_to a.curve.degree (lists_of a.curve) a.walk.span) a.walk.index (stands (goal.at.returns c).After-opened-begun)) c.closed.ensures.answer;
}
