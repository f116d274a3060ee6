-- The knots up to t_{n+1} are copied, and the new ones are stored one by one (the invariant).
use mathlib.Core.Path.{◌≡◌, sym, ◌∙◌}
use Prim.Native.Nat.{◌+◌, ◌<◌}
use native.Mathlib.Omega.{arith}
use lib.ListN.{length}
use Rattle.lent.proofs.StoreLaws.{stored_more, stored-all}
use Rattle.insertion.proofs.EntryLaws.{entries-length, entries_at}
use Rattle.insertion.proofs.PartLaws.{stored-anew, stored-since}
use Rattle.unclamping.specs.Unclamping.{open_knot}
use Rattle.unclamp_parts.proofs.KnotLaws.{knots-stored}
use Rattle.unclamp_parts.proofs.writing.write_knots.Goals as goal

pub loop-k-init : goal.loop-k-init
loop-k-init c = let a = c.args in
    let first = c.copy_into in stored-anew (knots-stored a.curve.degree a.curve.knots.now (length a.curve.xs.now) a.out.now first.new.to c.requires.knots_ending c.requires.knots_in_bounds first.ensures.result)

pub loop-k-preserved : goal.loop-k-preserved
loop-k-preserved c = let a = c.args in
    let l = c.loop-k in let place : (length a.curve.xs.now) + l.k + 1 ≡ (length a.curve.xs.now) + (l.k + 1) = omega arith in
    let inside : (length a.curve.xs.now) + l.k < length a.curve.knots.now = omega (arith, c.loop-k-test.true, c.requires.knots_ending.places) in
    rw place at (stored_more l.invariant c.new_knot.result 0 (rw (entries-length (open_knot a.curve.knots.now (length a.curve.xs.now)) (length a.curve.knots.now)) inside)
    (entries_at (open_knot a.curve.knots.now (length a.curve.xs.now)) (length a.curve.knots.now) ((length a.curve.xs.now) + l.k) 0 inside ∙ sym c.new_knot.ensures.answer))

pub returns : goal.returns
returns c = record {
  result = let a = c.args in
      let l = c.loop-k in let first = c.copy_into in stored-all
      (stored-since (knots-stored a.curve.degree a.curve.knots.now (length a.curve.xs.now) a.out.now first.new.to c.requires.knots_ending c.requires.knots_in_bounds first.ensures.result) (omega arith) l.invariant)
      (omega (arith, c.loop-k-test.false, c.requires.knots_ending.places, entries-length (open_knot a.curve.knots.now (length a.curve.xs.now)) (length a.curve.knots.now)));
}
