-- The fewer knots, then each axis on them.
use mathlib.Core.Path.{◌≡◌, refl, sym, ap, ◌∙◌}
use Prim.Native.Nat.{◌-◌}
use native.Mathlib.Omega.{arith}
use Rattle.std.proofs.Common.{rules}
use Rattle.insertion.specs.Insertion.{knots_up_to, insertion_span}
use Rattle.insertion.proofs.SpanLaws.{knots_up_to-length, span-of-up_to}
use Rattle.removal.specs.Removal.{without_one}
use Rattle.removal.proofs.PolygonLaws.{inner-ranged, fewer-left}
use Rattle.removal_polygon.proofs.OutcomeLaws.{up_to-fewer, last-gone, outcome-reduced, outcome-no-x, outcome-by-y}
use Rattle.removal_polygon.proofs.remove_polygon.Goals.{After-remove_at}
use Rattle.removal_polygon.proofs.remove_polygon.Goals as goal

pub overflow_sub-at : goal.overflow_sub-at
overflow_sub-at c = omega (arith, c.knots_up_to-at.ensures.answer, up_to-fewer _ _ _ _ _ c.requires.inner)

pub remove_at-requires-clause-at_in_bounds : goal.remove_at-requires-clause-at_in_bounds
remove_at-requires-clause-at_in_bounds c =
    omega (arith, c.knots_up_to-at.ensures.answer, up_to-fewer _ _ _ _ _ c.requires.inner, knots_up_to-length c.args.v c.args.curve.knots.now)

pub overflow_sub-i : goal.overflow_sub-i
overflow_sub-i c = omega (arith, c.knots_up_to-at.ensures.answer, up_to-fewer _ _ _ _ _ c.requires.inner, fewer-left _ _ _ _ _ c.requires.inner)

-- what is written are the knots without the last v, and its span is the one in front of it
place : (c : After-remove_at) → c.knots_up_to-at.result - 1 ≡ knots_up_to c.args.v (without_one c.args.v c.args.curve.knots.now)
place c = omega (arith, c.knots_up_to-at.ensures.answer, up_to-fewer _ _ _ _ _ c.requires.inner)

gone : (c : After-remove_at) → c.remove_at.new.out ≡ without_one c.args.v c.args.curve.knots.now
gone c = c.remove_at.ensures.result ∙ last-gone _ _ _ _ _ c.requires.inner _ (place c)

spans : (c : After-remove_at) → c.knots_up_to-at.result - 1 - 1 ≡ insertion_span c.remove_at.new.out c.args.v
spans c = span-of-up_to c.remove_at.new.out c.args.v _ (place c ∙ ap (knots_up_to c.args.v) (sym (gone c)))

pub remove_axis-requires : goal.remove_axis-requires
remove_axis-requires c =
    let at = (goal.at.remove_axis-requires c).After-remove_at in
    record {
      reduced = outcome-reduced _ _ _ _ _ c.requires.inner _ (gone at) c.args.curve.xs.now refl;
      i_value = spans at;
      out_len = c.requires.xs_len;
      ranged = (inner-ranged _ _ _ _ _ c.requires.inner).0;
    }

pub returns-in_err-remove_axis : goal.returns-in_err-remove_axis
returns-in_err-remove_axis c = record {
  answer =
      outcome-no-x _ _ _ _ _ c.requires.inner _ (gone (goal.at.returns-in_err-remove_axis c).After-remove_at)
      c.remove_axis.new.out c.args.into.ys.now _ c.in_err-remove_axis.field-0.0 (search rules) c.in_err-remove_axis.ensures.answer;
}

pub remove_axis-requires-2 : goal.remove_axis-requires-2
remove_axis-requires-2 c =
    let at = (goal.at.remove_axis-requires-2 c).After-remove_at in
    record {
      reduced = outcome-reduced _ _ _ _ _ c.requires.inner _ (gone at) c.args.curve.ys.now c.args.curve.sizes.as_many;
      i_value = spans at;
      out_len = c.requires.ys_len;
      ranged = (inner-ranged _ _ _ _ _ c.requires.inner).1;
    }

pub returns : goal.returns
returns c = record {
  answer =
      outcome-by-y _ _ _ _ _ c.requires.inner _ (gone (goal.at.returns c).After-remove_at)
      c.remove_axis.new.out c.remove_axis-2.new.out _ c.in_ok-remove_axis.ensures.answer c.remove_axis-2.ensures.answer;
}
