-- The remainder first, then the range.
use mathlib.Core.Path.{◌≡◌, refl, sym, ◌∙◌}
use mir.Syntax.{w64}
use mir.Val.{to_z, of_z}
use mir.ValLaws.{to_z-of_z}
use Rattle.clamping.specs.EndRows.{finish_of}
use Rattle.clamping.specs.Clamping.{is_whole}
use Rattle.unclamping.specs.Unclamping.{open_number}
use Rattle.unclamp_parts.specs.Standing.{fits}
use Rattle.unclamp_parts.proofs.PointLaws.{whole-as-read}
use borrow.Author.Rules.{sfits_of}
use Rattle.unclamp_parts.proofs.judging.point_fits.Goals.{After-below-d, After-is_multiple}
use Rattle.unclamp_parts.proofs.judging.point_fits.Goals as goal

-- what stands above the line, as it is read; and the test, which is that of the number
upper : (c : After-below-d) → let a = c.args in
    to_z w64 (of_z w64 c.above-sum.result) ≡ (open_number (finish_of a.end.knots.now a.end.points.now) a.end.degree a.k).upper
upper c = let u = c.above-sum in to_z-of_z w64 u.result (sfits_of u.type_inv) ∙ u.ensures.answer

whole : (c : After-is_multiple) → let a = c.args in
    c.is_multiple.result ≡ is_whole (open_number (finish_of a.end.knots.now a.end.points.now) a.end.degree a.k)
whole c =
    let upper : let a = c.args in
    to_z w64 (of_z w64 c.above-sum.result) ≡ (open_number (finish_of a.end.knots.now a.end.points.now) a.end.degree a.k).upper = let u = c.above-sum in to_z-of_z w64 u.result (sfits_of u.type_inv) ∙ u.ensures.answer in
    let a = c.args in
    c.is_multiple.ensures.answer
    ∙ whole-as-read (open_number (finish_of a.end.knots.now a.end.points.now) a.end.degree a.k) (to_z w64 (of_z w64 c.above-sum.result)) c.below-d.result upper c.below-d.ensures.answer

pub returns-else-is_multiple : goal.returns-else-is_multiple
unfolding fits
returns-else-is_multiple c = record { answer = c.if-is_multiple.false ∙ rw (sym (whole (goal.at.returns-else-is_multiple c).After-is_multiple) ∙ c.if-is_multiple.false) refl }

pub returns-then-is_multiple : goal.returns-then-is_multiple
unfolding fits
returns-then-is_multiple c = record {
  answer = let q = c.wide_quotient in rw (sym (whole (goal.at.returns-then-is_multiple c).After-is_multiple) ∙ c.if-is_multiple.true)
      (rw (to_z-of_z w64 q.result (sfits_of q.type_inv), q.ensures.answer, upper (goal.at.returns-then-is_multiple c).After-below-d, c.below-d.ensures.answer) at c.on_grid_wide.ensures.answer);
}
