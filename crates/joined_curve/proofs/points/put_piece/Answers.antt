-- Three stores in a row: the two inner points, which are on the grid, and the end.
use mathlib.Core.Path.{◌≡◌, ◌∙◌}
use Prim.Native.Nat.{suc, ◌+◌}
use native.Mathlib.Omega.{arith}
use lib.IntN.{pos}
use lib.ListN.{get_or}
use mir.Syntax.{w32, w64}
use mir.Val.{to_z, of_z}
use mir.ValLaws.{to_z-of_z}
use Rattle.spline_pieces.specs.Pieces.{piece_of, piece_at, piece_on_grid}
use Rattle.spline_pieces.proofs.GridLaws.{inner-on-grid}
use Rattle.spline_pieces.proofs.PieceLaws.{every-each}
use borrow.Author.Rules.{sfits_of, rules}
use Rattle.joined_curve.proofs.points.put_piece.Goals.{After-arriving, After-leaving}
use Rattle.joined_curve.proofs.points.put_piece.Goals as goal

leaves : (c : After-leaving) → let a = c.args in
    to_z w64 (of_z w64 c.leaving.result) ≡ (piece_at a.points.params.now a.points.ps.now a.points.ds.now a.i).leaving
leaves c = to_z-of_z w64 c.leaving.result (sfits_of c.leaving.type_inv) ∙ c.leaving.ensures.answer

pub narrowed-requires : goal.narrowed-requires
narrowed-requires c = let a = c.args in
    rw (leaves c) (inner-on-grid _ (every-each piece_on_grid a.points.params.now a.points.ps.now a.points.ds.now c.requires.points_value a.i c.requires.i_in_bounds.0)).0

arrives : (c : After-arriving) → let a = c.args in
    to_z w64 (of_z w64 c.arriving.result) ≡ (piece_at a.points.params.now a.points.ps.now a.points.ds.now a.i).arriving
arrives c = to_z-of_z w64 c.arriving.result (sfits_of c.arriving.type_inv) ∙ c.arriving.ensures.answer

pub narrowed-requires-2 : goal.narrowed-requires-2
narrowed-requires-2 c = let a = c.args in
    rw (arrives c) (inner-on-grid _ (every-each piece_on_grid a.points.params.now a.points.ps.now a.points.ds.now c.requires.points_value a.i c.requires.i_in_bounds.0)).1

pub returns : goal.returns
unfolding piece_at piece_of
returns c = record {
  result = let a = c.args in
      let next : a.at + 1 ≡ suc a.at = omega arith in
      let third : a.at + 2 ≡ suc (suc a.at) = omega arith in
      let point : a.i + 1 ≡ suc a.i = omega arith in
      let first = to_z-of_z w32 c.narrowed.result (sfits_of c.narrowed.type_inv) ∙ c.narrowed.ensures.answer ∙ leaves (goal.at.returns c).After-leaving in
      let second = to_z-of_z w32 c.narrowed-2.result (sfits_of c.narrowed-2.type_inv) ∙ c.narrowed-2.ensures.answer ∙ arrives (goal.at.returns c).After-arriving in
      let end = to_z-of_z w32 (get_or a.points.ps.now (a.i + 1) (pos 0)) (search rules) in
      rw (first, second, end, next, third, point);
}
