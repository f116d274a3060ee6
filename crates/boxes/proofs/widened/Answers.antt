-- Every side is on the grid, so it can be moved.
use mathlib.Core.Bool.{true}
use mathlib.Core.Path.{◌≡◌}
use Rattle.grid.specs.Rows.{on_grid}
use Rattle.boxes.specs.Widening.{widened}
use Rattle.boxes.proofs.WideningLaws.{sides-on-grid, radius-fits, lowered-fits, raised-fits, lowered, raised}
use Rattle.boxes.proofs.widened.Goals.{Start}
use Rattle.boxes.proofs.widened.Goals as goal

on_sides : (s : Start) → ((on_grid s.args.clamp.low_x ≡ true) × (on_grid s.args.clamp.high_x ≡ true))
    × ((on_grid s.args.clamp.low_y ≡ true) × (on_grid s.args.clamp.high_y ≡ true))
on_sides s = sides-on-grid _ _ _ _ s.requires.0

pub overflow_cast-by : goal.overflow_cast-by
overflow_cast-by c = radius-fits c.args.radius c.requires.1

pub overflow_sub-result : goal.overflow_sub-result
overflow_sub-result c = lowered-fits c.args.radius c.requires.1 c.args.clamp.low_x (on_sides (goal.at.overflow_sub-result c).Start).0.0

pub overflow_add-result : goal.overflow_add-result
overflow_add-result c = raised-fits c.args.radius c.requires.1 c.args.clamp.high_x (on_sides (goal.at.overflow_add-result c).Start).0.1

pub overflow_sub-result-2 : goal.overflow_sub-result-2
overflow_sub-result-2 c = lowered-fits c.args.radius c.requires.1 c.args.clamp.low_y (on_sides (goal.at.overflow_sub-result-2 c).Start).1.0

pub overflow_add-result-2 : goal.overflow_add-result-2
overflow_add-result-2 c = raised-fits c.args.radius c.requires.1 c.args.clamp.high_y (on_sides (goal.at.overflow_add-result-2 c).Start).1.1

pub returns : goal.returns
unfolding widened
returns c = record {
  answer = let r = c.args.radius in
      let clamp = c.args.clamp in
      let on = on_sides (goal.at.returns c).Start in
      λ i.
      record {
        low_x = lowered r c.requires.1 clamp.low_x on.0.0 i;
        high_x = raised r c.requires.1 clamp.high_x on.0.1 i;
        low_y = lowered r c.requires.1 clamp.low_y on.1.0 i;
        high_y = raised r c.requires.1 clamp.high_y on.1.1 i;
      };
}
