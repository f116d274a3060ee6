-- Row 7: the flag says whether the entries that were passed are on the grid.
use mathlib.Core.Path.{◌≡◌, ap, ◌∙◌}
use lib.IntN.{pos}
use lib.ListN.{get_or}
use mir.Syntax.{w32}
use mir.Facts.{to_z-of_z}
use Rattle.std.proofs.Common.{rules, FitsSigned}
use Rattle.grid.specs.Rows.{on_grid}
use Rattle.grid.proofs.EntryLaws.{all_more}
use Rattle.grid.proofs.range.all_on_grid.Goals as goal

pub loop-z-preserved : goal.loop-z-preserved
loop-z-preserved c =
    let fits : FitsSigned w32 (get_or c.args.zs.now c.loop-z.z-index (pos 0)) = search rules in
    let test : c.on_grid-fine.result ≡ on_grid (get_or c.args.zs.now c.loop-z.z-index (pos 0)) = c.on_grid-fine.ensures.answer ∙ ap on_grid (to_z-of_z fits) in
    rw (test, all_more c.args.zs.now c.loop-z.z-index (pos 0) c.loop-z-test.true, ← c.loop-z.invariant)
