-- The two points are small, and so is what lies between the two knots.
use mathlib.Core.Path.{◌∙◌}
use Prim.Native.Nat.{◌+◌}
use Rattle.clamp_rows.proofs.RowLaws.{first-is, point-read}
use Rattle.clamp_rows.proofs.first_row.Goals as goal

pub returns : goal.returns
returns c = record {
  answer = let a = c.args in
      let e = a.end in
      (rw (point-read e e.near a.k, point-read e e.near (a.k + 1)) at c.mean_of.ensures.answer) ∙ first-is e a.m a.k;
}
