-- Row 14 for a job: all clamps are right, or some clamp is not.
use mathlib.Core.List.{List}
use mathlib.Core.Path.{refl}
use Prim.Native.Nat.{ℕ, ◌<◌}
use lib.ListN.{length, get_or}
use Rattle.grid.specs.Rows.{rectangle_ok}
use Rattle.checked.proofs.TestLaws.{Judged, every-judged}
use Rattle.checked.proofs.GridLaws.{AxisRight, rectangle-judged}
use Rattle.clamps.specs.Clamp.{Clamp, no_clamp, clamps_ok}
use Rattle.clamps.specs.Sentences.{SomeClampWrong}

abbrev pub ClampRight : Clamp → Type 0
ClampRight c = AxisRight c.low_x c.high_x × AxisRight c.low_y c.high_y

pub clamps-judged : (cs : List Clamp) → Judged (clamps_ok cs) ((k : ℕ) → k < length cs → ClampRight (get_or cs k no_clamp)) (SomeClampWrong cs)
unfolding clamps_ok
clamps-judged =
    every-judged (λ c. rectangle_ok c.low_x c.high_x c.low_y c.high_y) clamps_ok refl (λ c cs. refl) no_clamp
    (λ c. rectangle-judged c.low_x c.high_x c.low_y c.high_y)
