-- The difference of two knots, the right one above the left one.
use mathlib.Core.Path.{sym}
use Prim.Native.Nat.{◌+◌}
use native.Mathlib.Omega.{arith}
use lib.ListN.{get_or}
use Rattle.insertion.specs.Insertion.{weight}
use Rattle.signed.proofs.DifferenceLaws.{pos-sub}
use Rattle.insertion_parts.proofs.weight_at.Goals as goal

pub returns : goal.returns
unfolding weight
returns c =
    let a = c.args in record { answer = sym (pos-sub (get_or a.knots.now (a.j + a.m) 0) (get_or a.knots.now a.j 0) (omega arith)); above = omega arith }
