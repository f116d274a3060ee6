-- The loop's invariant: the text of the pieces behind the walk is written, and there is room for the rest.
use mathlib.Core.Path.{◌≡◌}
use Prim.Native.Nat.{◌-◌}
use lib.ListN.{length}
use Rattle.checked.specs.Along.{lists_of}
use Rattle.svg_out.proofs.WriteLaws.{Writing}
use Rattle.svg_out.proofs.writing.put_path.Given as goal

abbrev pub invariant-loop-walk : goal.invariant-loop-walk
invariant-loop-walk l =
    Writing l.curve.degree (lists_of l.curve) l.initial.pen.out.now l.pen.out.now l.walk l.pen.at
    × (l.pen.out.ghost_name ≡ l.initial.pen.out.ghost_name)

abbrev pub decreases-loop-walk : goal.decreases-loop-walk
decreases-loop-walk l = length l.curve.xs.now - l.walk.span
