-- The loop's invariant: the pairs before point k are written.
use mathlib.Core.Path.{◌≡◌}
use Prim.Native.Nat.{◌-◌}
use Rattle.digits.specs.Put.{Put}
use Rattle.path_data.specs.Text.{pairs_text}
use Rattle.path_text.proofs.putting.put_pairs.Given as goal

abbrev pub invariant-loop-k : goal.invariant-loop-k
invariant-loop-k l =
    Put l.initial.pen.out.now l.initial.pen.at (pairs_text l.piece.xs l.piece.ys 1 (l.k - 1)) l.pen.out.now l.pen.at
    × (l.pen.out.ghost_name ≡ l.initial.pen.out.ghost_name)
