-- The loop's invariant: the total is the length of the pairs before point k, at most 24 bytes each.
use mathlib.Core.Path.{◌≡◌}
use Prim.Native.Nat.{◌*◌, ◌-◌, ◌≤◌}
use lib.ListN.{length}
use Rattle.path_data.specs.Text.{pairs_text}
use Rattle.path_text.proofs.measuring.pairs_length.Given as goal

abbrev pub invariant-loop-k : goal.invariant-loop-k
invariant-loop-k l = (l.total ≡ length (pairs_text l.piece.xs l.piece.ys 1 (l.k - 1))) × (l.total ≤ 24 * (l.k - 1))
