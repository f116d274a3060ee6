-- So far as many are counted as are kept of the spans that were passed.
use mathlib.Core.Path.{◌≡◌}
use Prim.Native.Nat.{◌≤◌, ◌-◌}
use lib.ListN.{length}
use Rattle.span_walk.specs.SpansMet.{non_empty, up_from, keep}
use Rattle.span_walk.proofs.count_spans.Given as goal

abbrev pub invariant-loop-k : goal.invariant-loop-k
invariant-loop-k l =
    (l.so_far ≤ l.k) × (l.so_far ≡ length (keep (non_empty l.knots) (up_from l.m (l.k - l.m))))
