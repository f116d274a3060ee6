-- After each span the lists hold the knots of the spans to check so far; each has its place, since those are no more than the non-empty ones.
use mathlib.Core.List.{List}
use mathlib.Core.Path.{◌≡◌}
use Prim.Native.Nat.{ℕ, ◌+◌, ◌-◌}
use lib.IntN.{ℤ}
use lib.ListN.{length, get_or}
use Rattle.boxes.specs.declared.Rectangle.{Rectangle}
use Rattle.span_walk.specs.SpansMet.{to_check, up_from, keep}
use Rattle.span_listing.proofs.ListingLaws.{Written}
use Rattle.span_listing.proofs.list_met.Given as goal

-- the spans listed before i
abbrev pub listed : Rectangle → ℕ → List ℕ → List ℤ → List ℤ → ℕ → List ℕ
listed clamp m ts xs ys i = keep (to_check clamp m ts xs ys) (up_from m (i - m))

abbrev pub invariant-loop-i : goal.invariant-loop-i
invariant-loop-i l =
    let spans = listed l.clamp l.m l.knots l.xs l.ys l.i in
    (l.at ≡ length spans)
    × Written (λ k. get_or l.knots k 0) spans l.initial.lows l.lows
    × Written (λ k. get_or l.knots (k + 1) 0) spans l.initial.highs l.highs
