-- How many spans a curve can have.
use mathlib.Core.Bool.{Bool, true, false, cond}
use mathlib.Core.List.{List, ◌∷◌}
use Prim.Native.Nat.{ℕ, zero, suc, ◌-◌, ◌≤◌}
use native.Mathlib.Omega.{arith}
use lib.IntN.{ℤ}
use lib.ListN.{length}
use Rattle.boxes.specs.declared.Rectangle.{Rectangle}
use Rattle.span_walk.specs.SpansMet.{up_from, keep, non_empty, span_count, to_check, spans_met}

-- no more is kept of a run than its numbers
kept-most : (test : ℕ → Bool) (i count : ℕ) → length (keep test (up_from i count)) ≤ count
unfolding keep up_from
kept-most test i zero = omega arith
kept-most test i (suc count) = by (test i) (kept-most test (suc i) count)
  where
    by : (t : Bool) → length (keep test (up_from (suc i) count)) ≤ count → length (cond t (i ∷ keep test (up_from (suc i) count)) (keep test (up_from (suc i) count))) ≤ suc count
    by true h = omega arith
    by false h = omega arith

pub span_count-most : (m : ℕ) (ts : List ℕ) (count : ℕ) → span_count m ts count ≤ count - m
unfolding span_count
span_count-most m ts count = kept-most (non_empty ts) m (count - m)

-- and no more of them may meet a clamp
pub met-most : (clamp : Rectangle) (m : ℕ) (ts : List ℕ) (xs ys : List ℤ) → length (spans_met clamp m ts xs ys) ≤ length xs - m
unfolding spans_met
met-most clamp m ts xs ys = kept-most (to_check clamp m ts xs ys) m (length xs - m)
