-- Both ends clamped at once, over any arithmetic: the knots and the points.
use Rattle.std.specs.Prelude.{cond, ℕ, ◌+◌, leb}
use Rattle.algebra.specs.Operations.{Operations}
use Rattle.end_rows.specs.EndRows.{start_number, finish_number}

-- t_m up to index m, then the old knots, then t_{n+1} from index n+1 on
unfoldable pub both_knots : (O : Operations) (ts : ℕ → O.Number) (m n : ℕ) → ℕ → O.Number
both_knots O ts m n j = cond (leb j m) (ts m) (cond (leb j n) (ts j) (ts (n + 1)))

-- the first m-1 points are those of the clamped start, the others those of the clamped end; between the ends these are the old points
unfoldable pub both_points : (O : Operations) (ts ps : ℕ → O.Number) (m n : ℕ) → ℕ → O.Number
both_points O ts ps m n j = cond (leb (j + 2) m) (start_number O ts ps m j) (finish_number O ts ps m n j)
