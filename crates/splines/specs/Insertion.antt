-- Inserting a knot, over any arithmetic (heading "Inserting and removing a knot"): v goes in behind the knot with index k,
-- where t_k ≤ v < t_{k+1}.
use Rattle.std.specs.Prelude.{cond, ℕ, ◌+◌, ◌-◌, leb, eqb}
use Rattle.algebra.specs.Operations.{Operations}
use Rattle.splines.specs.Triangle.{cell}

-- the new knots: t_0, .., t_k, v, t_{k+1}, ..
unfoldable pub inserted_knots : (O : Operations) (ts : ℕ → O.Number) (k : ℕ) (v : O.Number) → ℕ → O.Number
inserted_knots O ts k v j = cond (leb j k) (ts j) (cond (eqb j (k + 1)) v (ts (j - 1)))

-- the new control numbers of degree m: P_j up to k-m, then ((t_{j+m} - v)·P_{j-1} + (v - t_j)·P_j) / (t_{j+m} - t_j) up to k,
-- then P_{j-1}
unfoldable pub inserted_points : (O : Operations) (ts ps : ℕ → O.Number) (m k : ℕ) (v : O.Number) → ℕ → O.Number
inserted_points O ts ps m k v j =
    cond (leb (j + m) k) (ps j) (cond (leb j k) (cell O (ts (j + m)) v (ts j) (ps (j - 1)) (ps j)) (ps (j - 1)))

-- the span of the old knots that holds span i of the new ones: one index less behind the inserted knot
unfoldable pub old_span : (k i : ℕ) → ℕ
old_span k i = cond (leb i k) i (i - 1)
