-- Clamping an end by inserting its value m times, over any arithmetic: knots and control numbers of degree m with the domain
-- t_m to t_{n+1}, before and after.
use Rattle.std.specs.Prelude.{ℕ, zero, suc, ◌+◌}
use Rattle.algebra.specs.Operations.{Operations}
use Rattle.splines.specs.Insertion.{inserted_knots, inserted_points}

-- knots and control numbers, read by index
pub record Spline (O : Operations) : Type 0 where
  pub knots : ℕ → O.Number
  pub points : ℕ → O.Number

-- one step at the start: t_m goes in behind index m, and the first knot and the first point are dropped
abbrev pub step_start : (O : Operations) (m : ℕ) → Spline O → Spline O
step_start O m c =
    record {
      knots = λ j. inserted_knots O c.knots m (c.knots m) (j + 1);
      points = λ j. inserted_points O c.knots c.points m m (c.knots m) (j + 1);
    }

-- one step at the end: t_{n+1} goes in behind index n; what then stands too far behind is not read
abbrev pub step_end : (O : Operations) (m n : ℕ) → Spline O → Spline O
step_end O m n c =
    record {
      knots = inserted_knots O c.knots n (c.knots (n + 1));
      points = inserted_points O c.knots c.points m n (c.knots (n + 1));
    }

-- r steps of one kind
unfoldable pub steps : (O : Operations) → (Spline O → Spline O) → ℕ → Spline O → Spline O
steps O step zero c = c
steps O step (suc r) c = step (steps O step r c)

-- the start and the end after r steps
abbrev pub started : (O : Operations) (m r : ℕ) → Spline O → Spline O
started O m = steps O (step_start O m)

abbrev pub ended : (O : Operations) (m n r : ℕ) → Spline O → Spline O
ended O m n = steps O (step_end O m n)
