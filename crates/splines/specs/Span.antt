-- What the laws ask of the knots and of the parameter (headings "The curve on the grid", "The point at a parameter").
use Rattle.std.specs.Prelude.{ℕ, ◌+◌, ◌≤◌}
use Rattle.algebra.specs.OrderedField.{OrderedField, AtMost, Below}

-- the knots never fall up to the one with index `last`; nothing is said of those behind it
abbrev pub Rising : (F : OrderedField) (ts : ℕ → F.operations.Number) (last : ℕ) → Type 0
Rising F ts last = (a b : ℕ) → a ≤ b → b ≤ last → AtMost F (ts a) (ts b)

-- span i is not empty and holds t, its two ends included
pub record InSpan (F : OrderedField) (ts : ℕ → F.operations.Number) (i : ℕ) (t : F.operations.Number) : Type 0 where
  pub low : AtMost F (ts i) t
  pub high : AtMost F t (ts (i + 1))
  pub some : Below F (ts i) (ts (i + 1))

-- the span rule: i is the largest index from m to n with t_i ≤ t and t_i < t_{i+1}
pub record SpanRule (F : OrderedField) (ts : ℕ → F.operations.Number) (m n : ℕ) (t : F.operations.Number) (i : ℕ)
    : Type 0 where
  pub from : m ≤ i
  pub to : i ≤ n
  pub starts : AtMost F (ts i) t
  pub wide : Below F (ts i) (ts (i + 1))
  pub largest : (j : ℕ) → j ≤ n → AtMost F (ts j) t → Below F (ts j) (ts (j + 1)) → j ≤ i
