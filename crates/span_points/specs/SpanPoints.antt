-- Two curves of degree m over the same knots that agree on span i, which is not empty, have the same m+1 carrying numbers there.
use Rattle.std.specs.Prelude.{◌≡◌, ℕ, ◌+◌, ◌≤◌}
use Rattle.algebra.specs.OrderedField.{OrderedField, AtMost, Below}
use Rattle.splines.specs.Triangle.{entry}
use Rattle.splines.specs.Span.{Rising}

abbrev pub SpanFixesPoints : OrderedField → Type 0
SpanFixesPoints F =
    (ts ps qs : ℕ → F.operations.Number) (m i : ℕ) → Rising F ts (i + m) → m ≤ i → Below F (ts i) (ts (i + 1))
    → ((t : F.operations.Number) → AtMost F (ts i) t → Below F t (ts (i + 1))
    → entry F.operations ts ps m t m i ≡ entry F.operations ts qs m t m i)
    → (j : ℕ) → i ≤ j + m → j ≤ i → ps j ≡ qs j
