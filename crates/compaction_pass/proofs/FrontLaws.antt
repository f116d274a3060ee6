-- The curve at the front of lists: what copying over the front makes of it.
use mathlib.Core.List.{List}
use mathlib.Core.Path.{◌≡◌, ap, ◌∙◌}
use Prim.Native.Nat.{ℕ, ◌≤◌}
use native.Mathlib.Omega.{arith}
use lib.IntN.{ℤ}
use lib.ListN.{length, take, drop}
use lib.Seq.{take_all, take_at}
use Rattle.lent.specs.Lent.{over}
use Rattle.curve.specs.Lists.{Lists}

-- a copy of a shorter list over the front
pub copied-front : {A : Type 0} (source before after : List A) (k : ℕ) → length source ≡ k → k ≤ length before
    → after ≡ over (take (length before) source) before → take k after ≡ source
copied-front source before after k e fits h =
    ap (take k) (h ∙ rw (take_all (length before) source (omega arith))) ∙ take_at source (drop (length source) before) k e

-- two curves with the same lists
pub curve-is : (c : Lists) (ks : List ℕ) (xs ys : List ℤ) → ks ≡ c.knots → xs ≡ c.xs → ys ≡ c.ys → record { knots = ks; xs = xs; ys = ys } ≡ c
curve-is c ks xs ys p q r = λ i. record { knots = p i; xs = q i; ys = r i }
