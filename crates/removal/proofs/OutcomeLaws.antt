-- A removal comes to one number and one curve.
use mathlib.Core.Path.{◌≡◌, sym, ap, ◌∙◌}
use Prim.Native.Nat.{ℕ}
use native.Mathlib.Omega.{arith}
use Rattle.curve.specs.Lists.{Lists}
use Rattle.curve.specs.HandingOver.{room_number}
use Rattle.removal.proofs.PolygonLaws.{removes-unique}
use Rattle.removal.specs.Outcome.{RemovalComesTo, refused, not_removable, removed}

module _ (m : ℕ) (c : Lists) (v : ℕ) (before : Lists) where
  pub same_number : (n k : ℕ) (d e : Lists) → RemovalComesTo m c v before n d → RemovalComesTo m c v before k e → n ≡ k
  same_number n k d e (refused r p) (refused s q) = p ∙ sym q
  same_number n k d e (refused r p) (not_removable z o q) = absurd (r z)
  same_number n k d e (refused r p) (removed z o q) = absurd (r z)
  same_number n k d e (not_removable z o p) (refused s q) = absurd (s z)
  same_number n k d e (not_removable z o p) (not_removable y w q) = p ∙ sym q
  same_number n k d e (not_removable z o p) (removed y r q) = absurd (o (record { without = e; removes = r }))
  same_number n k d e (removed z r p) (refused s q) = absurd (s z)
  same_number n k d e (removed z r p) (not_removable y o q) = absurd (o (record { without = d; removes = r }))
  same_number n k d e (removed z r p) (removed y s q) = p ∙ ap (λ (l : Lists). room_number l before) (removes-unique m v c d e r s) ∙ sym q

  pub same-curve : (d e : Lists) → RemovalComesTo m c v before 0 d → RemovalComesTo m c v before 0 e → d ≡ e
  same-curve d e (removed z r p) (removed y s q) = removes-unique m v c d e r s
  same-curve d e (refused r p) g = absurd (r (sym p))
  same-curve d e (not_removable z o p) g = absurd (omega arith)
  same-curve d e (removed z r p) (refused s q) = absurd (s z)
  same-curve d e (removed z r p) (not_removable y o q) = absurd (omega arith)
