-- Compacting a curve comes to one number and one curve.
use mathlib.Core.Path.{◌≡◌, sym, ap, ◌∙◌}
use Prim.Native.Nat.{ℕ}
use Rattle.curve.specs.Lists.{Lists}
use Rattle.curve.specs.HandingOver.{room_number}
use Rattle.compaction.proofs.PassLaws.{pass-unique}
use Rattle.compaction.specs.Outcome.{CompactionComesTo, refused, compacted}

module _ (m : ℕ) (c before : Lists) where
  pub same_number : (n k : ℕ) (d e : Lists) → CompactionComesTo m c before n d → CompactionComesTo m c before k e → n ≡ k
  same_number n k d e (refused r p) (refused s q) = p ∙ sym q
  same_number n k d e (refused r p) (compacted z o q) = absurd (r z)
  same_number n k d e (compacted z o p) (refused s q) = absurd (s z)
  same_number n k d e (compacted z o p) (compacted y w q) = p ∙ ap (λ (l : Lists). room_number l before) (pass-unique o w) ∙ sym q

  pub same-curve : (d e : Lists) → CompactionComesTo m c before 0 d → CompactionComesTo m c before 0 e → d ≡ e
  same-curve d e (compacted z o p) (compacted y w q) = pass-unique o w
  same-curve d e (compacted z o p) (refused s q) = absurd (s z)
  same-curve d e (refused r p) g = absurd (r (sym p))
