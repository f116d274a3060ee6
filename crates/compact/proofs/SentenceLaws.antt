-- The answered number counts what one pass took.
use mathlib.Core.Path.{◌≡◌, sym, ◌∙◌, subst}
use Prim.Native.Nat.{ℕ}
use Rattle.curve.specs.Lists.{Lists}
use Rattle.curve.specs.HandingOver.{handed_over}
use Rattle.compaction.specs.Compaction.{CompactsTo}
use Rattle.compaction.specs.Sentences.{Leaves}
use Rattle.compaction.proofs.SentenceLaws.{pass-counted}
use Rattle.compaction.specs.Outcome.{CompactionComesTo, refused, compacted, knots_taken}
use Rattle.compact.specs.Sentences.{CompactionCounts}

module _ (m : ℕ) (c before : Lists) (k : ℕ) (now : Lists) where
  counted : (number : ℕ) (d : Lists) → CompactionComesTo m c before number d → 0 ≡ number → k ≡ knots_taken c d → now ≡ handed_over number d before
      → (d : Lists) × CompactsTo m c d × Leaves m c d k × (now ≡ handed_over 0 d before)
  counted number d (refused n e) z a h = absurd (n (sym e ∙ sym z))
  counted number d (compacted p pass e) z a h = (d, pass, subst (Leaves m c d) (sym a) (pass-counted m c d pass), rw (sym z) at h)

pub compaction-counts : CompactionCounts
compaction-counts m c before k now o = counted m c before k now o.number o.result o.comes_to o.answers.0 o.answers.1 o.hands
