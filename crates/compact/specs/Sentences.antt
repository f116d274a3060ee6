-- What the number counts that compacting answers (heading "Inserting and removing a knot").
use Rattle.std.specs.Prelude.{Ok, ◌≡◌, ℕ}
use Rattle.curve.specs.Lists.{Lists}
use Rattle.curve.specs.HandingOver.{handed_over}
use Rattle.compaction.specs.Compaction.{CompactsTo}
use Rattle.compaction.specs.Sentences.{Leaves}
use Rattle.compact.specs.Outcome.{CompactOutcome}

-- where compacting answers k, one pass took k knots, and what it left is handed over
abbrev pub CompactionCounts : Type 0
CompactionCounts =
    (m : ℕ) (c before : Lists) (k : ℕ) (now : Lists) → CompactOutcome m c before (Ok k) now
    → (d : Lists) × CompactsTo m c d × Leaves m c d k × (now ≡ handed_over 0 d before)
