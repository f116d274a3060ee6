-- What compacting a curve answers and leaves in the lent lists (headings "Inserting and removing a knot" and "Numbers of refusal").
use Rattle.std.specs.Prelude.{Result, ℕ}
use Rattle.refusal.specs.declared.Refusal.{Refusal}
use Rattle.curve.specs.Lists.{Lists}
use Rattle.curve.specs.HandingOver.{HandsOut}
use Rattle.compaction.specs.Outcome.{CompactionComesTo, knots_taken}

abbrev pub CompactOutcome : ℕ → Lists → Lists → Result ℕ Refusal → Lists → Type 0  -- the number removed or the refusal, and the lent lists
CompactOutcome m c before answer now = HandsOut (CompactionComesTo m c before) (λ d. knots_taken c d) before answer now
