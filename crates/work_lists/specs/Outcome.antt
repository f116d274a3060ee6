-- What compacting in work lists comes to, for the inner functions.
use Rattle.std.specs.Prelude.{Result, ℕ}
use Rattle.refusal.specs.declared.Refusal.{Refusal}
use Rattle.curve.specs.Lists.{Lists}
use Rattle.curve.specs.HandingOver.{HandsOut}
use Rattle.compaction.specs.Outcome.{CompactionComesTo, knots_taken}

-- one pass over c, and what it leaves handed over
abbrev pub WorkOutcome : ℕ → Lists → Lists → Result ℕ Refusal → Lists → Type 0
WorkOutcome m c before answer now = HandsOut (CompactionComesTo m c before) (λ d. knots_taken c d) before answer now
