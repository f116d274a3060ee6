-- What was put at the front of the text is part k of the text of the job.
use mathlib.Core.Path.{◌≡◌}
use lib.ListN.{length}
use Rattle.clampcheck.proofs.write_parts.Given as goal

abbrev pub invariant-loop-k : goal.invariant-loop-k
invariant-loop-k l = (l.written ≡ l.k) × (length l.text ≡ length l.initial.text)
