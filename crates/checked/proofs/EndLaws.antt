-- Row 5: the domain is empty or not.
use mathlib.Core.List.{List}
use Prim.Native.Nat.{ℕ, ◌<◌}
use Rattle.grid.specs.Rows.{domain_start, domain_end, ends_ok}
use Rattle.checked.specs.Sentences.{EndsWrong}
use Rattle.checked.proofs.TestLaws.{Judged, ltb-judged}

pub ends-judged : (m : ℕ) (ts : List ℕ) → Judged (ends_ok m ts) (domain_start m ts < domain_end m ts) (EndsWrong m ts)
unfolding ends_ok
ends-judged m ts = ltb-judged (domain_start m ts) (domain_end m ts)
