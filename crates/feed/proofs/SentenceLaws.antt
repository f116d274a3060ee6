-- A burst's answer and its work list say what their sentences say.
use Rattle.std.specs.Prelude.{Result, Ok}
use mathlib.Core.List.{[]}
use mathlib.Core.Path.{refl, sym, ap, ◌∙◌}
use Prim.Native.Nat.{ℕ}
use lib.ListN.{length}
use Rattle.refusal.proofs.ChainLaws.{accepts, judged, answers-first}
use Rattle.checked.proofs.TestLaws.{fails-iff, leb-judged}
use Rattle.grid.specs.Limits.{job_most}
use Rattle.keeping.specs.Kept.{received_with}
use Rattle.keeping.proofs.SentenceLaws.{burst-kept, none-counted, none_kept}
use Rattle.feed.specs.Burst.{work_number}
use Rattle.refusal.specs.declared.Refusal.{Refusal}
use Rattle.feed.specs.declared.Feed.{Feed}
use Rattle.feed.specs.Sentences.{BurstAnswersFirst, BurstIsKept, ShortListKept, EmptyBurstChangesNothing}
use Rattle.feed.proofs.BurstLaws.{burst-refused, burst-taken}

pub burst-answers-first : BurstAnswersFirst
burst-answers-first work = answers-first (work_number work) _ refl (judged (fails-iff (leb-judged job_most (length work))) λ room. accepts)

pub burst-is-kept : BurstIsKept
burst-is-kept state burst work long =
    let taken = burst-taken state burst work long in
    (record { received = received_with state.received burst work }, sym taken.0, rw (← taken.1) (burst-kept state.received burst work))

pub short-list-kept : ShortListKept
short-list-kept state burst work less = let refused = burst-refused state burst work less in (sym refused.0, sym refused.1)

abbrev fed : ℕ → Result Feed Refusal
fed n = Ok (record { received = n })

pub empty-burst-changes-nothing : EmptyBurstChangesNothing
empty-burst-changes-nothing state work long =
    let taken = burst-taken state [] work long in
    (sym taken.0 ∙ ap fed (none-counted state.received work), sym taken.1 ∙ none_kept state.received work)
