-- Any bursts are held joined, so the end reads them so; and the end has one outcome.
use mathlib.Core.List.{List, [], ◌∷◌, ◌++◌, append_assoc, append-nil}
use mathlib.Core.Path.{◌≡◌, refl, sym, ◌∙◌, subst}
use Prim.Native.Nat.{ℕ, ◌≤◌}
use native.Mathlib.Omega.{arith}
use lib.IntN.{ℤ}
use lib.ListN.{length}
use Rattle.grid.specs.Limits.{job_most}
use Rattle.curve.specs.Lists.{Lists}
use Rattle.lent.specs.Lent.{over}
use Rattle.job.specs.JobReading.{JobRead}
use Rattle.keeping.specs.Kept.{kept_with, received_with}
use Rattle.keeping.proofs.KeptLaws.{kept-length}
use Rattle.feed.specs.Burst.{fresh}
use Rattle.feed.specs.Ending.{Holds, whole, FeedEnds, short, told}
use Rattle.bursts.specs.Bursts.{fed_all, joined, FedReadsAsJoined, FedIsHeld}
use Rattle.feed.specs.declared.Feed.{Feed}
use Rattle.feed.specs.declared.EndAnswer.{EndAnswer}
use Rattle.feed.proofs.BurstLaws.{burst-taken}
use Rattle.bursts.proofs.HeldLaws.{burst-held}

-- a burst that is taken, in front of others
pub one_more : (state : Feed) (burst work : List ℕ) (bursts : List (List ℕ)) → job_most ≤ length work
    → fed_all state work (burst ∷ bursts)
    ≡ fed_all (record { received = received_with state.received burst work }) (over (kept_with state.received burst work) work) bursts
one_more state burst work bursts long =
    let taken = burst-taken state burst work long in
    rw (← taken.0, ← taken.1)

fed-held : (state : Feed) (work bytes : List ℕ) (bursts : List (List ℕ)) → job_most ≤ length work → Holds state.received work bytes
    → Holds (fed_all state work bursts).0.received (fed_all state work bursts).1 (bytes ++ joined bursts) × (length (fed_all state work bursts).1 ≡ length work)
fed-held state work bytes [] long held = (subst (Holds state.received work) (sym (append-nil bytes)) held, refl)
fed-held state work bytes (burst ∷ bursts) long held =
    let list : List ℕ = over (kept_with state.received burst work) work in
    let places : length list ≡ length work = kept-length state.received burst work in
    let next : Feed = record { received = received_with state.received burst work } in
    let later = fed-held next list (bytes ++ burst) bursts (omega (arith, places)) (burst-held state.received burst work bytes held) in
    rw (one_more state burst work bursts long, ← append_assoc bytes burst (joined bursts)) (later.0, later.1 ∙ places)

pub fed-is-held : FedIsHeld
fed-is-held work long bursts = fed-held fresh work [] bursts long (whole (omega arith))

-- an end with a list that is long enough reads what is held
end_read : {state : Feed} {work : List ℕ} {before now : Lists} {sides_before sides_now : List ℤ} {r : EndAnswer} → job_most ≤ length work
    → FeedEnds state work before sides_before r now sides_now
    → (bytes : List ℕ) → Holds state.received work bytes → JobRead bytes before sides_before r.answer now sides_now × (r.state ≡ fresh)
end_read long (short less) bytes held = absurd (omega arith)
end_read long (told _ answer now sides_now reads) bytes held = (reads bytes held, refl)

pub fed-reads-as-joined : FedReadsAsJoined
fed-reads-as-joined work long bursts before sides_before r now sides_now ends =
    let fed = fed-is-held work long bursts in
    end_read (omega (arith, fed.1)) ends (joined bursts) fed.0
