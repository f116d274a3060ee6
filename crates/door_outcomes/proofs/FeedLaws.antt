-- The export at the end of a job in bursts: it hands back what reading a job does for all bursts joined, and has one outcome.
use mathlib.Core.List.{List, [], ◌∷◌}
use mathlib.Core.Path.{◌≡◌, refl, ap₂}
use Prim.Native.Nat.{ℕ, ◌≤◌}
use native.Mathlib.Omega.{arith}
use lib.IntN.{ℤ}
use lib.ListN.{length}
use borrow.Author.Tests.{le-leb}
use Rattle.lent.specs.Lent.{over}
use Rattle.curve.specs.Lists.{Lists}
use Rattle.grid.specs.Limits.{job_most}
use Rattle.keeping.specs.Kept.{kept_with, received_with}
use Rattle.keeping.proofs.KeptLaws.{kept-length}
use Rattle.feed.specs.Ending.{Holds}
use Rattle.bursts.specs.Bursts.{fed_all, joined}
use Rattle.bursts.proofs.HeldLaws.{some-held}
use Rattle.bursts.proofs.JoinedLaws.{one_more, fed-is-held}
use Rattle.tsaghnobir.specs.Places.{JobPlaces}
use Rattle.tsaghnobir.specs.Outcomes.{JobHandsBack, FeedHandsBack, short, told}
use Rattle.door_outcomes.specs.Exports.{fed_by_export, FeedEndDetermined, FedHandsBackAsJoined}
use Rattle.door_outcomes.proofs.OutcomeLaws.{job-determined}

module _ {received : ℕ} {work : List ℕ} {before : Lists} {sides_before : List ℤ} {held : JobPlaces} where
  -- with a list that is long enough, the bytes that are held are read
  end-handed : {number : ℕ} {now : Lists} {sides_now : List ℤ} {holds : JobPlaces} {count : ℕ} → job_most ≤ length work
      → FeedHandsBack received work before sides_before held number now sides_now holds count → (bytes : List ℕ) → Holds received work bytes
      → JobHandsBack bytes before sides_before held number now sides_now holds × (count ≡ 0)
  end-handed long (short less) bytes held_bytes = absurd (omega arith)
  end-handed long (told _ _ _ _ _ hands) bytes held_bytes = (hands bytes held_bytes, refl)

  one_end : {number other : ℕ} {now then : Lists} {sides sides_then : List ℤ} {holds instead : JobPlaces} {count recount : ℕ}
      → FeedHandsBack received work before sides_before held number now sides holds count → FeedHandsBack received work before sides_before held other then sides_then instead recount
      → (number ≡ other) × (◌≡◌ {A = Lists × List ℤ} (now, sides) (then, sides_then)) × (◌≡◌ {A = JobPlaces × ℕ} (holds, count) (instead, recount))
  one_end (short less) (short also) = (refl, refl, refl)
  one_end (short less) (told long _ _ _ _ hands) = absurd (omega arith)
  one_end (told long _ _ _ _ hands) (short less) = absurd (omega arith)
  one_end (told long n now sides holds hands) (told _ k then sides_then instead also) =
      let bytes = some-held received work in
      let same = job-determined bytes.0 before sides_before held n k (now, sides) (then, sides_then) holds instead (hands bytes.0 bytes.1) (also bytes.0 bytes.1) in
      (same.0, same.1, ap₂ (λ (p : JobPlaces) (c : ℕ). (p, c)) same.2 refl)

pub feed-end-determined : FeedEndDetermined
feed-end-determined received work before sides_before held n k (now, sides) (then, sides_then) (holds, count) (instead, recount) p q = one_end p q

-- through C the same bytes are held
same-fed : (received : ℕ) (work : List ℕ) (bursts : List (List ℕ)) → job_most ≤ length work
    → let fed = fed_all (record { received = received }) work bursts in fed_by_export received work bursts ≡ (fed.0.received, fed.1)
same-fed received work [] long = refl
same-fed received work (burst ∷ bursts) long =
    rw (le-leb job_most (length work) long, one_more (record { received = received }) burst work bursts long)
    (same-fed (received_with received burst work) (over (kept_with received burst work) work) bursts (omega (arith, kept-length received burst work)))

pub fed-hands-back-as-joined : FedHandsBackAsJoined
fed-hands-back-as-joined work long bursts before sides_before held number now sides_now holds received ends =
    let fed = fed-is-held work long bursts in
    end-handed (omega (arith, fed.1)) (rw (same-fed 0 work bursts long) at ends) (joined bursts) fed.0
