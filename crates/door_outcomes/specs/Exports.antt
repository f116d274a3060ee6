-- What the contracts of the exports to C settle, in their own words (headings "How much each contract says", "The point at a parameter", "Jobs in bursts"): an export by cases
-- has one outcome, a place is told with a fault and with nothing else, and the index that `tsb_carrying` hands back finds the coordinates that the carrying call hands back.
use Rattle.std.specs.Prelude.{Bool, true, false, ◌||◌, List, [], ◌∷◌, ◌≡◌, ℕ, ◌+◌, ◌<◌, ◌≤◌, eqb, ℤ, length, take, drop}
use Rattle.refusal.specs.Numbers.{ended_refused, tag_refused, length_refused, left_over_refused}
use Rattle.curve.specs.Lists.{Lists}
use Rattle.fault.specs.Fault.{FileKind, Fault}
use Rattle.fault.specs.Kinds.{lone_records}
use Rattle.job.specs.JobFormat.{jobs}
use Rattle.grid.specs.Limits.{job_most}
use Rattle.lent.specs.Lent.{after}
use Rattle.keeping.specs.Kept.{kept_with, received_with}
use Rattle.feed.specs.Burst.{work_number}
use Rattle.feed.specs.Ending.{Holds}
use Rattle.bursts.specs.Bursts.{joined}
use Rattle.domain.specs.Parameter.{parameter_number}
use Rattle.carrying.specs.Carrying.{on_axis, part_of}
use Rattle.checked.specs.declared.Axis.{Axis}
use Rattle.tsaghnobir.specs.Places.{placed, first_carrying, JobPlaces}
use Rattle.tsaghnobir.specs.Outcomes.{RemovalHandsBack, CompactionHandsBack, RecordHandsBack, JobHandsBack, FeedHandsBack}

-- a contract permits one number, one content of the lent lists and one of the lent single numbers
abbrev pub OneOutcome : {L P : Type 0} → (ℕ → L → P → Type 0) → Type 0
OneOutcome {L} {P} Permits =
    (number other : ℕ) (now then : L) (holds instead : P) → Permits number now holds → Permits other then instead
    → (number ≡ other) × (now ≡ then) × (holds ≡ instead)

-- removing a knot, compacting, reading a record
abbrev pub RemovalDetermined : Type 0
RemovalDetermined = (m : ℕ) (c : Lists) (v : ℕ) (before : Lists) (held : ℕ) → OneOutcome (RemovalHandsBack m c v before held)

abbrev pub CompactionDetermined : Type 0
CompactionDetermined = (m : ℕ) (c before : Lists) (held : ℕ × ℕ) → OneOutcome (CompactionHandsBack m c before held)

abbrev pub RecordDetermined : Type 0
RecordDetermined = (bytes : List ℕ) (before : Lists) (held : ℕ × ℕ × ℕ) → OneOutcome (RecordHandsBack bytes before held)

-- reading a job, with the list of sides as a fourth
abbrev pub JobDetermined : Type 0
JobDetermined =
    (bytes : List ℕ) (before : Lists) (sides_before : List ℤ) (held : JobPlaces)
    → OneOutcome (λ (number : ℕ) (now : Lists × List ℤ). JobHandsBack bytes before sides_before held number now.0 now.1)

-- the end of a job in bursts, with the count of bytes received as a sixth single number
abbrev pub FeedEndDetermined : Type 0
FeedEndDetermined =
    (received : ℕ) (work : List ℕ) (before : Lists) (sides_before : List ℤ) (held : JobPlaces)
    → OneOutcome
    (λ (number : ℕ) (now : Lists × List ℤ) (holds : JobPlaces × ℕ).
    FeedHandsBack received work before sides_before held number now.0 now.1 holds.0 holds.1)

-- count and work list after bursts, each left by `tsb_feed` and handed on unaltered
abbrev pub fed_by_export : ℕ → List ℕ → List (List ℕ) → ℕ × List ℕ
fed_by_export received work [] = (received, work)
fed_by_export received work (burst ∷ bursts) =
    fed_by_export (placed (work_number work) (received_with received burst work) received) (after (work_number work) (kept_with received burst work) work) bursts

-- bursts fed from a count of 0 on, and then the end: what reading a job hands back for all of them joined, and a count of 0 again
abbrev pub FedHandsBackAsJoined : Type 0
FedHandsBackAsJoined =
    (work : List ℕ) → job_most ≤ length work → (bursts : List (List ℕ)) (before : Lists) (sides_before : List ℤ) (held : JobPlaces)
    (number : ℕ) (now : Lists) (sides_now : List ℤ) (holds : JobPlaces) (received : ℕ)
    → FeedHandsBack (fed_by_export 0 work bursts).0 (fed_by_export 0 work bursts).1 before sides_before held number now sides_now holds received
    → JobHandsBack (joined bursts) before sides_before held number now sides_now holds × (received ≡ 0)

-- 16 and 19 to 21 are told with a place
abbrev pub told_with_place : ℕ → Bool
told_with_place number = eqb number ended_refused || eqb number tag_refused || eqb number length_refused || eqb number left_over_refused

-- a number lent for the place: where the answer is one of these it holds the place of the leftmost fault, and with every other answer what it held before
abbrev pub PlaceTold : FileKind → List ℕ → ℕ → ℕ → ℕ → Type 0
PlaceTold kind bytes number held holds =
    (told_with_place number ≡ true → Fault kind bytes number holds) × (told_with_place number ≡ false → holds ≡ held)

abbrev pub RecordPlaceTold : Type 0
RecordPlaceTold =
    (bytes : List ℕ) (before : Lists) (held : ℕ × ℕ × ℕ) (number : ℕ) (now : Lists) (holds : ℕ × ℕ × ℕ)
    → RecordHandsBack bytes before held number now holds → PlaceTold lone_records bytes number held.2 holds.2

abbrev pub JobPlaceTold : Type 0
JobPlaceTold =
    (bytes : List ℕ) (before : Lists) (sides_before : List ℤ) (held : JobPlaces) (number : ℕ) (now : Lists) (sides_now : List ℤ) (holds : JobPlaces)
    → JobHandsBack bytes before sides_before held number now sides_now holds → PlaceTold jobs bytes number held.4 holds.4

-- of the end of a job in bursts too, whichever bytes are held
abbrev pub FeedEndPlaceTold : Type 0
FeedEndPlaceTold =
    (received : ℕ) (work : List ℕ) (before : Lists) (sides_before : List ℤ) (held : JobPlaces)
    (number : ℕ) (now : Lists) (sides_now : List ℤ) (holds : JobPlaces) (count : ℕ)
    → FeedHandsBack received work before sides_before held number now sides_now holds count
    → (bytes : List ℕ) → Holds received work bytes → PlaceTold jobs bytes number held.4 holds.4

-- where nothing is refused, the entries `first` to `first` + m are inside the lists, and on either axis they are the part that the carrying call hands back
abbrev pub FirstFindsCarrying : Type 0
FirstFindsCarrying =
    (m : ℕ) (ts : List ℕ) (xs ys : List ℤ) (t held number first : ℕ) → number ≡ parameter_number m ts xs ys t → first ≡ placed number (first_carrying m ts xs t) held → number ≡ 0
    → (axis : Axis) → (first + m < length (on_axis axis xs ys)) × (take (m + 1) (drop first (on_axis axis xs ys)) ≡ part_of m ts xs ys t axis)
