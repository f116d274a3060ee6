-- The end has one outcome: some bytes are held, and reading them has one.
use mathlib.Core.Path.{refl, ap}
use native.Mathlib.Omega.{arith}
use Rattle.std.specs.Prelude.{Result}
use Rattle.job.specs.declared.Job.{Job}
use Rattle.taken_field.specs.declared.Failure.{Failure}
use Rattle.round_trip.proofs.JobTrip.{job-reading-determined}
use Rattle.feed.specs.Burst.{fresh}
use Rattle.feed.specs.Ending.{short, told}
use Rattle.feed.specs.declared.EndAnswer.{EndAnswer}
use Rattle.bursts.specs.Bursts.{EndDetermined}
use Rattle.bursts.proofs.HeldLaws.{some-held}

abbrev ended : Result Job Failure → EndAnswer
ended answer = record { answer = answer; state = fresh }

pub end-determined : EndDetermined
end-determined state work before sides_before a b x y s t (short less) (short also) = (refl, refl, refl)
end-determined state work before sides_before a b x y s t (short less) (told long _ _ _ reads) = absurd (omega arith)
end-determined state work before sides_before a b x y s t (told long _ _ _ reads) (short less) = absurd (omega arith)
end-determined state work before sides_before a b x y s t (told long one now sides_now reads) (told _ other then sides_then also) =
    let held = some-held state.received work in
    let same = job-reading-determined held.0 before sides_before one other now then sides_now sides_then (reads held.0 held.1) (also held.0 held.1) in
    (ap ended same.0, same.1, same.2)
