-- What a reader answers, as the verdict on the bytes (heading "Where bytes break"): broken, or the number of what stands in them.
use Rattle.std.specs.Prelude.{Result, Ok, Err, IfOk, ◌≡◌}
use Rattle.refusal.specs.Answers.{number_of}
use Rattle.refusal.specs.Numbers.{accepted}
use Rattle.taken_field.specs.declared.Failure.{Failure}
use Rattle.taken_field.specs.declared.Failure.TheVariants.{Broken, Refused}
use Rattle.fault.specs.Verdict.{Verdict, judged, broken}

-- 0 where a value was read, else the number of the refusal; of broken bytes number and place
abbrev pub verdict_in : {A : Type 0} → Result A Failure → Verdict
verdict_in (Ok x) = judged accepted
verdict_in (Err (Refused refusal)) = judged (number_of refusal)
verdict_in (Err (Broken found)) = broken (number_of found.refusal) found.place

-- an answer that gives this verdict, and this value where it gives any
abbrev pub Tells : {A : Type 0} → Verdict → A → Result A Failure → Type 0
Tells verdict value answer = (verdict_in answer ≡ verdict) × IfOk answer (λ x. x ≡ value)
