-- Closed cases, worked by hand: what writing and reading answer, with room and with one place too few (heading "The record and the job").
use Rattle.std.specs.Prelude.{Result, Ok, Err, ℕ}
use mathlib.Core.List.{[], ◌∷◌}
use mathlib.Core.Path.{◌≡◌, refl}
use lib.IntN.{pos}
use lib.ListN.{length, replicate}
use Rattle.curve.specs.Lists.{lists}
use Rattle.curve.specs.HandingOver.{enough}
use Rattle.grid.specs.Rows.{degree_ok, point_count_ok, knot_count_ok, rises_from, knot_order_ok, ends_ok, occurrences, repeats_most, repeats_within, repeats_ok, on_grid, all_on_grid, range_ok}
use Rattle.grid.specs.Check.{checked_then}
use Rattle.format.specs.Format.{form1, record_bytes}
use Rattle.format.proofs.Controls.{curve_a}
use Rattle.fault.specs.Verdict.{Verdict, judged, broken}
use Rattle.refusal.specs.declared.Refusal.{Refusal}
use Rattle.refusal.specs.declared.Refusal.TheVariants.{Degree, Room, Ended}
use Rattle.refusal.proofs.AnswerLaws.{answers-one}
use Rattle.taken_field.specs.declared.Failure.{Failure}
use Rattle.taken_field.specs.declared.Failure.TheVariants.{Broken, Refused}
use Rattle.stored_check.proofs.ToldLaws.{tells_one}
use Rattle.record.specs.Writing.{write_number, WriteAnswers}
use Rattle.record.specs.Reading.{record_number, ReadAnswers}
use Rattle.record.specs.declared.StoredCurve.{StoredCurve}

-- writing curve A with degree m into so many places has this answer, and no other
abbrev Writes : ℕ → ℕ → Result ℕ Refusal → Type 0
Writes m places answer =
    WriteAnswers m curve_a (replicate places 0) answer
    × ((other : Result ℕ Refusal) → WriteAnswers m curve_a (replicate places 0) other → other ≡ answer)

writes : (m places : ℕ) (answer : Result ℕ Refusal) → WriteAnswers m curve_a (replicate places 0) answer → Writes m places answer
writes m places answer h =
    (h, λ other k. answers-one (write_number m curve_a (replicate places 0)) (length (record_bytes form1 m curve_a)) other answer k h)

-- curve A has a record of 61 bytes; with the degree 4 it is no curve
written-A : Writes 3 61 (Ok 61) × Writes 3 60 (Err Room) × Writes 4 60 (Err Degree)
unfolding write_number checked_then degree_ok point_count_ok knot_count_ok rises_from knot_order_ok ends_ok occurrences repeats_most repeats_within repeats_ok on_grid all_on_grid range_ok record_bytes curve_a
written-A = (writes 3 61 (Ok 61) (refl, refl), writes 3 60 (Err Room) (refl, tt), writes 4 60 (Err Degree) (refl, tt))

-- eight knots and four points need as many places
read-A : record_number 3 curve_a (lists (replicate 8 0) (replicate 4 (pos 0)) (replicate 4 (pos 0)))
    ∷ record_number 3 curve_a (lists (replicate 7 0) (replicate 4 (pos 0)) (replicate 4 (pos 0)))
    ∷ record_number 3 curve_a (lists (replicate 8 0) (replicate 4 (pos 0)) (replicate 3 (pos 0)))
    ∷ []
    ≡ 0 ∷ 15 ∷ 15 ∷ []
unfolding record_number enough checked_then degree_ok point_count_ok knot_count_ok rises_from knot_order_ok ends_ok occurrences repeats_most repeats_within repeats_ok on_grid all_on_grid range_ok curve_a
read-A = refl

-- a verdict on four points of degree 3 is told by this answer, and by no other
abbrev Reads : Verdict → Result StoredCurve Failure → Type 0
Reads verdict answer = ReadAnswers verdict 3 4 answer × ((other : Result StoredCurve Failure) → ReadAnswers verdict 3 4 other → other ≡ answer)

reads : (verdict : Verdict) (answer : Result StoredCurve Failure) → ReadAnswers verdict 3 4 answer → Reads verdict answer
reads verdict answer h = (h, λ other k. tells_one verdict (record { degree = 3; points = 4 }) other answer k h)

read-or-refused : Reads (judged 0) (Ok (record { degree = 3; points = 4 }))
    × Reads (judged 15) (Err (Refused Room))
    × Reads (broken 16 0) (Err (Broken (record { refusal = Ended; place = 0 })))
read-or-refused = (reads _ _ (refl, refl), reads _ (Err (Refused Room)) (refl, tt), reads _ (Err (Broken (record { refusal = Ended; place = 0 }))) (refl, tt))
