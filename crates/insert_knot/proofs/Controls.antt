-- Closed cases, worked by hand, of what inserting answers and leaves: a polygon of four points takes a knot and has five, or is refused with 9.
use Rattle.std.specs.Prelude.{Result, Ok, Err, [], ◌∷◌, ◌≡◌, ℕ, pos, replicate}
use mathlib.Core.Path.{refl, sym, ◌∙◌}
use Rattle.refusal.specs.declared.Refusal.{Refusal}
use Rattle.refusal.specs.declared.Refusal.TheVariants.{Insertion}
use Rattle.refusal.proofs.AnswerLaws.{answers-one}
use Rattle.signed.specs.Division.{divides}
use Rattle.curve.specs.Lists.{Lists, lists}
use Rattle.curve.specs.HandingOver.{enough}
use Rattle.grid.specs.Rows.{degree_ok, point_count_ok, knot_count_ok, rises_from, knot_order_ok, ends_ok, occurrences, repeats_most, repeats_within, repeats_ok, on_grid, all_on_grid, range_ok}
use Rattle.grid.specs.Check.{checked_then}
use Rattle.span.specs.Span.{strictly_inside}
use Rattle.insertion.specs.Insertion.{knots_up_to, insertion_span, inserted_knots, inserted_point, inserted_points, entries, weighted_sum, weight, whole_points, whole_from}
use Rattle.insertion.specs.Judged.{value_ok, place_ok, whole_ok, insertable_then, insertion_number}
use Rattle.insert_knot.specs.Answer.{InsertOutcome}

-- degree 1, knots 0 0 2 4 6 6, points (0,0) (2,4) (4,8) (6,0)
abbrev polygon : Lists
polygon = lists (0 ∷ 0 ∷ 2 ∷ 4 ∷ 6 ∷ 6 ∷ []) (pos 0 ∷ pos 2 ∷ pos 4 ∷ pos 6 ∷ []) (pos 0 ∷ pos 4 ∷ pos 8 ∷ pos 0 ∷ [])

-- with the knot 1 it has the point (1,2) as well
abbrev with_one : Lists
with_one = lists (0 ∷ 0 ∷ 1 ∷ 2 ∷ 4 ∷ 6 ∷ 6 ∷ []) (pos 0 ∷ pos 1 ∷ pos 2 ∷ pos 4 ∷ pos 6 ∷ []) (pos 0 ∷ pos 2 ∷ pos 4 ∷ pos 8 ∷ pos 0 ∷ [])

abbrev places : Lists
places = lists (replicate 7 0) (replicate 5 (pos 0)) (replicate 5 (pos 0))

-- inserting v has this answer, leaves this in the lent lists, and ends in no other way
abbrev Inserts : ℕ → Result ℕ Refusal → Lists → Type 0
Inserts v answer now =
    InsertOutcome 1 polygon v places answer now
    × ((other : Result ℕ Refusal) (then : Lists) → InsertOutcome 1 polygon v places other then → (other ≡ answer) × (then ≡ now))

inserts : (v : ℕ) (answer : Result ℕ Refusal) (now : Lists) → InsertOutcome 1 polygon v places answer now → Inserts v answer now
inserts v answer now o = (o, λ other then p. (answers-one _ _ other answer p.answers o.answers, p.hands ∙ sym o.hands))

five-points : Inserts 1 (Ok 5) with_one
unfolding insertion_number insertable_then value_ok place_ok whole_ok whole_points whole_from divides weight weighted_sum insertion_span knots_up_to inserted_knots inserted_points inserted_point entries strictly_inside enough checked_then degree_ok point_count_ok knot_count_ok rises_from knot_order_ok ends_ok occurrences repeats_most repeats_within repeats_ok on_grid all_on_grid range_ok
five-points = inserts 1 (Ok 5) with_one (record { answers = (refl, refl); hands = refl })

-- the end of the domain is no inner value
refused-nine : Inserts 6 (Err Insertion) places
unfolding insertion_number insertable_then value_ok place_ok whole_ok whole_points whole_from divides weight weighted_sum insertion_span knots_up_to inserted_knots inserted_points inserted_point entries strictly_inside enough checked_then degree_ok point_count_ok knot_count_ok rises_from knot_order_ok ends_ok occurrences repeats_most repeats_within repeats_ok on_grid all_on_grid range_ok
refused-nine = inserts 6 (Err Insertion) places (record { answers = (refl, tt); hands = refl })
