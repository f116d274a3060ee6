-- Every worked example holds, each by computation on the definitions that the contracts cite.
use Rattle.std.specs.Prelude.{Result, Ok, Err, ℕ}
use mathlib.Core.Path.{refl}
use lib.Count.{count_trailing_zeros}
use lib.Ieee.{span, climb, size, odd, units, round, sum, add, mul, div, of_int}
use Rattle.refusal.specs.Answers.{Answers}
use Rattle.refusal.specs.declared.Refusal.{Refusal}
use Rattle.refusal.proofs.AnswerLaws.{answers-one}
use Rattle.refusal.specs.declared.Refusal.TheVariants.{NotWhole, Insertion, Rectangle, Radius, Unclamp}
use Rattle.curve.specs.HandingOver.{enough}
use Rattle.grid.specs.Rows.{degree_ok, point_count_ok, knot_count_ok, rises_from, knot_order_ok, ends_ok, occurrences, repeats_most, repeats_within, repeats_ok, on_grid, all_on_grid, range_ok, axis_ok, rectangle_ok, radius_ok}
use Rattle.grid.specs.Check.{checked_then}
use Rattle.span.specs.Span.{span_of, in_domain, strictly_inside}
use Rattle.triangle.specs.FloatTriangle.{entry_of}
use Rattle.domain.specs.Parameter.{parameter_number}
use Rattle.signed.specs.Division.{divides}
use Rattle.insertion.specs.Insertion.{knots_up_to, insertion_span, inserted_knots, inserted_point, inserted_points, entries, weighted_sum, weight, whole_points, whole_from}
use Rattle.insertion.specs.Judged.{value_ok, place_ok, whole_ok, insertable_then, insertion_number}
use Rattle.boxes.specs.Widening.{widened}
use Rattle.boxes.specs.Meeting.{some_at_most, some_at_least, meets_on_axis}
use Rattle.span_walk.specs.SpansMet.{up_from, keep, span_count, box_meets, spans_met, low_knots, high_knots}
use Rattle.spans_met.specs.Answer.{number_with_places}
use Rattle.format.specs.Format.{record_bytes}
use Rattle.record.specs.Writing.{write_number}
use Rattle.spline_pieces.specs.Pieces.{third_whole, third, piece_of, piece_at, pieces_from, pieces, every_piece, piece_on_grid}
use Rattle.joined_curve.specs.Curve.{joined_knots, knots_after, joined_points, points_after}
use Rattle.joining.specs.SplinePoints.{spline_points_ok, spline_count_ok, counts_agree, rises_strictly_from}
use Rattle.joining.specs.Answer.{joinable_then}
use Rattle.clamping.specs.EndRows.{mean, end_row}
use Rattle.clamping.specs.Clamping.{clamped_knot, clamped_number, all_whole, clamped, clamps_whole, clamp_then, clamp_number}
use Rattle.unclamping.specs.Unclamping.{end_clamped, open_knot, knots_fit, open_second, open_first, open_number, open_points, unclamped, opens_on, opens, unclamp_number}
use Rattle.worked.proofs.RemovalWorked.{b-keeps-its-knot, wider-b-loses-its-knot}
use Rattle.worked.proofs.CompactionWorked.{double-knot-goes, two-values-go, one-pass-alone}
use Rattle.worked.specs.Case.{Only, AllHold}
use Rattle.worked.specs.Worked.{cases}

-- number and value fix the answer
only : (number value : ℕ) (answer : Result ℕ Refusal) → Answers number value answer → Only answer (λ other. Answers number value other)
only number value answer h = (h, λ other k. answers-one number value other answer k h)

pub worked-hold : AllHold cases
unfolding count_trailing_zeros span climb size odd units round sum add mul div of_int enough checked_then degree_ok point_count_ok knot_count_ok rises_from knot_order_ok ends_ok occurrences repeats_most repeats_within repeats_ok on_grid all_on_grid range_ok axis_ok rectangle_ok radius_ok widened span_of in_domain strictly_inside entry_of parameter_number some_at_most some_at_least meets_on_axis up_from keep span_count box_meets spans_met low_knots high_knots number_with_places record_bytes write_number insertion_number insertable_then value_ok place_ok whole_ok whole_points whole_from divides weight weighted_sum insertion_span knots_up_to inserted_knots inserted_points inserted_point entries joinable_then spline_points_ok spline_count_ok counts_agree rises_strictly_from third_whole third piece_of piece_at pieces_from pieces every_piece piece_on_grid joined_knots knots_after joined_points points_after mean end_row clamped_knot clamped_number all_whole clamped clamps_whole clamp_then clamp_number end_clamped open_knot knots_fit open_second open_first open_number open_points unclamped opens_on opens unclamp_number
worked-hold =
    (refl, (refl, (refl, (refl, (refl, (refl, (refl, ((refl, refl), ((refl, refl), ((refl, refl), ((refl, refl), ((refl, refl), ((only _ _ (Ok _) (refl, refl), refl), ((only _ _ (Ok _) (refl, refl), refl), ((only _ _ (Ok _) (refl, refl), refl), ((only _ _ (Ok _) (refl, refl), refl), ((only _ _ (Ok _) (refl, refl), refl), (((Radius, refl, only _ _ (Err Radius) (refl, tt)), refl), (((Rectangle, refl, only _ _ (Err Rectangle) (refl, tt)), refl), ((only _ _ (Ok _) (refl, refl), refl), (record { answers = (refl, refl); hands = refl }, ((NotWhole, refl, record { answers = (refl, tt); hands = refl }), (record { answers = (refl, refl); hands = refl }, ((Insertion, refl, record { answers = (refl, tt); hands = refl }), ((Insertion, refl, record { answers = (refl, tt); hands = refl }), ((Insertion, refl, record { answers = (refl, tt); hands = refl }), (b-keeps-its-knot, (wider-b-loses-its-knot, (double-knot-goes, (two-values-go, (one-pass-alone, (record { answers = (refl, refl); hands = refl }, (record { answers = (refl, refl); hands = refl }, ((NotWhole, refl, record { answers = (refl, tt); hands = refl }), ((NotWhole, refl, record { answers = (refl, tt); hands = refl }), (record { answers = (refl, refl); hands = refl }, (record { answers = (refl, refl); hands = refl }, (record { answers = (refl, refl); hands = refl }, (record { answers = (refl, refl); hands = refl }, ((NotWhole, refl, record { answers = (refl, tt); hands = refl }), (record { answers = (refl, refl); hands = refl }, (record { answers = (refl, refl); hands = refl }, ((Unclamp, refl, record { answers = (refl, tt); hands = refl }), tt)))))))))))))))))))))))))))))))))))))))))))
