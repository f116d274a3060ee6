-- The worked compactions: their passes are closed cases of `compaction`, and the call ends as they do.
use mathlib.Core.Path.{refl}
use Prim.Native.Nat.{◌-◌}
use lib.ListN.{length}
use Rattle.curve.specs.Lists.{Lists}
use Rattle.curve.specs.HandingOver.{enough}
use Rattle.curve.proofs.HandingLaws.{ends-done}
use Rattle.grid.specs.Rows.{degree_ok, point_count_ok, knot_count_ok, rises_from, knot_order_ok, ends_ok, occurrences, repeats_most, repeats_within, repeats_ok, on_grid, all_on_grid, range_ok}
use Rattle.grid.specs.Check.{checked_then, check_number}
use Rattle.compaction.proofs.Controls.{twice, never, double-goes, both_values, no_value, both_go, three, without-three, one-pass}
use Rattle.compaction.specs.Outcome as Outcome
use Rattle.worked.specs.Case.{Holds, compacted, places_of}
use Rattle.worked.specs.Worked.{curve_c, curve_c-doubled, curve_d, curve_d-refined, curve_e, curve_e-passed}

pub double-knot-goes : Holds (compacted 2 curve_c-doubled 2 curve_c)
unfolding twice never enough check_number checked_then degree_ok point_count_ok knot_count_ok rises_from knot_order_ok ends_ok occurrences repeats_most repeats_within repeats_ok on_grid all_on_grid range_ok
double-knot-goes =
    ends-done (Outcome.CompactionComesTo 2 curve_c-doubled (places_of curve_c)) (λ (d : Lists). 5 - length d.xs) (places_of curve_c) 0 curve_c
    (Outcome.compacted refl double-goes refl) curve_c refl refl

pub two-values-go : Holds (compacted 2 curve_d-refined 2 curve_d)
unfolding both_values no_value enough check_number checked_then degree_ok point_count_ok knot_count_ok rises_from knot_order_ok ends_ok occurrences repeats_most repeats_within repeats_ok on_grid all_on_grid range_ok
two-values-go =
    ends-done (Outcome.CompactionComesTo 2 curve_d-refined (places_of curve_d)) (λ (d : Lists). 5 - length d.xs) (places_of curve_d) 0 curve_d
    (Outcome.compacted refl both_go refl) curve_d refl refl

pub one-pass-alone : Holds (compacted 2 curve_e 1 curve_e-passed)
unfolding three without-three enough check_number checked_then degree_ok point_count_ok knot_count_ok rises_from knot_order_ok ends_ok occurrences repeats_most repeats_within repeats_ok on_grid all_on_grid range_ok
one-pass-alone =
    ends-done (Outcome.CompactionComesTo 2 curve_e (places_of curve_e-passed)) (λ (d : Lists). 6 - length d.xs) (places_of curve_e-passed) 0 curve_e-passed
    (Outcome.compacted refl one-pass refl) curve_e-passed refl refl
