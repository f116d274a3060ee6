-- The part that is handed back at an accepted parameter, whichever axis is asked.
use mathlib.Core.List.{List}
use mathlib.Core.Path.{◌≡◌}
use Prim.Native.Nat.{ℕ, ◌-◌}
use borrow.Author.Tests.{eq-eqb}
use lib.IntN.{ℤ}
use lib.ListN.{length}
use Rattle.span.specs.Span.{span_of, carrying_of}
use Rattle.domain.specs.Parameter.{parameter_number}
use Rattle.checked.specs.declared.Axis.{Axis}
use Rattle.carrying.specs.Carrying.{on_axis, part_of}

pub part-accepted :
    (m : ℕ) (ts : List ℕ) (xs ys : List ℤ) (t i : ℕ) (asked axis : Axis) (part : List ℤ)
    → parameter_number m ts xs ys t ≡ 0 → i ≡ span_of ts m (length xs - 1) t 1 → asked ≡ axis
    → part ≡ carrying_of m i (on_axis axis xs ys) → part ≡ part_of m ts xs ys t asked
part-accepted m ts xs ys t i asked axis part accepted span same taken =
    rw (eq-eqb (parameter_number m ts xs ys t) 0 accepted, same, ← span) taken
