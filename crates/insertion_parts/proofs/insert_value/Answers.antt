-- The knots up to v are copied, v is stored, and the knots behind it are copied.
use mathlib.Core.Path.{sym}
use Prim.Native.Nat.{◌+◌, ◌-◌, ◌≤◌}
use native.Mathlib.Omega.{arith}
use lib.ListN.{length, take, drop, set}
use lib.Seq.{length-take-le}
use Rattle.insertion.specs.Insertion.{inserted_knots}
use Rattle.lent.proofs.StoreLaws.{Stored}
use Rattle.insertion.proofs.SpanLaws.{knots_up_to-length}
use Rattle.insertion.proofs.KnotLaws.{value-stored, value-rest}
use Rattle.insertion.proofs.PartLaws.{ends-inside, rest-copied}
use Rattle.insertion_parts.proofs.insert_value.Goals.{After-slice_known-2-1, Start}
use Rattle.insertion_parts.proofs.insert_value.Goals as goal

-- the knots up to v are knots
within : (s : Start) → s.args.at ≤ length s.args.knots.now
within s = omega (arith, knots_up_to-length s.args.v s.args.knots.now, s.requires.at_value)

pub slice_bounds-copy_into-end : goal.slice_bounds-copy_into-end
slice_bounds-copy_into-end c = sym (length-take-le c.args.at c.args.knots.now (within (goal.at.slice_bounds-copy_into-end c).Start))

pub offset_bounds-out-at : goal.offset_bounds-out-at
offset_bounds-out-at c = omega (arith, within (goal.at.offset_bounds-out-at c).Start, c.requires.knots_in_bounds)

pub bounds-out-at : goal.bounds-out-at
bounds-out-at c = omega (arith, within (goal.at.bounds-out-at c).Start, c.requires.knots_in_bounds)

pub offset_bounds-knots-at : goal.offset_bounds-knots-at
offset_bounds-knots-at c = omega (arith, within (goal.at.offset_bounds-knots-at c).Start, c.requires.knots_in_bounds)

pub slice_bounds-copy_into-count : goal.slice_bounds-copy_into-count
slice_bounds-copy_into-count c = within (goal.at.slice_bounds-copy_into-count c).Start

pub slice_bounds-copy_into-start : goal.slice_bounds-copy_into-start
slice_bounds-copy_into-start c = within (goal.at.slice_bounds-copy_into-start c).Start

pub overflow_add-at : goal.overflow_add-at
overflow_add-at c = omega (arith, within (goal.at.overflow_add-at c).Start, c.requires.knots_in_bounds)

pub offset_bounds-out-at-2 : goal.offset_bounds-out-at-2
offset_bounds-out-at-2 c = omega (arith, within (goal.at.offset_bounds-out-at-2 c).Start, c.requires.knots_in_bounds)

-- v is stored, and the list is as long as it was
stored : (c : After-slice_known-2-1) → Stored (inserted_knots c.args.knots.now c.args.v) c.args.out.now (set c.copy_into.new.to c.args.at c.args.v) (c.args.at + 1)
stored c =
    let a = c.args in
    let first = c.copy_into in value-stored a.knots.now a.v a.at c.requires.at_value a.out.now first.new.to c.requires.knots_in_bounds first.ensures.result

pub slice_bounds-copy_into-count-2 : goal.slice_bounds-copy_into-count-2
slice_bounds-copy_into-count-2 c = ends-inside (stored (goal.at.slice_bounds-copy_into-count-2 c).After-slice_known-2-1)

pub slice_bounds-copy_into-start-2 : goal.slice_bounds-copy_into-start-2
slice_bounds-copy_into-start-2 c = ends-inside (stored (goal.at.slice_bounds-copy_into-start-2 c).After-slice_known-2-1)

pub returns : goal.returns
returns c = record {
  result = let a = c.args in
      let first = c.copy_into in rest-copied (inserted_knots a.knots.now a.v) a.out.now (take (length a.knots.now - a.at) (drop a.at a.knots.now))
      (set first.new.to a.at a.v) c.copy_into-2.new.to (a.at + 1)
      (stored (goal.at.returns c).After-slice_known-2-1)
      (value-rest a.knots.now a.v a.at c.requires.at_value)
      c.copy_into-2.ensures.result;
}
