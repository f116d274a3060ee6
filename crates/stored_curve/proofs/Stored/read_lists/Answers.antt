-- Three reads, each within the bytes and within its list.
use Prim.Native.Nat.{◌/◌, ◌≤◌}
use lib.ListN.{length}
use Rattle.curve.proofs.RoomLaws.{enough-each}
use Rattle.format.specs.RecordPlaces.{record_end}
use Rattle.layout.proofs.SplitLaws.{Within, layout-within, layout-inside}
use native.Mathlib.Omega.{arith}
use Rattle.stored_curve.proofs.Stored.read_lists.Goals.{Start}
use Rattle.stored_curve.proofs.Stored.read_lists.Goals as goal

-- the fields stand within the bytes, and their entries go into the lists
record Fits (s : Start) : Type 0 where
  most : Within s.args.self.layout.knots s.args.self.layout.xs s.args.self.layout.ys
  inside : record_end s.args.self.layout.knots s.args.self.layout.xs s.args.self.layout.ys ≤ length s.args.self.bytes.now
  knots : s.args.self.layout.knots / 2 ≤ length s.args.out_knots.now
  on_x : s.args.self.layout.xs / 4 ≤ length s.args.out_xs.now
  on_y : s.args.self.layout.ys / 4 ≤ length s.args.out_ys.now

fits : (s : Start) → Fits s
fits s =
    let l = s.args.self.layout in
    let a = s.args in
    let each = enough-each (l.knots / 2) (l.xs / 4) (l.ys / 4) (length a.out_knots.now) (length a.out_xs.now) (length a.out_ys.now) s.requires.room in
    record {
      most = layout-within s.args.self.bytes.now l.knots l.xs l.ys s.args.self.sound;
      inside = layout-inside s.args.self.bytes.now l.knots l.xs l.ys s.args.self.sound;
      knots = each.0;
      on_x = each.1;
      on_y = each.2;
    }

pub overflow_add-on_x : goal.overflow_add-on_x
overflow_add-on_x c = omega (arith, fits (goal.at.overflow_add-on_x c).Start)

pub overflow_add-on_y : goal.overflow_add-on_y
overflow_add-on_y c = omega (arith, fits (goal.at.overflow_add-on_y c).Start)

pub overflow_add-on_y-2 : goal.overflow_add-on_y-2
overflow_add-on_y-2 c = omega (arith, fits (goal.at.overflow_add-on_y-2 c).Start)

pub read_entries-requires : goal.read_entries-requires
read_entries-requires c = omega (arith, fits (goal.at.read_entries-requires c).Start)

pub read_entries-requires-2 : goal.read_entries-requires-2
read_entries-requires-2 c = omega (arith, fits (goal.at.read_entries-requires-2 c).Start)

pub read_entries-requires-3 : goal.read_entries-requires-3
read_entries-requires-3 c = omega (arith, fits (goal.at.read_entries-requires-3 c).Start)
