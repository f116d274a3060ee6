-- The front of each filled list is the list that stands in the bytes.
use mathlib.Core.List.{List}
use mathlib.Core.Path.{◌≡◌, ◌∙◌}
use Prim.Native.Nat.{ℕ, ◌/◌, ◌≤◌}
use lib.IntN.{ℤ}
use lib.ListN.{length, length-take}
use Rattle.curve.proofs.ListLaws.{same-knots, same-xs, same-ys}
use Rattle.curve.proofs.RoomLaws.{enough-each}
use Rattle.fields.proofs.PlaceLaws.{over-front}
use Rattle.grid.specs.Check.{check_number}
use Rattle.layout.proofs.StoredLaws.{stored-knots, stored-xs, stored-ys}
use native.Mathlib.Omega.{arith}
use Rattle.stored_check.proofs.check_in.Goals.{Start}
use Rattle.stored_check.proofs.check_in.Goals as goal

same : {m n : ℕ} {ts ss : List ℕ} {xs us ys ws : List ℤ} → m ≡ n → ts ≡ ss → xs ≡ us → ys ≡ ws → check_number m ts xs ys ≡ check_number n ss us ws
same a b c d = cc

room : (s : Start)
    → (s.args.stored.layout.knots / 2 ≤ length s.args.ts.now) × (s.args.stored.layout.xs / 4 ≤ length s.args.us.now) × (s.args.stored.layout.ys / 4 ≤ length s.args.ws.now)
room s = enough-each (s.args.stored.layout.knots / 2) (s.args.stored.layout.xs / 4) (s.args.stored.layout.ys / 4) (length s.args.ts.now) (length s.args.us.now) (length s.args.ws.now) s.requires.room

pub slice_bounds-check-end : goal.slice_bounds-check-end
slice_bounds-check-end c = omega (arith, room (goal.at.slice_bounds-check-end c).Start, c.read_lists.auto)

pub slice_bounds-check-end-2 : goal.slice_bounds-check-end-2
slice_bounds-check-end-2 c = simp length-take (omega (arith, room (goal.at.slice_bounds-check-end-2 c).Start, c.read_lists.auto))

pub slice_bounds-check-end-3 : goal.slice_bounds-check-end-3
slice_bounds-check-end-3 c = omega (arith, room (goal.at.slice_bounds-check-end-3 c).Start, c.read_lists.auto)

pub slice_bounds-check-end-4 : goal.slice_bounds-check-end-4
slice_bounds-check-end-4 c = simp length-take (omega (arith, room (goal.at.slice_bounds-check-end-4 c).Start, c.read_lists.auto))

pub slice_bounds-check-end-5 : goal.slice_bounds-check-end-5
slice_bounds-check-end-5 c = omega (arith, room (goal.at.slice_bounds-check-end-5 c).Start, c.read_lists.auto)

pub slice_bounds-check-end-6 : goal.slice_bounds-check-end-6
slice_bounds-check-end-6 c = simp length-take (omega (arith, room (goal.at.slice_bounds-check-end-6 c).Start, c.read_lists.auto))

pub returns : goal.returns
returns c = record {
  answer = let a = c.args in
      let read = c.read_lists.ensures.result in
      c.check.ensures.answer
      ∙ same c.degree.ensures.answer (over-front _ a.ts.now _ _ (stored-knots a.stored.bytes.now a.stored.layout.knots a.stored.layout.xs a.stored.layout.ys) (same-knots read))
      (over-front _ a.us.now _ _ (stored-xs a.stored.bytes.now a.stored.layout.knots a.stored.layout.xs a.stored.layout.ys) (same-xs read))
      (over-front _ a.ws.now _ _ (stored-ys a.stored.bytes.now a.stored.layout.knots a.stored.layout.xs a.stored.layout.ys) (same-ys read));
}
