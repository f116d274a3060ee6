-- The points in front are copied, the quotients are stored one by one (the invariant), and the points behind are copied.
use mathlib.Core.Path.{◌≡◌, sym, ◌∙◌}
use Prim.Native.Nat.{◌+◌, ◌-◌, ◌<◌}
use native.Mathlib.Omega.{arith}
use lib.IntN.{pos}
use lib.ListN.{length, take, drop}
use lib.Seq.{length-take-le}
use mir.Syntax.{w32}
use mir.ValLaws.{to_z-of_z}
use Rattle.insertion.specs.Insertion.{insertion_span, inserted_points}
use Rattle.lent.proofs.StoreLaws.{Stored, stored_more, stored-length}
use Rattle.insertion.proofs.PartLaws.{stored-anew, stored-since, rest-copied}
use Rattle.insertion.proofs.SpanLaws.{span-least, span-most, span-weighed}
use Rattle.insertion.proofs.PointLaws.{inserted_points-length, inserted_points-at, point-quotient, points-stored, points-rest}
use Rattle.insertion_parts.proofs.Inserting.insert_points.Goals.{After-loop-j, After-out-1, Start}
use Rattle.insertion_parts.proofs.Inserting.insert_points.Goals as goal

-- the span is the place of a point
within : (s : Start) → s.args.self.span < length s.args.self.ps.now
within s =
    let a = s.args in
    omega (arith, span-most a.self.degree a.self.knots.now a.self.ps.now a.self.v s.args.self.insertable, s.args.self.place)

pub overflow_add-front : goal.overflow_add-front
overflow_add-front c = omega (arith, within (goal.at.overflow_add-front c).Start)

pub overflow_sub-front : goal.overflow_sub-front
overflow_sub-front c = let a = c.args in
    omega (arith, span-least a.self.degree a.self.knots.now a.self.ps.now a.self.v c.args.self.insertable)

pub slice_bounds-copy_into-end : goal.slice_bounds-copy_into-end
slice_bounds-copy_into-end c = let a = c.args in
    sym (length-take-le (a.self.span + 1 - a.self.degree) a.self.ps.now (omega (arith, within (goal.at.slice_bounds-copy_into-end c).Start, c.args.self.insertable.degree)))

-- the points in front are stored
front-stored : (c : After-out-1) → Stored (inserted_points c.args.self.degree c.args.self.knots.now c.args.self.ps.now c.args.self.v) c.args.out.now c.copy_into.new.to (c.args.self.span + 1 - c.args.self.degree)
front-stored c =
    let a = c.args in
    points-stored a.self.degree a.self.knots.now a.self.ps.now a.self.v a.self.span c.args.self.insertable c.args.self.place a.out.now c.copy_into.new.to c.requires c.copy_into.ensures.result

pub loop-j-init : goal.loop-j-init
loop-j-init c = (omega arith, omega (arith, c.args.self.insertable.degree), stored-anew (front-stored c))

pub quotient_at-requires : goal.quotient_at-requires
quotient_at-requires c =
    let a = c.args in record {
      insertable = a.self.insertable;
      weighed = span-weighed a.self.degree a.self.knots.now a.self.ps.now a.self.v a.self.insertable c.loop-j.j
          (omega (arith, c.loop-j.invariant.0, a.self.place)) (omega (arith, c.loop-j-test.true, a.self.place));
    }

pub bounds-out-j : goal.bounds-out-j
bounds-out-j c = let a = c.args in
    let l = c.loop-j in omega (arith, c.loop-j-test.true, within (goal.at.bounds-out-j c).Start, inserted_points-length a.self.degree a.self.knots.now a.self.ps.now a.self.v, stored-length l.invariant.2, l.invariant.2.room)

pub loop-j-preserved : goal.loop-j-preserved
loop-j-preserved c = let a = c.args in
    let l = c.loop-j in let most = within (goal.at.loop-j-preserved c).Start in (
      omega (arith, l.invariant.0),
      omega (arith, c.loop-j-test.true),
      rw (to_z-of_z w32 c.quotient_at.result (record { sfits = c.quotient_at.type_inv }))
          (stored_more l.invariant.2 c.quotient_at.result (pos 0)
          (omega (arith, c.loop-j-test.true, most, inserted_points-length a.self.degree a.self.knots.now a.self.ps.now a.self.v))
          (inserted_points-at a.self.degree a.self.knots.now a.self.ps.now a.self.v l.j (omega (arith, c.loop-j-test.true, most))
          ∙ point-quotient a.self.degree a.self.knots.now a.self.ps.now a.self.v (insertion_span a.self.knots.now a.self.v) l.j
          (omega (arith, l.invariant.0, c.args.self.place)) (omega (arith, c.loop-j-test.true, c.args.self.place))
          ∙ sym c.quotient_at.ensures.answer)),
    )

-- the points in front and the quotients are stored
quotients-stored : (c : After-loop-j) → Stored (inserted_points c.args.self.degree c.args.self.knots.now c.args.self.ps.now c.args.self.v) c.args.out.now c.loop-j.out (c.args.self.span + 1)
quotients-stored c =
    let front-stored : Stored (inserted_points c.args.self.degree c.args.self.knots.now c.args.self.ps.now c.args.self.v) c.args.out.now c.copy_into.new.to (c.args.self.span + 1 - c.args.self.degree) = let a = c.args in
    points-stored a.self.degree a.self.knots.now a.self.ps.now a.self.v a.self.span c.args.self.insertable c.args.self.place a.out.now c.copy_into.new.to c.requires c.copy_into.ensures.result in
    let l = c.loop-j in let ends : l.j ≡ c.args.self.span + 1 = omega (arith, l.invariant.1, c.loop-j-test.false) in
    rw ends at (stored-since front-stored l.invariant.0 l.invariant.2)

pub overflow_add-behind : goal.overflow_add-behind
overflow_add-behind c = omega (arith, within (goal.at.overflow_add-behind c).Start)

pub slice_bounds-copy_into-count : goal.slice_bounds-copy_into-count
slice_bounds-copy_into-count c = omega (arith, within (goal.at.slice_bounds-copy_into-count c).Start)

pub slice_bounds-copy_into-start : goal.slice_bounds-copy_into-start
slice_bounds-copy_into-start c = omega (arith, within (goal.at.slice_bounds-copy_into-start c).Start)

pub returns : goal.returns
returns c = record {
  result = let a = c.args in
      rest-copied (inserted_points a.self.degree a.self.knots.now a.self.ps.now a.self.v) a.out.now (take (length a.self.ps.now - (a.self.span + 1 - 1)) (drop (a.self.span + 1 - 1) a.self.ps.now))
      c.loop-j.out c.copy_into-2.new.to (a.self.span + 1)
      (quotients-stored (goal.at.returns c).After-loop-j)
      (points-rest a.self.degree a.self.knots.now a.self.ps.now a.self.v a.self.span c.args.self.insertable c.args.self.place (a.self.span + 1) (omega arith))
      c.copy_into-2.ensures.result;
}
