-- The invariant: the quotients passed are whole, so all are whole exactly where the rest is.
use mathlib.Core.Path.{sym, ◌∙◌}
use native.Mathlib.Omega.{arith}
use Rattle.insertion.proofs.SpanLaws.{span-least, span-most, span-weighed}
use Rattle.insertion.proofs.WholeLaws.{whole-begins, whole-fails, whole-goes-on, whole-ends}
use Rattle.insertion_parts.proofs.Inserting.whole_points.Goals as goal

pub overflow_add-j : goal.overflow_add-j
overflow_add-j c = let a = c.args in omega (arith, span-most a.self.degree a.self.knots.now a.self.ps.now a.self.v c.args.self.insertable)

pub overflow_step-j : goal.overflow_step-j
overflow_step-j c = let a = c.args in omega (arith, span-least a.self.degree a.self.knots.now a.self.ps.now a.self.v c.args.self.insertable)

pub loop-j-init : goal.loop-j-init
loop-j-init c = let a = c.args in
    let least = span-least a.self.degree a.self.knots.now a.self.ps.now a.self.v c.args.self.insertable in
    (omega arith, omega (arith, c.args.self.insertable.degree), whole-begins a.self.degree a.self.knots.now a.self.ps.now a.self.v a.self.span c.args.self.place least)

pub is_whole_at-requires : goal.is_whole_at-requires
is_whole_at-requires c = let a = c.args in
    span-weighed a.self.degree a.self.knots.now a.self.ps.now a.self.v c.args.self.insertable c.loop-j.j (omega arith) (omega arith)

pub returns-then-not-is_whole_at : goal.returns-then-not-is_whole_at
returns-then-not-is_whole_at c = record {
  answer = let a = c.args in
      let l = c.loop-j in whole-fails a.self.degree a.self.knots.now a.self.ps.now a.self.v a.self.span l.j (omega arith) l.invariant.2
      (sym c.is_whole_at.ensures.answer ∙ c.if-not-is_whole_at.true);
}

pub overflow_add-j-end : goal.overflow_add-j-end
overflow_add-j-end c = let a = c.args in
    omega (arith, span-most a.self.degree a.self.knots.now a.self.ps.now a.self.v c.args.self.insertable)

pub loop-j-preserved : goal.loop-j-preserved
loop-j-preserved c = let a = c.args in
    let l = c.loop-j in (
      omega arith,
      omega arith,
      whole-goes-on a.self.degree a.self.knots.now a.self.ps.now a.self.v a.self.span l.j (omega arith) l.invariant.2
          (sym c.is_whole_at.ensures.answer ∙ c.if-not-is_whole_at.false),
    )

pub returns : goal.returns
returns c = record {
  answer = let a = c.args in
      let l = c.loop-j in whole-ends a.self.degree a.self.knots.now a.self.ps.now a.self.v a.self.span l.j (omega arith) l.invariant.2;
}
