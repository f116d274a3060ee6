-- The loop's invariant: the last digits stand behind the place, and those of what is left are missing.
use native.Mathlib.Omega.{arith}
use Rattle.digits.proofs.LastFirstLaws.{missing-more, missing-none}
use Rattle.digits.proofs.pen.Pen.decimal.Goals as goal

pub overflow_sub-place-in-loop-rest : goal.overflow_sub-place-in-loop-rest
overflow_sub-place-in-loop-rest c = let p = c.args.self.now in
    let so = c.loop-rest in missing-more p.out.now p.at c.args.number c.requires so.self.out.now so.place so.rest so.invariant.0 c.loop-rest-test.true

pub returns-clause-result : goal.returns-clause-result
returns-clause-result c = let p = c.args.self.now in
    let so = c.loop-rest in rw c.digit_count.ensures.answer (missing-none p.out.now p.at c.args.number c.requires so.self.out.now so.place so.rest so.invariant.0 (omega arith))
