-- Row 6: what the three runs tell is the test.
use mathlib.Core.Bool.{true≢false}
use mathlib.Core.Path.{sym, ◌∙◌}
use Prim.Native.Nat.{◌<◌}
use borrow.Author.Tests.{ltb-true}
use native.Mathlib.Omega.{arith}
use Rattle.grid.specs.Rows.{knot_order_ok, ends_ok, domain_start, domain_end, repeats_ok}
use Rattle.grid.proofs.FlagLaws.{flag-tells}
use Rattle.grid.proofs.InnerLaws.{again-far, again-between, none-too-often}
use Rattle.grid.proofs.repeats.repeats_ok.Goals.{then-none_again, else-none_again}
use Rattle.grid.proofs.repeats.repeats_ok.Goals as goal

-- the two runs round the ends told of none: the last one decides
pub returns-then-none_again-2 : goal.returns-then-none_again-2
unfolding knot_order_ok ends_ok
returns-then-none_again-2 c = record {
  answer = let m = c.args.m in
      let ts = c.args.knots.now in
      let wide : domain_start m ts < domain_end m ts = ltb-true (domain_start m ts) (domain_end m ts) c.requires.ends in
      let last = c.none_again-then-none_again-2.ensures.answer in
      elim c.if-none_again.branch [
        | then-none_again w ↦
            let left = c.none_again.ensures.answer.none w.if-none_again.true in
            let right = w.none_again-then-none_again.ensures.answer.none (sym w.value-is ∙ c.if-none_again-2.true) in
            flag-tells c.none_again-then-none_again-2.result (repeats_ok m ts)
            (λ e. none-too-often m ts c.requires.order c.requires.count wide left right (last.none e))
            (λ e. let again = last.one e in again-between m ts c.requires.order c.requires.count wide again.0 again.1 again.2 again.3)
        | else-none_again w ↦ absurd (true≢false (sym c.if-none_again-2.true ∙ w.value-is ∙ w.if-none_again.false))
      ];
}

-- one of them told of a value that stands there too often
pub returns-else-none_again-2 : goal.returns-else-none_again-2
unfolding knot_order_ok
returns-else-none_again-2 c = record {
  answer = let far = again-far c.args.m c.args.knots.now c.requires.order in
      elim c.if-none_again.branch [
        | then-none_again w ↦
            let again = w.none_again-then-none_again.ensures.answer.one (sym w.value-is ∙ c.if-none_again-2.false) in
            c.if-none_again-2.false ∙ sym (far again.0 (omega (arith, again.1)) (omega (arith, again.2)) again.3)
        | else-none_again w ↦
            let again = c.none_again.ensures.answer.one w.if-none_again.false in
            c.if-none_again-2.false ∙ sym (far again.0 (omega (arith, again.1)) (omega (arith, again.2)) again.3)
      ];
}
