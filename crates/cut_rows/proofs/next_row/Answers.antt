-- Two places of a cubic are made, and both are whole.
use mathlib.Core.Path.{◌≡◌}
use native.Mathlib.Omega.{arith}
use Rattle.std.specs.Prelude.{Some}
use Rattle.cut_rows.proofs.StepLaws.{row_read, MeanAt, mean-read, mean-moves, stepped-on, next-two}
use Rattle.cut_rows.proofs.next_row.Goals as goal

pub returns : goal.returns
returns c = record {
  answer = let a = c.args in
      let s = c.requires in
      let last = c.in_ok-last.last in
      let third = c.in_ok-third.third in
      let w : MeanAt s 2 (Some third) = c.in_ok-third.ensures.answer in
      let u : MeanAt s a.m (Some last) = c.in_ok-last.ensures.answer in
      let three : a.m ≡ 3 = omega (arith, s.least, s.less, s.degree, c.if-m-eq2.false) in
      rw (row_read s 0, row_read s 1, mean-read s 2 third w, mean-read s a.m last u)
      (next-two s third last w u three _
      (stepped-on s third last (λ h. w.value.0) (λ h. absurd (omega (arith, s.less, s.degree, c.if-full-eq2.false))) (λ h. mean-moves s last a.m 3 h u.value.0) (λ h. absurd (omega (arith, s.least, s.less, c.if-m-eq2.false)))));
}
