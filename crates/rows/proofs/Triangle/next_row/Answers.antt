-- `rows::next_row` meets its contract: turn k writes one entry more over its place, the k-th from the end, if row r+1 has it.
use native.Mathlib.Omega.{arith}
use mathlib.Core.Path.{sym, subst}
use Prim.Native.Nat.{◌+◌}
use Rattle.rows.proofs.RowLaws.{Overwritten, one_more, none_more, next-row-holds}
use Rattle.rows.proofs.Triangle.next_row.Goals.{else-r-k, then-r-k}
use Rattle.rows.proofs.Triangle.next_row.Goals as goal

pub loop-k-preserved : goal.loop-k-preserved
loop-k-preserved c = λ h.
    let x = c.args in
    let at = c.loop-k in
    let so_far = at.invariant h in
    let After = Overwritten x.self.degree x.self.knots.now x.self.ps.now x.self.t x.self.span x.r (at.k + 1) in
    elim c.if-r-k.branch [
      | then-r-k w ↦ subst After (sym w.row-is) (one_more so_far w.cell_at.ensures.answer (omega arith) (omega (arith, w.if-r-k.true)) (omega (arith, w.if-r-k.true)) (omega arith))
      | else-r-k w ↦ subst After (sym w.row-is) (none_more so_far (omega (arith, w.if-r-k.false)))
    ]

pub returns : goal.returns
returns c = record { answer = λ h. next-row-holds (c.loop-k.invariant h) (omega arith) }
