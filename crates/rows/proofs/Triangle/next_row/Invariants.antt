-- `rows::next_row` meets its contract: turn k writes one entry more over its place, the k-th from the end, if row r+1 has it.
use Rattle.rows.specs.Row.{HoldsRow}
use Rattle.rows.proofs.RowLaws.{Overwritten}
use Rattle.rows.proofs.Triangle.next_row.Given as goal

abbrev pub invariant-loop-k : goal.invariant-loop-k
invariant-loop-k l =
    HoldsRow l.self.degree l.self.knots.now l.self.ps.now l.self.t l.self.span l.r l.initial.row
    → Overwritten l.self.degree l.self.knots.now l.self.ps.now l.self.t l.self.span l.r l.k l.row
