-- `rows::Triangle::last_entry` meets its contract: as many rows are worked out as the degree has, and the last has one entry.
use native.Mathlib.Omega.{arith}
use mathlib.Core.List.{List}
use mathlib.Core.Path.{◌≡◌, sym, subst}
use Prim.Native.Nat.{ℕ, min}
use lib.Ieee.{Float}
use Rattle.rows.specs.Row.{HoldsRow}
use Rattle.rows.proofs.RowLaws.{no_step, step-more, step-none, last_entry}
use Rattle.rows.proofs.Triangle.last_entry.Goals.{After-next_row-row, Joined-self-gt1, Joined-self-gt2, else-self-gt1, else-self-gt2, then-self-gt1, then-self-gt2}
use Rattle.rows.proofs.Triangle.last_entry.Goals as goal

one : (c : After-next_row-row) →
    let After : ℕ → List Float → Type 0 = λ n row. let x = c.args in HoldsRow x.self.degree x.self.knots.now x.self.ps.now x.self.t x.self.span (min x.self.degree n) row in
    After 1 c.next_row-row.result
one c =
    let x = c.args in
    step-more (omega arith) c.next_row-row.ensures.answer (no_step c.first_row-row.ensures.answer)

two : (c : Joined-self-gt1) →
    let After : ℕ → List Float → Type 0 = λ n row. let x = c.args in HoldsRow x.self.degree x.self.knots.now x.self.ps.now x.self.t x.self.span (min x.self.degree n) row in
    After 2 c.if-self-gt1.row
two c =
    let After : ℕ → List Float → Type 0 = λ n row. let x = c.args in HoldsRow x.self.degree x.self.knots.now x.self.ps.now x.self.t x.self.span (min x.self.degree n) row in
    let one : After 1 c.next_row-row.result = let x = c.args in
    step-more (omega arith) c.next_row-row.ensures.answer (no_step c.first_row-row.ensures.answer) in
    elim c.if-self-gt1.branch [ then-self-gt1 w ↦ subst (After 2) (sym w.row-is) (step-more w.if-self-gt1.true w.next_row-row-then-self-gt1.ensures.answer one) | else-self-gt1 w ↦ subst (After 2) (sym w.row-is) (step-none w.if-self-gt1.false one) ]

three : (c : Joined-self-gt2) →
    let After : ℕ → List Float → Type 0 = λ n row. let x = c.args in HoldsRow x.self.degree x.self.knots.now x.self.ps.now x.self.t x.self.span (min x.self.degree n) row in
    After 3 c.if-self-gt2.row
three c =
    let After : ℕ → List Float → Type 0 = λ n row. let x = c.args in HoldsRow x.self.degree x.self.knots.now x.self.ps.now x.self.t x.self.span (min x.self.degree n) row in
    let one : After 1 c.next_row-row.result = let x = c.args in
    step-more (omega arith) c.next_row-row.ensures.answer (no_step c.first_row-row.ensures.answer) in
    let two : After 2 c.if-self-gt1.row = elim c.if-self-gt1.branch [ then-self-gt1 w ↦ subst (After 2) (sym w.row-is) (step-more w.if-self-gt1.true w.next_row-row-then-self-gt1.ensures.answer one) | else-self-gt1 w ↦ subst (After 2) (sym w.row-is) (step-none w.if-self-gt1.false one) ] in
    elim c.if-self-gt2.branch [ then-self-gt2 w ↦ subst (After 3) (sym w.row-is) (step-more w.if-self-gt2.true w.next_row-row-then-self-gt2.ensures.answer two) | else-self-gt2 w ↦ subst (After 3) (sym w.row-is) (step-none w.if-self-gt2.false two) ]

pub returns : goal.returns
returns c = record {
  answer = let x = c.args in
      let done : x.self.degree ≡ min x.self.degree 3 = omega arith in
      last_entry x.self.degree x.self.knots.now x.self.ps.now x.self.t x.self.span (min x.self.degree 3) c.if-self-gt2.row done (three c);
}
