-- `rows::first_row` meets its contract: each place that the degree asks for holds its coordinate.
use native.Mathlib.Omega.{arith}
use mathlib.Core.List.{[], ◌∷◌}
use mathlib.Core.Path.{◌≡◌, sym, subst}
use Prim.Native.Nat.{◌-◌, ◌≤◌}
use lib.Ieee.{Float}
use lib.ListN.{set}
use Rattle.triangle.specs.FloatTriangle.{entry_of}
use Rattle.rows.specs.Row.{HoldsRow}
use Rattle.rows.proofs.RowLaws.{four-hold}
use Rattle.rows.proofs.Triangle.first_row.Goals.{After-entry-last, else-self-ge2, then-self-ge2}
use Rattle.rows.proofs.Triangle.first_row.Goals as goal

-- the last two coordinates are there, and two numbers in front of them, each its coordinate where the degree asks for it
held :
    (c : After-entry-last) (a b : Float) → let x = c.args.self in
    (2 ≤ x.degree → b ≡ entry_of x.degree x.knots.now x.ps.now x.t 0 (x.span - 2)) → (3 ≤ x.degree → a ≡ entry_of x.degree x.knots.now x.ps.now x.t 0 (x.span - 3))
    → HoldsRow x.degree x.knots.now x.ps.now x.t x.span 0 (a ∷ b ∷ c.entry-third.result ∷ c.entry-last.result ∷ [])
unfolding entry_of
held c a b second first =
    let x = c.args.self in
    four-hold x.degree x.knots.now x.ps.now x.t x.span 0 a b _ _ (omega arith) c.entry-last.ensures.answer (λ g. c.entry-third.ensures.answer) second first

pub returns-then-self-ge3 : goal.returns-then-self-ge3
unfolding entry_of
returns-then-self-ge3 c = record {
  answer = let x = c.args.self in
      elim c.if-self-ge2.branch [
        | then-self-ge2 w ↦
            subst
            (λ row. HoldsRow x.degree x.knots.now x.ps.now x.t x.span 0 (set row 0 c.entry-then-self-ge3.result))
            (sym w.row-is)
            (held (goal.at.returns-then-self-ge3 c).After-entry-last _ _ (λ g. w.entry.ensures.answer) (λ g. c.entry-then-self-ge3.ensures.answer))
        | else-self-ge2 w ↦ absurd (omega (arith, w.if-self-ge2.false))
      ];
}

pub returns-else-self-ge3 : goal.returns-else-self-ge3
unfolding entry_of
returns-else-self-ge3 c = record {
  answer = let x = c.args.self in
      let Held = HoldsRow x.degree x.knots.now x.ps.now x.t x.span 0 in
      elim c.if-self-ge2.branch [
        | then-self-ge2 w ↦ subst Held (sym w.row-is) (held (goal.at.returns-else-self-ge3 c).After-entry-last _ _ (λ g. w.entry.ensures.answer) (λ g. absurd (omega arith)))
        | else-self-ge2 w ↦
            subst Held (sym w.row-is) (held (goal.at.returns-else-self-ge3 c).After-entry-last _ _ (λ g. absurd (omega (arith, w.if-self-ge2.false))) (λ g. absurd (omega arith)))
      ];
}
