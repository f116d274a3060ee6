-- The quotient of an insertion between two pieces that meet at v, in whole numbers: it is their meeting point.
use mathlib.Core.List.{[], ◌∷◌}
use mathlib.Core.Path.{◌≡◌, refl, sym, ap, ◌∙◌}
use Prim.Native.Nat.{ℕ, ◌-◌, ◌≤◌}
use native.Mathlib.Omega.{arith}
use lib.IntN.{ℤ, pos, ◌+ℤ◌, ◌-ℤ◌, ◌*ℤ◌}
use Rattle.signed.proofs.DifferenceLaws.{pos-sub}
use Rattle.algebra.proofs.Expressions.{var, lit, ◌⊕◌, ◌⊗◌, ◌⊖◌}
use Rattle.algebra.proofs.Solver.{linear-combination, fact}
use Rattle.algebra.proofs.IntegerRing.{integer_ring}
use Rattle.insertion.proofs.KnownLaws.{factor-out}
use Rattle.spline_pieces.specs.Pieces.{third}

-- a piece from a to b arrives at p with the tangent d, and one from b to c leaves it so: p is the mean that the insertion of b asks for
pub meeting-mean : (a b c : ℕ) (p d : ℤ) → a ≤ b → b ≤ c
    → third (b - a) d *ℤ pos 3 ≡ pos (b - a) *ℤ d → third (c - b) d *ℤ pos 3 ≡ pos (c - b) *ℤ d
    → p *ℤ (pos c -ℤ pos a) ≡ (pos b -ℤ pos a) *ℤ (p +ℤ third (c - b) d) +ℤ (pos c -ℤ pos b) *ℤ (p -ℤ third (b - a) d)
meeting-mean a b c p d before behind arrives leaves =
    let arriving : third (b - a) d *ℤ pos 3 ≡ (pos b -ℤ pos a) *ℤ d = arrives ∙ ap (λ z. z *ℤ d) (sym (pos-sub b a before)) in
    let leaving : third (c - b) d *ℤ pos 3 ≡ (pos c -ℤ pos b) *ℤ d = leaves ∙ ap (λ z. z *ℤ d) (sym (pos-sub c b behind)) in
    factor-out 3 _ _ (omega arith)
    (linear-combination integer_ring (pos a ∷ pos b ∷ pos c ∷ p ∷ d ∷ third (b - a) d ∷ third (c - b) d ∷ [])
    ((var 3 ⊗ (var 2 ⊖ var 0)) ⊗ lit 3)
    (((var 1 ⊖ var 0) ⊗ (var 3 ⊕ var 6) ⊕ (var 2 ⊖ var 1) ⊗ (var 3 ⊖ var 5)) ⊗ lit 3)
    (fact (var 2 ⊖ var 1) (var 5 ⊗ lit 3) ((var 1 ⊖ var 0) ⊗ var 4) ∷ fact (var 0 ⊖ var 1) (var 6 ⊗ lit 3) ((var 2 ⊖ var 1) ⊗ var 4) ∷ [])
    (arriving, (leaving, tt)) refl)
