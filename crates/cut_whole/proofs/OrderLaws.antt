-- Counting in knots that never fall: where no knot lies between a and b, the knots up to b are those up to a and as many more as b stands there.
use mathlib.Core.Bool.{true}
use mathlib.Core.List.{List, [], ◌∷◌}
use mathlib.Core.Logic.{◌⊎◌, ⊎_elim}
use mathlib.Core.Path.{◌≡◌, refl}
use Prim.Native.Nat.{ℕ, suc, ◌+◌, ◌≤◌, ◌<◌}
use native.Mathlib.Decide.{ℕ_discrete}
use native.Mathlib.Omega.{arith}
use borrow.Author.Tests.{le-leb, lt-leb}
use lib.ListN.{length, get_or}
use Rattle.grid.specs.Limits.{knot_most}
use Rattle.grid.specs.Rows.{rises_from, occurrences}
use Rattle.grid.proofs.RepeatLaws.{rises-cons, occurrences-is, occurrences-not}
use Rattle.insertion.specs.Insertion.{knots_up_to}

-- no knot is as low as a
up_to-none : (a low : ℕ) (ks : List ℕ) → rises_from low ks ≡ true → a < low → knots_up_to a ks ≡ 0
unfolding knots_up_to
up_to-none a low [] h l = refl
up_to-none a low (t ∷ ks) h l = let p = rises-cons low t ks h in rw (lt-leb t a (omega (arith, p.0)))

-- no knot is below b
pub up_to-first : (b low : ℕ) (ks : List ℕ) → rises_from low ks ≡ true → b ≤ low → knots_up_to b ks ≡ occurrences b ks
unfolding knots_up_to occurrences
up_to-first b low [] h l = refl
up_to-first b low (t ∷ ks) h l =
    let p = rises-cons low t ks h in
    let rest = up_to-first b t ks p.1 (omega (arith, p.0)) in
    elim (ℕ_discrete t b) [
      | yes e ↦ rw (le-leb t b (omega arith), occurrences-is b t ks e) (omega arith)
      | no n ↦
          let above : b < t = omega (arith, p.0) in
          rw (lt-leb t b above, occurrences-not b t ks n) (omega (arith, up_to-none b t ks p.1 above))
    ]

pub up_to-next : (a b low : ℕ) (ks : List ℕ) → rises_from low ks ≡ true → a < b → ((j : ℕ) → j < length ks → (get_or ks j 0 ≤ a) ⊎ (b ≤ get_or ks j 0))
    → knots_up_to b ks ≡ knots_up_to a ks + occurrences b ks
unfolding knots_up_to occurrences
up_to-next a b low [] h l none = refl
up_to-next a b low (t ∷ ks) h l none =
    let p = rises-cons low t ks h in
    let rest = up_to-next a b t ks p.1 l (λ j i. none (suc j) (omega arith)) in
    ⊎_elim
    (λ below. rw (le-leb t a below, le-leb t b (omega arith), occurrences-not b t ks (λ e. omega arith)) (omega arith))
    (λ above. rw (lt-leb t a (omega arith)) (omega (arith, up_to-first b b (t ∷ ks) (again p above) (omega arith))))
    (none 0 (omega arith))
  where
    again : (low ≤ t) × (rises_from t ks ≡ true) × (t ≤ knot_most) → b ≤ t → rises_from b (t ∷ ks) ≡ true
    again p above = unfold rises_from in rw (le-leb b t above, le-leb t knot_most p.2) p.1
