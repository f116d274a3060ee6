-- Row 4: knots that never fall, over every two indices; and where they do fall.
use mathlib.Core.Bool.{true, false, ◌&&◌, true≢false}
use mathlib.Core.List.{List, [], ◌∷◌}
use mathlib.Core.Logic.{◌⊎◌, inl, inr, ⊎_elim}
use mathlib.Core.Path.{◌≡◌}
use Prim.Native.Nat.{ℕ, zero, suc, ◌+◌, ◌≤◌, ◌<◌}
use native.Mathlib.Numerals.{add-one}
use native.Mathlib.Omega.{arith}
use lib.Dec.{leb}
use lib.ListN.{length, get_or}
use borrow.Author.Tests.{leb-false}
use Rattle.grid.specs.Limits.{knot_most}
use Rattle.grid.specs.Rows.{rises_from, knot_order_ok}
use Rattle.curve.specs.Lists.{NeverFall}
use Rattle.grid.proofs.RepeatLaws.{rises-between, rises-most}
use Rattle.checked.specs.Sentences.{KnotOrderWrong}
use Rattle.checked.proofs.TestLaws.{one-fails, Judged}

-- knots in order, as two facts
abbrev pub Ordered : List ℕ → Type 0
Ordered ts = NeverFall ts × ((a : ℕ) → a < length ts → get_or ts a 0 ≤ knot_most)

order-facts : (ts : List ℕ) → knot_order_ok ts ≡ true → Ordered ts
unfolding knot_order_ok
order-facts ts h = (λ a b. rises-between 0 ts a b h, rises-most 0 ts h)

-- the entry that breaks the order, `low` standing before the first
Breaks : ℕ → List ℕ → Type 0
Breaks low ts = (k : ℕ) × (k < length ts) × ((knot_most < get_or ts k 0) ⊎ (get_or ts k 0 < get_or (low ∷ ts) k 0))

breaks-cons : (low t : ℕ) (ts : List ℕ) → Breaks t ts → Breaks low (t ∷ ts)
unfolding Breaks
breaks-cons low t ts b = (suc b.0, omega (arith, b.1), b.2)

rises-breaks : (low : ℕ) (ts : List ℕ) → rises_from low ts ≡ false → Breaks low ts
unfolding rises_from Breaks
rises-breaks low [] h = absurd (true≢false h)
rises-breaks low (t ∷ ts) h =
    let rest = rises-breaks t ts in
    ⊎_elim
    (λ e. ⊎_elim (λ f. (zero, omega arith, inr (leb-false low t f))) (λ f. (zero, omega arith, inl (leb-false t knot_most f))) (one-fails (leb low t) (leb t knot_most) e))
    (λ e. breaks-cons low t ts (rest e))
    (one-fails (leb low t && leb t knot_most) (rises_from t ts) h)

breaks-wrong : (ts : List ℕ) (k : ℕ) → k < length ts → (knot_most < get_or ts k 0) ⊎ (get_or ts k 0 < get_or (0 ∷ ts) k 0) → KnotOrderWrong ts
breaks-wrong ts k i (inl h) = (k, i, inl h)
breaks-wrong ts zero i (inr h) = absurd (omega arith)
breaks-wrong ts (suc k) i (inr h) = (k, omega arith, inr (rw (add-one k) (i, h)))

order-wrong : (ts : List ℕ) → knot_order_ok ts ≡ false → KnotOrderWrong ts
unfolding knot_order_ok Breaks
order-wrong ts h =
    let b = rises-breaks 0 ts h in
    breaks-wrong ts b.0 b.1 b.2

order-clash : (ts : List ℕ) → Ordered ts → KnotOrderWrong ts → ⊥
order-clash ts o (k, i, inl h) = omega (arith, o.1 k i)
order-clash ts o (k, i, inr h) = omega (arith, o.0 k (k + 1) (omega arith) h.0, h.1)

pub order-judged : (ts : List ℕ) → Judged (knot_order_ok ts) (Ordered ts) (KnotOrderWrong ts)
order-judged ts = record { passing = order-facts ts; failing = order-wrong ts; clash = order-clash ts }
