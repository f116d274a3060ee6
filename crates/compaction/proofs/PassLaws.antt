-- A pass of removals has one result.
use mathlib.Core.Path.{◌≡◌, refl, sym, subst, subst₂}
use Prim.Native.Nat.{ℕ}
use native.Mathlib.Omega.{arith}
use Rattle.removal.proofs.PolygonLaws.{removes-unique}
use Rattle.checked.proofs.OccurrenceLaws.{stands_at}
use Rattle.curve.specs.Lists.{Lists}
use Rattle.removal.specs.Removal.{Removes, Removable}
use Rattle.compaction.specs.Compaction.{RemovesWhile, stays, goes_on, IsNext, Pass, done, next}

-- a removed knot could be removed
removes-removable : {m v : ℕ} {c d : Lists} → Removes m v c d → Removable m c v
removes-removable {d} p = record { without = d; removes = p }

-- removing while it is accepted has one result
pub while-unique : {m v : ℕ} {c d e : Lists} → RemovesWhile m v c d → RemovesWhile m v c e → d ≡ e
while-unique (stays n) (stays o) = refl
while-unique (stays n) (goes_on p q) = absurd (n (removes-removable p))
while-unique (goes_on p q) (stays o) = absurd (o (removes-removable p))
while-unique {m} {v} {e} (goes_on p q) (goes_on {d = d} r s) = while-unique q (subst (λ (x : Lists). RemovesWhile m v x e) (sym (removes-unique _ _ _ _ _ p r)) s)

-- the smallest inner value above `low` is one
next-unique : {m low v w : ℕ} {c : Lists} → IsNext m low c v → IsNext m low c w → v ≡ w
next-unique {v} {w} {c} p q =
    let a = stands_at v c.knots p.present in
    let b = stands_at w c.knots q.present in
    let less = p.least b.0 b.1 (rw b.2 q.above) in
    let more = q.least a.0 a.1 (rw a.2 p.above) in
    omega (arith, b.2, a.2)

pub pass-unique : {m low : ℕ} {c d e : Lists} → Pass m low c d → Pass m low c e → d ≡ e
pass-unique (done n) (done o) = refl
pass-unique (done n) (next {v = v} p q r) = absurd (n v p)
pass-unique (next {v = v} p q r) (done n) = absurd (n v p)
pass-unique {m} {low} {c} {d} {e} (next {v = v} p q r) (next {v = w} {d = f} s t u) =
    let same : w ≡ v = next-unique s p in
    let left = while-unique (subst (λ (x : ℕ). RemovesWhile m x c f) same t) q in
    pass-unique r (subst₂ (λ (x : ℕ) (y : Lists). Pass m x y e) same left u)
