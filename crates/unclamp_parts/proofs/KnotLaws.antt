-- The knots behind t_{n+1}: how large they grow, and the list of them as it is written.
use mathlib.Core.List.{List}
use mathlib.Core.Path.{◌≡◌, sym, ◌∙◌}
use Prim.Native.Nat.{ℕ, ◌+◌, ◌-◌, ◌*◌, ◌≤◌}
use native.Mathlib.Nat.{mul-le-mul, mul-le-mul_right}
use native.Mathlib.Omega.{arith}
use lib.ListN.{length, get_or, take}
use Rattle.lent.specs.Lent.{over}
use Rattle.lent.proofs.StoreLaws.{Stored}
use Rattle.grid.specs.Limits.{knot_most}
use Rattle.insertion.specs.Insertion.{entries}
use Rattle.insertion.proofs.EntryLaws.{entries-length, entries_at}
use Rattle.insertion.proofs.PartLaws.{same-front, front-copied}
use Rattle.unclamping.specs.Unclamping.{open_knot}
use Rattle.unclamping.proofs.EntryLaws.{knot-old, knot-behind}
use Rattle.unclamp_parts.specs.Standing.{KnotsEnding}

-- the knot that is worked out from the width of the last span
module _ (ts : List ℕ) (count : ℕ) (some : 1 ≤ count) (k width : ℕ) (e : width ≡ get_or ts (count - 1 + 1) 0 - get_or ts (count - 1) 0) where
  pub last-width : width ≡ get_or ts count 0 - get_or ts (count - 1) 0
  last-width =
      let end : count - 1 + 1 ≡ count = omega arith in
      rw end at e

  pub knot-is : get_or ts count 0 + k * width ≡ open_knot ts count (count + k)
  knot-is = rw last-width (sym (knot-behind ts count k))

  -- where the last new one fits, it fits
  pub knot-fits : (m : ℕ) → KnotsEnding m ts count → k ≤ m → get_or ts count 0 + k * width ≤ knot_most
  knot-fits m s inside = rw last-width (omega (arith, s.fit, mul-le-mul_right (get_or ts count 0 - get_or ts (count - 1) 0) inside))

-- three widths of 16 bits fit 32
pub three-widths : (m width : ℕ) → m ≤ 3 → width ≤ 65535 → m * width ≤ 3 * 65535
three-widths m width a b = mul-le-mul a b

-- the knots up to t_{n+1} are copied
pub knots-stored : (m : ℕ) (ts : List ℕ) (count : ℕ) (before list : List ℕ) → KnotsEnding m ts count → length ts ≤ length before
    → list ≡ over (take (length before) (take (count + 1) ts)) before → Stored (entries (open_knot ts count) (length ts)) before list (count + 1)
knots-stored m ts count before list s room copied =
    let n = entries-length (open_knot ts count) (length ts) in
    let front =
    same-front 0 (entries (open_knot ts count) (length ts)) ts (count + 1) (omega (arith, s.places)) (omega (arith, s.places))
    (λ k inside. entries_at (open_knot ts count) (length ts) k 0 (omega (arith, s.places)) ∙ knot-old ts count k (omega arith)) in
    front-copied (entries (open_knot ts count) (length ts)) before (take (count + 1) ts) list (count + 1) (omega (arith, s.places)) (omega arith) front copied
