-- Of a curve that passes the check with a clamped right end the last span is not empty.
use mathlib.Core.Bool.{true≢false}
use mathlib.Core.List.{List}
use mathlib.Core.Path.{◌≡◌, sym, ◌∙◌}
use Prim.Native.Nat.{ℕ, ◌+◌, ◌-◌, ◌<◌}
use native.Mathlib.Omega.{arith}
use lib.IntN.{ℤ}
use lib.ListN.{length, get_or}
use Rattle.grid.specs.Rows.{knot_order_ok}
use Rattle.grid.specs.Check.{Passes}
use Rattle.grid.proofs.CheckLaws.{passes-tests}
use Rattle.grid.proofs.InnerLaws.{again-far}
use Rattle.grid.proofs.SizeLaws.{sizes-of-passes}
use Rattle.insertion.proofs.CheckedLaws.{rises-of-test}
use Rattle.insertion.proofs.OrderLaws.{either}

-- else t_{n+1} would stand m+2 times
pub last-span : (m : ℕ) (ts : List ℕ) (xs ys : List ℤ) → Passes m ts xs ys → get_or ts (length xs + m) 0 ≡ get_or ts (length xs) 0
    → get_or ts (length xs - 1) 0 < get_or ts (length xs) 0
unfolding knot_order_ok
last-span m ts xs ys passes end =
    let t = passes-tests m ts xs ys passes in
    let s = sizes-of-passes m ts xs ys passes in
    let before = rises-of-test ts t.order (length xs - 1) (length xs) (omega arith) (omega (arith, s.knots)) in
    let back : length xs + m - (m + 1) ≡ length xs - 1 = omega arith in
    either (get_or ts (length xs - 1) 0) (get_or ts (length xs) 0)
    (λ below. below)
    (λ same. absurd (true≢false (
    sym t.repeats
    ∙ again-far m ts t.order (length xs + m) (omega (arith, s.enough)) (omega (arith, s.knots)) (rw back (omega arith))
    )))
