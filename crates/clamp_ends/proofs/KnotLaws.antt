-- A clamped curve keeps its knots but the first m and the last m.
use mathlib.Core.List.{List}
use mathlib.Core.Path.{◌≡◌, sym}
use Prim.Native.Nat.{ℕ, ◌+◌, ◌≤◌, ◌<◌}
use native.Mathlib.Omega.{arith}
use lib.ListN.{length, get_or}
use Rattle.insertion.proofs.OrderLaws.{either}
use Rattle.clamping.proofs.KnotLaws.{KnotsClamped}

pub knots-kept : (m : ℕ) (ts : List ℕ) (count : ℕ) (us : List ℕ) → KnotsClamped m ts count us → (j : ℕ) → m ≤ j → j + m < length us → get_or ts j 0 ≡ get_or us j 0
knots-kept m ts count us c j low high =
    either m j
    (λ l. either j count
    (λ u. sym (c.between j l u))
    (λ u. let here : j ≡ count = omega (arith, c.long) in rw here (sym (c.lasts count (omega arith) (omega (arith, c.long))))))
    (λ l. let here : j ≡ m = omega arith in rw here (sym (c.firsts m (omega arith))))
