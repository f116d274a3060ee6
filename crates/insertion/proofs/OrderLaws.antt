-- Two naturals stand in order or the other way round: a claim is shown for both.
use mathlib.Core.Bool.{Bool, true, false}
use mathlib.Core.Path.{◌≡◌, refl}
use Prim.Native.Nat.{ℕ, suc, ◌≤◌, ◌<◌}
use native.Mathlib.Nat.{le_of_suc-le-suc}
use lib.Dec.{leb}
use borrow.Author.Tests.{leb-true, leb-false}

pub either {ℓ} : {X : Type ℓ} (a b : ℕ) → (a < b → X) → (b ≤ a → X) → X
either {X} a b f g = go (leb (suc a) b) refl
  where
    go : (t : Bool) → leb (suc a) b ≡ t → X
    go true e = f (leb-true (suc a) b e)
    go false e = g (le_of_suc-le-suc (leb-false (suc a) b e))
