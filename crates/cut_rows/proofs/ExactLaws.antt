-- A quotient has left nothing over exactly where it gives the number again.
use mathlib.Core.Bool.{Bool, true, false, true≢false}
use mathlib.Core.Path.{◌≡◌, refl, sym, ap, ◌∙◌}
use Prim.Native.Nat.{ℕ}
use lib.Dec.{eqb}
use lib.IntN.{ℤ, pos, ◌*ℤ◌}
use lib.Signed.{quot_z}
use mir.Syntax.{w64}
use mir.Val.{SFits, to_z, of_z}
use mir.ValLaws.{to_z-of_z}
use borrow.Author.Tests.{eq-eqb, ne_eqb}
use Rattle.signed.specs.Division.{divides}
use Rattle.signed.proofs.DivisionLaws.{product-divides, product-of-quot}

module _ (z a : ℤ) (d : ℕ) (wide : SFits w64 z) (wide-product : SFits w64 a) (product : a ≡ quot_z z (pos d) *ℤ pos d) where
  pub exact-told : eqb (of_z w64 a) (of_z w64 z) ≡ divides (pos d) z
  exact-told = by (divides (pos d) z) refl
    where
      by : (t : Bool) → divides (pos d) z ≡ t → eqb (of_z w64 a) (of_z w64 z) ≡ t
      by true e = eq-eqb (of_z w64 a) (of_z w64 z) (ap (of_z w64) (product ∙ product-of-quot z d e))
      by false e =
          ne_eqb (of_z w64 a) (of_z w64 z) λ bits.
          let same : z ≡ a = sym (to_z-of_z w64 z wide) ∙ ap (to_z w64) (sym bits) ∙ to_z-of_z w64 a wide-product in
          let whole : divides (pos d) z ≡ true = rw (same ∙ product) (product-divides (quot_z z (pos d)) d) in
          true≢false (sym whole ∙ e)
