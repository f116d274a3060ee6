-- A number that code reads: its text by its sign.
use mathlib.Core.Bool.{true, false, true≢false}
use mathlib.Core.List.{List, ◌∷◌}
use mathlib.Core.Path.{◌≡◌, refl, sym, ap, ◌∙◌}
use Prim.Native.Nat.{ℕ, ◌+◌, ◌≤◌}
use native.Mathlib.Omega.{arith}
use lib.IntN.{ℤ, pos, negsuc, nat_abs}
use lib.ListN.{length}
use lib.Signed.{lt_z}
use mir.Syntax.{w32}
use mir.Val.{SFits, to_z, of_z}
use mir.Facts.{to_z-of_z}
use borrow.Author.Tests.{ltb-true}
use Rattle.digits.specs.Decimal.{decimal}
use Rattle.digits.specs.Put.{Put}
use Rattle.path_data.specs.Letters.{minus_sign}
use Rattle.path_data.specs.Text.{number_text, pair_text}

-- its text by its sign
below-zero : (z : ℤ) → lt_z z (pos 0) ≡ true → number_text z ≡ minus_sign ∷ decimal (nat_abs z)
below-zero (pos n) h = absurd (omega (arith, ltb-true n 0 h))
below-zero (negsuc n) h = refl

above_zero : (z : ℤ) → lt_z z (pos 0) ≡ false → number_text z ≡ decimal (nat_abs z)
above_zero (pos n) h = refl
above_zero (negsuc n) h = absurd (true≢false h)

module _ (z : ℤ) (f : SFits w32 z) where
  -- the same in the size that was worked out
  module _ {size : ℕ} (e : size ≡ nat_abs (to_z w32 (of_z w32 z))) where
    same_size : nat_abs z ≡ size
    same_size = ap nat_abs (sym (to_z-of_z f)) ∙ sym e

    pub text-below : lt_z (to_z w32 (of_z w32 z)) (pos 0) ≡ true → number_text z ≡ minus_sign ∷ decimal size
    text-below h = below-zero z (rw (to_z-of_z f) at h) ∙ ap (λ (n : ℕ). minus_sign ∷ decimal n) same_size

    pub text-above : lt_z (to_z w32 (of_z w32 z)) (pos 0) ≡ false → number_text z ≡ decimal size
    text-above h = above_zero z (rw (to_z-of_z f) at h) ∙ ap decimal same_size

-- what was asked, and what came of it, for numbers as code passes them on
module _ {x y : ℤ} (f : SFits w32 x) (g : SFits w32 y) where
  pub pair-asked : (at : ℕ) {room : ℕ} → at + length (pair_text x y) ≤ room → at + length (pair_text (to_z w32 (of_z w32 x)) (to_z w32 (of_z w32 y))) ≤ room
  pair-asked at h = rw (to_z-of_z f, to_z-of_z g) h

  pub pair_put : {before after : List ℕ} {at next : ℕ} → Put before at (pair_text (to_z w32 (of_z w32 x)) (to_z w32 (of_z w32 y))) after next → Put before at (pair_text x y) after next
  pair_put h = rw (to_z-of_z f, to_z-of_z g) at h

  pub pair-measured : {counted : ℕ} → counted ≡ length (pair_text (to_z w32 (of_z w32 x)) (to_z w32 (of_z w32 y))) → counted ≡ length (pair_text x y)
  pair-measured h = rw (to_z-of_z f, to_z-of_z g) at h
