-- The pairs before point k, counted from point 1 on, and the one of point k.
use mathlib.Core.List.{List, ◌++◌}
use mathlib.Core.Path.{◌≡◌, ap, ◌∙◌}
use Prim.Native.Nat.{ℕ, ◌+◌, ◌-◌, ◌≤◌, ◌<◌}
use native.Mathlib.Omega.{arith}
use lib.IntN.{ℤ}
use lib.ListN.{length, length-append}
use Rattle.path_data.specs.Text.{pairs_text}
use Rattle.path_data.proofs.TextLaws.{pair_at, pairs_text-next, pairs_text-room}

module _ (xs ys : List ℤ) (k : ℕ) (some : 1 ≤ k) where
  here : k - 1 + 1 ≡ k
  here = omega arith

  -- they are joined
  pub pairs-more : pairs_text xs ys 1 (k + 1 - 1) ≡ pairs_text xs ys 1 (k - 1) ++ pair_at xs ys k
  pairs-more =
      let same : k + 1 - 1 ≡ k - 1 + 1 = omega arith in
      ap (pairs_text xs ys 1) same ∙ pairs_text-next xs ys (k - 1) ∙ ap (λ (j : ℕ). pairs_text xs ys 1 (k - 1) ++ pair_at xs ys j) here

  pub pairs-longer : length (pairs_text xs ys 1 (k + 1 - 1)) ≡ length (pairs_text xs ys 1 (k - 1)) + length (pair_at xs ys k)
  pairs-longer = ap length pairs-more ∙ length-append (pairs_text xs ys 1 (k - 1)) (pair_at xs ys k)

  -- there is room for it where there is room for all
  pub pairs-room : (m : ℕ) → k < m + 1 → length (pairs_text xs ys 1 (k - 1) ++ pair_at xs ys k) ≤ length (pairs_text xs ys 1 m)
  pairs-room m h =
      let same = ap (λ (j : ℕ). length (pairs_text xs ys 1 (k - 1) ++ pair_at xs ys j)) here in
      omega (arith, same, pairs_text-room xs ys (k - 1) m (omega arith))
