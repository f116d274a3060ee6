-- Row 14 clamp by clamp.
use mathlib.Core.Bool.{Bool, true, false}
use mathlib.Core.Path.{◌≡◌, ap, ◌∙◌}
use mathlib.Core.List.{List}
use native.Mathlib.Omega.{arith}
use Prim.Native.Nat.{ℕ, suc, ◌+◌, ◌*◌, ◌-◌, ◌<◌}
use Rattle.fields.proofs.PlaceLaws.{put_at-rest}
use Rattle.grid.specs.Rows.{rectangle_ok}
use Rattle.clamps.specs.Clamp.{Clamp, clamp_field_bytes, clamp_at, clamps_at, clamps_ok}

-- the test of one clamp
abbrev pub one_ok : Clamp → Bool
one_ok c = rectangle_ok c.low_x c.high_x c.low_y c.high_y

module _ (bytes : List ℕ) (start count i : ℕ) (more : i < count) where
  -- a clamp that passes leaves the others
  pub ok-next : one_ok (clamp_at bytes (start + clamp_field_bytes * i)) ≡ true
      → clamps_ok (clamps_at bytes (start + clamp_field_bytes * i) (count - i)) ≡ clamps_ok (clamps_at bytes (start + clamp_field_bytes * (i + 1)) (count - (i + 1)))
  unfolding clamps_ok
  ok-next h =
      let left : count - i ≡ suc (count - (i + 1)) = omega arith in
      let next : start + clamp_field_bytes * i + clamp_field_bytes ≡ start + clamp_field_bytes * (i + 1) = omega arith in
      ap (λ (k : ℕ). clamps_ok (clamps_at bytes (start + clamp_field_bytes * i) k)) left ∙ rw h (ap (λ (k : ℕ). clamps_ok (clamps_at bytes k (count - (i + 1)))) next)

  -- one that does not settles it
  pub ok-fails : one_ok (clamp_at bytes (start + clamp_field_bytes * i)) ≡ false → clamps_ok (clamps_at bytes (start + clamp_field_bytes * i) (count - i)) ≡ false
  unfolding clamps_ok
  ok-fails h =
      let left : count - i ≡ suc (count - (i + 1)) = omega arith in
      ap (λ (k : ℕ). clamps_ok (clamps_at bytes (start + clamp_field_bytes * i) k)) left ∙ rw h

-- none left
pub ok-done : (bytes : List ℕ) (at n : ℕ) → n ≡ 0 → clamps_ok (clamps_at bytes at n) ≡ true
unfolding clamps_ok
ok-done bytes at n e = ap (λ (k : ℕ). clamps_ok (clamps_at bytes at k)) e

-- the ways of row 14
pub ruleset ok_ways = (ok-next, ok-fails, ok-done)

-- sides that are put into the rest of a list
pub ruleset sides_put = (put_at-rest)
