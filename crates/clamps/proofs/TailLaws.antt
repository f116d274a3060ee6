-- What judging the clamps' fields answers, way by way.
use Rattle.std.specs.Prelude.{Ok, Err}
use mathlib.Core.Path.{◌≡◌, ap, ◌∙◌}
use mathlib.Core.List.{List}
use Prim.Native.Nat.{ℕ, zero, suc, ◌+◌, ◌<◌, ◌≤◌}
use native.Mathlib.Omega.{arith}
use lib.ListN.{length}
use borrow.Author.Tests.{le-leb, lt-leb}
use Rattle.taken_field.specs.Taking.{left_over_at, field_at}
use Rattle.taken_field.specs.declared.Break.{Break}
use Rattle.layout.proofs.SplitLaws.{field-known, length-least}
use Rattle.clamps.specs.Clamp.{clamp_field_bytes}
use Rattle.clamps.specs.Tail.{clamp_rule, clamps_from}

-- a clamp's field that was taken stands within the bytes
pub clamp-inside : (bytes : List ℕ) (at len : ℕ) → field_at clamp_rule bytes at ≡ Ok len → at + clamp_field_bytes ≤ length bytes
clamp-inside bytes at len e =
    let whole = field-known clamp_rule bytes at len e in
    omega (arith, whole.inside, length-least clamp_rule len whole.right)

module _ (bytes : List ℕ) (at count : ℕ) where
  pub tail-done : (left : ℕ) → length bytes ≤ at → clamps_from left bytes at count ≡ Ok count
  unfolding clamps_from
  tail-done zero h = rw (le-leb (length bytes) at h)
  tail-done (suc left) h = rw (le-leb (length bytes) at h)

  module _ (more : at < length bytes) where
    pub tail-full : (left : ℕ) → left ≡ 0 → clamps_from left bytes at count ≡ Err (left_over_at at)
    unfolding clamps_from
    tail-full left e = ap (λ (n : ℕ). clamps_from n bytes at count) e ∙ rw (lt-leb (length bytes) at more)

    pub tail-broken : (left : ℕ) (fault : Break) → 0 < left → field_at clamp_rule bytes at ≡ Err fault → clamps_from left bytes at count ≡ Err fault
    unfolding clamps_from
    tail-broken zero fault h e = absurd (omega arith)
    tail-broken (suc left) fault h e = rw (lt-leb (length bytes) at more, e)

    pub tail-next : (left next len : ℕ) → left ≡ suc next → field_at clamp_rule bytes at ≡ Ok len
        → clamps_from left bytes at count ≡ clamps_from next bytes (at + clamp_field_bytes) (count + 1)
    unfolding clamps_from
    tail-next left next len n e = ap (λ (k : ℕ). clamps_from k bytes at count) n ∙ rw (lt-leb (length bytes) at more, e)

-- the ways of judging
pub ruleset tail_ways = (tail-done, tail-full, tail-broken, tail-next)
