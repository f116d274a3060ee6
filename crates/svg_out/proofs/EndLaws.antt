-- Knots that never fall: where the outermost knot of an end is the domain's, all between are.
use mathlib.Core.List.{List}
use mathlib.Core.Path.{◌≡◌}
use Prim.Native.Nat.{ℕ, ◌+◌, ◌≤◌}
use native.Mathlib.Omega.{arith}
use lib.ListN.{length, get_or}
use Rattle.curve.specs.Lists.{NeverFall}
use Rattle.checked.specs.Checked.{Clamped}

pub both-clamped : (m : ℕ) (ts : List ℕ) (count : ℕ) → NeverFall ts → length ts ≡ count + m + 1
    → get_or ts m 0 ≤ get_or ts 0 0 → get_or ts (count + m) 0 ≤ get_or ts count 0 → Clamped m ts count
both-clamped m ts count rising long first last =
    record {
      firsts = λ a h. omega (arith, first, rising 0 a (omega arith) (omega (arith, long)), rising a m h (omega (arith, long)));
      lasts = λ a h l. omega (arith, last, rising count a h l, rising a (count + m) (omega (arith, long)) (omega (arith, long)));
    }
