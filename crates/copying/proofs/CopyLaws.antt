-- The copy loop, over any kind of entry: after j turns the list holds the first j entries copied and the rest as before.
use mathlib.Core.List.{List}
use mathlib.Core.Path.{◌≡◌, ◌∙◌}
use Prim.Native.Nat.{ℕ, ◌+◌, ◌≤◌, ◌<◌, min}
use native.Mathlib.Omega.{arith}
use lib.ListN.{length, get_or, take, set, length-take}
use lib.Seq.{get_or-take}
use Rattle.lent.specs.Lent.{over}
use Rattle.lent.proofs.StoreLaws.{Stored, stored-none, stored_more, stored-all, stored-length}

pub record Copied {A : Type 0} (from before list : List A) (count j : ℕ) : Type 0 where
  pub counted : count ≡ min (length from) (length before)
  pub within : j ≤ count
  pub long : length list ≡ length before
  pub stored : Stored (take (length before) from) before list j

module _ {A : Type 0} (from before : List A) where
  pub copied_none : (count : ℕ) → count ≡ min (length from) (length before) → Copied from before before count 0
  copied_none count e =
      record {
        counted = e;
        within = omega arith;
        long = omega arith;
        stored = stored-none (take (length before) from) before (rw (length-take (length before) from) (omega arith));
      }

module _ {A : Type 0} {from before list : List A} {count j : ℕ} (s : Copied from before list count j) where
  pub copied_more : (a d : A) → j < count → get_or from j d ≡ a → Copied from before (set list j a) count (j + 1)
  copied_more a d l e =
      let inside : j < length (take (length before) from) = rw (length-take (length before) from) (omega (arith, s.counted)) in
      let more = stored_more s.stored a d inside (get_or-take (length before) from j d (omega (arith, s.counted)) ∙ e) in
      record { counted = s.counted; within = omega arith; long = stored-length more; stored = more }

  pub copied_all : count ≤ j → list ≡ over (take (length before) from) before
  copied_all l = stored-all s.stored (rw (length-take (length before) from) (omega (arith, s.counted)))
