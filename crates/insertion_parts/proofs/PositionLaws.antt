-- The knots up to v end where the first one above it stands, or with the list.
use mathlib.Core.Bool.{Bool, true, false, cond}
use mathlib.Core.List.{List}
use mathlib.Core.Path.{◌≡◌, refl, sym, ◌∙◌}
use Prim.Native.Nat.{ℕ, suc, ◌+◌, ◌≤◌}
use native.Mathlib.Omega.{arith}
use lib.Dec.{leb, ltb}
use lib.ListN.{length}
use borrow.Author.Tests.{leb-true, leb-false, lt-ltb, le-ltb, ltb-false}
use Rattle.std.specs.Prelude.{Some, None}
use Rattle.std.specs.List.{position, position_or_len}
use Rattle.std.specs.Option.{unwrap_or}
use Rattle.std.proofs.lemmas.List.Recursion.{is_position_or_len}
use Rattle.insertion.specs.Insertion.{knots_up_to}
use Rattle.insertion.proofs.SpanLaws.{knots_up_to-length}

module _ (v : ℕ) where
  counts : (ts : List ℕ) → knots_up_to v ts ≡ position_or_len (λ t. ltb v t) ts
  unfolding knots_up_to
  counts = is_position_or_len (knots_up_to v) (λ t. ltb v t) refl (λ t ts. step t (knots_up_to v ts) (leb t v) refl)
    where
      step : (t rest : ℕ) (b : Bool) → leb t v ≡ b → cond b (suc rest) 0 ≡ cond (ltb v t) 0 (1 + rest)
      step t rest true e = rw (le-ltb v t (leb-true t v e)) (omega arith)
      step t rest false e = rw (lt-ltb v t (leb-false t v e))

  ends : (n last : ℕ) (b : Bool) → ltb n last ≡ b → n ≤ last → unwrap_or (cond b (Some n) None) last ≡ n
  ends n last true e h = refl
  ends n last false e h = omega (arith, ltb-false n last e)

  pub up_to_first : (ts : List ℕ) → unwrap_or (position (λ t. ltb v t) ts) (length ts) ≡ knots_up_to v ts
  up_to_first ts = ends (position_or_len (λ t. ltb v t) ts) (length ts) _ refl (rw (← counts ts) (knots_up_to-length v ts)) ∙ sym (counts ts)
