-- The digits of a number stand for it, and no zero stands in front of them.
use mathlib.Core.Bool.{Bool, true, false, cond}
use mathlib.Core.List.{List, [], ◌∷◌, ◌++◌}
use mathlib.Core.Path.{◌≡◌, refl, sym, ◌∙◌}
use Prim.Native.Nat.{ℕ, zero, suc, ◌+◌, ◌-◌, ◌*◌, ◌/◌, ◌%◌, ◌≤◌, ◌<◌}
use native.Mathlib.Omega.{arith}
use lib.Dec.{ltb}
use lib.ListN.{length, get_or, length-append, get_or-append}
use borrow.Author.Tests.{ltb-false}
use Rattle.digits.specs.Letters.{digit}
use Rattle.digits.specs.Decimal.{digits_of, decimal}

-- the number that digits stand for, read from the left behind `so`
abbrev pub value_from : ℕ → List ℕ → ℕ
value_from so [] = so
value_from so (d ∷ ds) = value_from (10 * so + (d - 48)) ds

-- one digit more
value-last : (so : ℕ) (ds : List ℕ) (d : ℕ) → value_from so (ds ++ (d ∷ [])) ≡ 10 * value_from so ds + (d - 48)
value-last so [] d = refl
value-last so (e ∷ ds) d = value-last (10 * so + (e - 48)) ds d

-- both claims of the digits of n
pub record Stands (n : ℕ) (ds : List ℕ) : Type 0 where
  pub value : value_from 0 ds ≡ n
  pub some : 0 < length ds
  pub front : get_or ds 0 0 ≡ digit 0 → n ≡ 0

digits-stand : (most n : ℕ) → n < most → Stands n (digits_of most n)
unfolding digits_of
digits-stand zero n h = absurd (omega arith)
digits-stand (suc most) n h =
    by (λ (e : 10 ≤ n). digits-stand most (n / 10) (omega arith)) (ltb n 10) refl
  where
    by : (10 ≤ n → Stands (n / 10) (digits_of most (n / 10))) → (t : Bool) → ltb n 10 ≡ t → Stands n (cond t (digit n ∷ []) (digits_of most (n / 10) ++ (digit (n % 10) ∷ [])))
    by tenth true e = record { value = omega arith; some = omega arith; front = λ h. omega arith }
    by tenth false e =
        let s = tenth (ltb-false n 10 e) in
        let ds = digits_of most (n / 10) in
        record {
          value = value-last 0 ds (digit (n % 10)) ∙ omega (arith, s.value);
          some = omega (arith, length-append ds (digit (n % 10) ∷ []), s.some);
          front = λ h. absurd (omega (arith, s.front (sym (get_or-append ds (digit (n % 10) ∷ []) 0 0 s.some) ∙ h), ltb-false n 10 e));
        }

pub decimal-stands : (n : ℕ) → Stands n (decimal n)
unfolding decimal
decimal-stands n = digits-stand (suc n) n (omega arith)
