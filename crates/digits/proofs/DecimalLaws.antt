-- Digits one at a time, and how many there are.
use mathlib.Core.Bool.{Bool, true, false, cond}
use mathlib.Core.List.{List, [], ◌∷◌, ◌++◌}
use mathlib.Core.Path.{◌≡◌, refl, ap, ◌∙◌}
use Prim.Native.Nat.{ℕ, zero, suc, ◌+◌, ◌/◌, ◌%◌, ◌^◌, ◌≤◌, ◌<◌}
use native.Mathlib.Nat.{pow-suc}
use native.Mathlib.Omega.{arith}
use lib.Dec.{ltb}
use lib.ListN.{length, length-append}
use borrow.Author.Tests.{ltb-true, ltb-false, lt-ltb, le-ltb}
use Rattle.digits.specs.Letters.{digit}
use Rattle.digits.specs.Decimal.{digits_of, decimal}

-- what lets it end changes nothing
digits_of-most : (a b n : ℕ) → n < a → n < b → digits_of a n ≡ digits_of b n
unfolding digits_of
digits_of-most zero b n h k = absurd (omega arith)
digits_of-most (suc a) zero n h k = absurd (omega arith)
digits_of-most (suc a) (suc b) n h k =
    by (λ (e : 10 ≤ n). digits_of-most a b (n / 10) (omega arith) (omega arith)) (ltb n 10) refl
  where
    by : (10 ≤ n → digits_of a (n / 10) ≡ digits_of b (n / 10)) → (t : Bool) → ltb n 10 ≡ t → cond t (digit n ∷ []) (digits_of a (n / 10) ++ (digit (n % 10) ∷ [])) ≡ cond t (digit n ∷ []) (digits_of b (n / 10) ++ (digit (n % 10) ∷ []))
    by same true e = refl
    by same false e = ap (λ (l : List ℕ). l ++ (digit (n % 10) ∷ [])) (same (ltb-false n 10 e))

-- a number below 10
pub decimal-one : (n : ℕ) → n < 10 → decimal n ≡ digit n ∷ []
unfolding decimal digits_of
decimal-one n h = rw (lt-ltb n 10 h)

-- any other number: the digits of its tenth part, then its last digit
pub decimal-more : (n : ℕ) → 10 ≤ n → decimal n ≡ decimal (n / 10) ++ (digit (n % 10) ∷ [])
unfolding decimal digits_of
decimal-more n h =
    rw (le-ltb n 10 h)
    (ap (λ (l : List ℕ). l ++ (digit (n % 10) ∷ [])) (digits_of-most n (suc (n / 10)) (n / 10) (omega arith) (omega arith)))

-- one digit more than the tenth part has
pub decimal-longer : (n : ℕ) → 10 ≤ n → length (decimal n) ≡ length (decimal (n / 10)) + 1
decimal-longer n h = ap length (decimal-more n h) ∙ length-append (decimal (n / 10)) (digit (n % 10) ∷ [])

-- a number below 10 ^ (most + 1) has at most so many digits
pub decimal-short : (most n : ℕ) → n < 10 ^ suc most → length (decimal n) ≤ suc most
decimal-short zero n h = omega (arith, ap length (decimal-one n h))
decimal-short (suc most) n h =
    by (λ (e : 10 ≤ n). decimal-short most (n / 10) (omega (arith, pow-suc 10 (suc most)))) (ltb n 10) refl
  where
    by : (10 ≤ n → length (decimal (n / 10)) ≤ suc most) → (t : Bool) → ltb n 10 ≡ t → length (decimal n) ≤ suc (suc most)
    by short true e = omega (arith, ap length (decimal-one n (ltb-true n 10 e)))
    by short false e =
        omega (arith, decimal-longer n (ltb-false n 10 e), short (ltb-false n 10 e))

-- of one digit, of two and of three
pub one-digit : (n : ℕ) → n < 10 → length (decimal n) ≡ 1
one-digit n h = ap length (decimal-one n h)

pub two_digits : (n : ℕ) → 10 ≤ n → n < 100 → length (decimal n) ≡ 2
two_digits n h k = omega (arith, decimal-longer n h, one-digit (n / 10) (omega arith))

pub three-digits : (n : ℕ) → 100 ≤ n → n < 1000 → length (decimal n) ≡ 3
three-digits n h k = omega (arith, decimal-longer n (omega arith), two_digits (n / 10) (omega arith) (omega arith))

-- three digits more than the thousandth part has
pub three-longer : (n : ℕ) → 1000 ≤ n → length (decimal n) ≡ length (decimal (n / 1000)) + 3
three-longer n h =
    let tenth : n / 10 / 10 / 10 ≡ n / 1000 = omega arith in
    omega (arith, decimal-longer n (omega arith), decimal-longer (n / 10) (omega arith), decimal-longer (n / 10 / 10) (omega arith), ap (λ (k : ℕ). length (decimal k)) tenth)

-- a number of 32 bits has at most ten
pub ten_digits : (n : ℕ) → n < 2 ^ 32 → length (decimal n) ≤ 10
ten_digits n h = decimal-short 9 n (omega arith)

pub ruleset digits_counted = (one-digit, two_digits, three-digits, three-longer, ten_digits)
