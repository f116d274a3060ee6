-- The text of a whole number says it, and it is the only text that does: no plus sign, no zero in front, nothing else.
use mathlib.Core.Bool.{Bool, true, false}
use mathlib.Core.List.{List, [], ◌∷◌, ◌++◌, append-nil, append_assoc}
use mathlib.Core.Path.{◌≡◌, refl, sym, ◌∙◌, ap}
use Prim.Native.Char.{code}
use Prim.Native.Nat.{ℕ, suc, ◌+◌, ◌-◌, ◌*◌, ◌/◌, ◌%◌, ◌≤◌}
use native.Mathlib.Omega.{arith}
use lib.Dec.{eqb}
use lib.IntN.{ℤ, pos, negsuc}
use lib.ListN.{get_or}
use borrow.Author.Tests.{eqb-true, eqb-false}
use Rattle.digits.specs.Letters.{digit}
use Rattle.digits.specs.Decimal.{decimal}
use Rattle.digits.proofs.DecimalLaws.{decimal-one, decimal-more}
use Rattle.digits.proofs.ValueLaws.{value_from, decimal-stands}
use Rattle.path_data.specs.Text.{number_text}
use Rattle.path_data.specs.Language.{range, many, none, more}
use Rattle.path_data.specs.Grammar.{number}
use Rattle.path_data.proofs.GrammarLaws.{decimal-is-number}

-- digits tell n: it is their value, and a 0 stands in front of no further digit
pub record Tell (n : ℕ) (ds : List ℕ) : Type 0 where
  pub digits : number ds
  pub value : value_from 0 ds ≡ n
  pub front : (rest : List ℕ) → ds ≡ code "0" ∷ rest → rest ≡ []

-- a text says a whole number: digits that tell its size, behind a minus sign where it is below zero
abbrev pub Says : ℤ → List ℕ → Type 0
Says (pos n) text = Tell n text
Says (negsuc n) text = (ds : List ℕ) × (text ≡ code "-" ∷ ds) × Tell (suc n) ds

-- only 0 begins with a 0
zero-alone : (n : ℕ) (rest : List ℕ) → decimal n ≡ digit 0 ∷ rest → rest ≡ []
zero-alone n rest e =
    let none : n ≡ 0 = (decimal-stands n).front (ap (λ (l : List ℕ). get_or l 0 0) e) in
    let alone : digit 0 ∷ rest ≡ digit 0 ∷ [] = sym e ∙ ap decimal none ∙ decimal-one 0 (omega arith) in
    cc

decimal-tells : (n : ℕ) → Tell n (decimal n)
decimal-tells n = record { digits = decimal-is-number n; value = (decimal-stands n).value; front = zero-alone n }

pub number_text-says : (z : ℤ) → Says z (number_text z)
number_text-says (pos n) = decimal-tells n
number_text-says (negsuc n) = (decimal (suc n), refl, decimal-tells (suc n))

-- one digit more behind those of a number above zero
decimal-grows : (so byte : ℕ) → 1 ≤ so → code "0" ≤ byte → byte ≤ code "9" → decimal (10 * so + (byte - 48)) ≡ decimal so ++ (byte ∷ [])
decimal-grows so byte h low high =
    let n = 10 * so + (byte - 48) in
    let tenth : n / 10 ≡ so = omega arith in
    let last : digit (n % 10) ≡ byte = omega arith in
    rw (decimal-more n (omega arith), tenth, last)

-- any digits behind them
decimal-grows-all : (so : ℕ) {ds : List ℕ} → 1 ≤ so → many (range "0" "9") ds → decimal (value_from so ds) ≡ decimal so ++ ds
decimal-grows-all so h none = sym (append-nil (decimal so))
decimal-grows-all so h (more front back (byte, e, low, high) rest) =
    rw e
    (decimal-grows-all (10 * so + (byte - 48)) (omega arith) rest
    ∙ ap (λ (l : List ℕ). l ++ back) (decimal-grows so byte h low high)
    ∙ append_assoc (decimal so) (byte ∷ []) back)

-- digits are the number's own where a 0 in front is the only one
digits-only : (n byte : ℕ) {back : List ℕ} → code "0" ≤ byte → byte ≤ code "9" → many (range "0" "9") back → (byte ≡ code "0" → back ≡ []) → value_from 0 (byte ∷ back) ≡ n → byte ∷ back ≡ decimal n
digits-only n byte {back} low high rest front value = by (eqb byte (code "0")) refl
  where
    size : ℕ
    size = 10 * 0 + (byte - 48)

    first : decimal size ≡ byte ∷ []
    first = let same : digit size ≡ byte = omega arith in rw (decimal-one size (omega arith), same)

    by : (b : Bool) → eqb byte (code "0") ≡ b → byte ∷ back ≡ decimal n
    by true e =
        let alone : back ≡ [] = front (eqb-true byte (code "0") e) in
        let none : size ≡ n = ap (value_from size) (sym alone) ∙ value in
        ap (λ (l : List ℕ). byte ∷ l) alone ∙ sym first ∙ ap decimal none
    by false e =
        let some : 1 ≤ size = omega (arith, eqb-false byte (code "0") e) in
        sym (ap (λ (l : List ℕ). l ++ back) first) ∙ sym (decimal-grows-all size some rest) ∙ ap decimal value

tell-only : (n : ℕ) (ds : List ℕ) → Tell n ds → ds ≡ decimal n
tell-only n ds t =
    let (first, back, joined, (byte, alone, low, high), rest) = t.digits in
    let split : ds ≡ byte ∷ back = joined ∙ ap (λ (l : List ℕ). l ++ back) alone in
    split ∙ digits-only n byte low high rest (λ e. t.front back (split ∙ ap (λ (b : ℕ). b ∷ back) e)) (ap (value_from 0) (sym split) ∙ t.value)

pub number_text-only : (z : ℤ) (text : List ℕ) → Says z text → text ≡ number_text z
number_text-only (pos n) text s = tell-only n text s
number_text-only (negsuc n) text s = s.1 ∙ ap (λ (l : List ℕ). code "-" ∷ l) (tell-only (suc n) s.0 s.2)
