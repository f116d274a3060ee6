-- The digits of a number put from the last to the first: what stands behind a place are its last digits, and those that are missing are the digits of what is left.
use mathlib.Core.List.{List, [], ◌∷◌, ◌++◌, append-nil, append_assoc}
use mathlib.Core.Path.{◌≡◌, refl, sym, ap, ◌∙◌}
use Prim.Native.Nat.{ℕ, suc, ◌+◌, ◌-◌, ◌/◌, ◌%◌, ◌≤◌, ◌<◌}
use native.Mathlib.Omega.{arith}
use lib.ListN.{length, get_or, take, drop, set, length-append}
use lib.Seq.{length-take-le, take-suc, set-append_seam}
use Rattle.fields.specs.Places.{put_at}
use Rattle.fields.proofs.PlaceLaws.{put_at-nil, length-put_at}
use Rattle.digits.specs.Letters.{digit}
use Rattle.digits.specs.Decimal.{decimal}
use Rattle.digits.specs.Put.{Put}
use Rattle.digits.proofs.DecimalLaws.{decimal-one, decimal-more, decimal-longer}
use Rattle.digits.proofs.ValueLaws.{decimal-stands}

-- one byte more in front of a part
put-before : (before : List ℕ) (p byte : ℕ) (part : List ℕ) → suc p + length part ≤ length before → set (put_at before (suc p) part) p byte ≡ put_at before p (byte ∷ part)
put-before before p byte part room =
    let old = get_or before p 0 in
    let rest = drop (suc p + length part) before in
    let size : length (take p before) ≡ p = length-take-le p before (omega arith) in
    let count : suc p + length part ≡ p + suc (length part) = omega arith in
    let parts : (take p before ++ (old ∷ [])) ++ part ++ rest ≡ take p before ++ (old ∷ (part ++ rest)) = simp (append_assoc) in
    ap (λ (l : List ℕ). set (l ++ part ++ rest) p byte) (take-suc before p 0 (omega arith))
    ∙ ap (λ (l : List ℕ). set l p byte) parts
    ∙ ap (λ (k : ℕ). set (take p before ++ (old ∷ (part ++ rest))) k byte) (sym size)
    ∙ set-append_seam (take p before) old (part ++ rest) byte
    ∙ sym (append_assoc (take p before) (byte ∷ part) rest)
    ∙ ap (λ (k : ℕ). take p before ++ (byte ∷ part) ++ drop k before) count

-- the digits of `rest` are still to be put, the last of them at `place`; behind it stand the others
pub record Missing (before : List ℕ) (at number : ℕ) (now : List ℕ) (place rest : ℕ) : Type 0 where
  pub put : List ℕ
  pub digits : decimal number ≡ decimal rest ++ put
  pub last : place + 1 ≡ at + length (decimal rest)
  pub holds : now ≡ put_at before (suc place) put

module _ (before : List ℕ) (at number : ℕ) (room : at + length (decimal number) ≤ length before) where
  -- nothing is put
  pub missing-all : (place : ℕ) → place + 1 ≡ at + length (decimal number) → Missing before at number before place number
  missing-all place e = record { put = []; digits = sym (append-nil (decimal number)); last = e; holds = put_at-nil before (suc place) }

  module _ (now : List ℕ) (place rest : ℕ) (w : Missing before at number now place rest) where
    inside : suc place + length w.put ≤ length before
    inside = omega (arith, w.last, room, ap length w.digits, length-append (decimal rest) w.put)

    pub missing-length : length now ≡ length before
    missing-length = ap length w.holds ∙ length-put_at before (suc place) w.put inside

    pub missing-room : place < length now
    missing-room = omega (arith, inside, missing-length)

    -- there is a place before it where more than one digit is missing
    pub missing-more : 10 ≤ rest → 1 ≤ place
    missing-more h = omega (arith, w.last, decimal-longer rest h, (decimal-stands (rest / 10)).some)

    -- one more
    pub missing-fewer : 10 ≤ rest → Missing before at number (set now place (digit (rest % 10))) (place - 1) (rest / 10)
    missing-fewer h =
        let byte = digit (rest % 10) in
        let here : suc (place - 1) ≡ place = omega (arith, missing-more h) in
        record {
          put = byte ∷ w.put;
          digits = w.digits ∙ ap (λ (l : List ℕ). l ++ w.put) (decimal-more rest h) ∙ append_assoc (decimal (rest / 10)) (byte ∷ []) w.put;
          last = omega (arith, w.last, decimal-longer rest h, missing-more h);
          holds =
              ap (λ (l : List ℕ). set l place byte) w.holds
              ∙ put-before before place byte w.put inside
              ∙ ap (λ (k : ℕ). put_at before k (byte ∷ w.put)) (sym here);
        }

    -- the first digit is the last that is put
    pub missing-none : rest < 10 → Put before at (decimal number) (set now place (digit rest)) (at + length (decimal number))
    missing-none h =
        let here : place ≡ at = omega (arith, w.last, ap length (decimal-one rest h)) in
        record {
          holds =
              ap (λ (l : List ℕ). set l place (digit rest)) w.holds
              ∙ put-before before place (digit rest) w.put inside
              ∙ ap (λ (k : ℕ). put_at before k (digit rest ∷ w.put)) here
              ∙ ap (put_at before at) (sym (w.digits ∙ ap (λ (l : List ℕ). l ++ w.put) (decimal-one rest h)));
          place = refl;
        }

-- there is at least one digit
pub some_digit : (n : ℕ) → 0 < length (decimal n)
some_digit n = (decimal-stands n).some

pub ruleset digits_put = (some_digit, missing-all, missing-fewer)
