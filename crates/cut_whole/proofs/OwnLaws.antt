-- One insertion into a curve that passes the check, of a value that may be inserted: it is accepted, or refused by 10 or 11, and by which of them.
use mathlib.Core.Bool.{Bool, true, false}
use mathlib.Core.Logic.{◌⊎◌, inl, inr}
use mathlib.Core.Path.{◌≡◌, refl, sym, ◌∙◌}
use Prim.Native.Nat.{ℕ, ◌<◌}
use native.Mathlib.Omega.{arith}
use lib.ListN.{length}
use Rattle.refusal.specs.Numbers.{accepted, full_refused, not_whole_refused}
use Rattle.refusal.specs.Chain.{AnswersFirst}
use Rattle.curve.specs.Lists.{Lists}
use Rattle.grid.specs.Limits.{points_most}
use Rattle.grid.specs.Check.{Passes}
use Rattle.insertion.specs.Insertion.{inserted}
use Rattle.insertion.specs.Judged.{value_ok, place_ok, whole_ok}
use Rattle.insertion.specs.Sentences.{Full, NotWhole, insertion_rows}
use Rattle.insertion.proofs.JudgedLaws.{judged-place, judged-whole, judged-next}
use Rattle.insertion.proofs.SentenceLaws.{insertion-answers-first}
use Rattle.cut_whole.specs.Sentences.{own_number}
use Rattle.cut_whole.proofs.JudgedLaws.{own-judged}

-- accepted, 10 or 11
abbrev pub Fits : ℕ → Type 0
Fits n = (n ≡ accepted) ⊎ (n ≡ full_refused) ⊎ (n ≡ not_whole_refused)

pub own-fits : (m : ℕ) (d : Lists) (v : ℕ) → Passes m d.knots d.xs d.ys → value_ok m d.knots d.xs v ≡ true → Fits (own_number m d v)
own-fits m d v passes value = by (place_ok d.xs) refl (whole_ok m d v) refl
  where
    by : (p : Bool) → place_ok d.xs ≡ p → (w : Bool) → whole_ok m d v ≡ w → Fits (own_number m d v)
    by false e w f = inr (inl (own-judged m d v passes ∙ sym (judged-place m d v 0 value e)))
    by true e false f = inr (inr (own-judged m d v passes ∙ sym (judged-whole m d v 0 value e f)))
    by true e true f = inl (own-judged m d v passes ∙ sym (judged-next m d v 0 value e f))

-- 10 exactly where the curve is full; 11 exactly where it is not and a quotient is not whole
module _ (m : ℕ) (d : Lists) (v : ℕ) (fits : Fits (own_number m d v)) where
  rows : AnswersFirst (own_number m d v) (insertion_rows m d v (inserted m d v))
  rows = insertion-answers-first m d v (inserted m d v)

  pub full-of-own : own_number m d v ≡ full_refused → Full d
  full-of-own e = ((rows.first 8 (omega arith)).0 e).0

  pub own-of-full : Full d → own_number m d v ≡ full_refused
  own-of-full full = by fits
    where
      by : Fits (own_number m d v) → own_number m d v ≡ full_refused
      by (inl e) = absurd (rows.none.0 e 8 full)
      by (inr (inl e)) = e
      by (inr (inr e)) = absurd (((rows.first 9 (omega arith)).0 e).1 8 (omega arith) full)

  pub NotWhole-of-own : own_number m d v ≡ not_whole_refused → (length d.xs < points_most) × NotWhole m d v
  NotWhole-of-own e =
      let r = (rows.first 9 (omega arith)).0 e in
      let room : Full d → ⊥ = r.1 8 (omega arith) in
      (omega arith, r.0)

  pub own-of-NotWhole : length d.xs < points_most → NotWhole m d v → own_number m d v ≡ not_whole_refused
  own-of-NotWhole room not-whole = by fits
    where
      by : Fits (own_number m d v) → own_number m d v ≡ not_whole_refused
      by (inl e) = absurd (rows.none.0 e 9 not-whole)
      by (inr (inl e)) = absurd (omega (arith, full-of-own e))
      by (inr (inr e)) = e
