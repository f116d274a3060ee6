-- The number of cutting: `number-of-cut`. A value that is to be inserted stands fewer than m times among the knots that there are by then, so its
-- insertion is never refused by 9.
use mathlib.Core.Bool.{true}
use mathlib.Core.List.{List, [], ◌∷◌, ◌++◌}
use mathlib.Core.Logic.{inl}
use mathlib.Core.Path.{◌≡◌, refl, sym, ap, ◌∙◌}
use Prim.Native.Nat.{ℕ, suc, ◌+◌, ◌<◌}
use native.Mathlib.Decide.{ℕ_discrete}
use native.Mathlib.Omega.{arith}
use borrow.Author.Tests.{lt-leb}
use lib.ListN.{length}
use Rattle.curve.specs.Lists.{Lists}
use Rattle.grid.specs.Rows.{occurrences}
use Rattle.grid.specs.Check.{Passes}
use Rattle.checked.specs.Checked.{Clamped}
use Rattle.grid.proofs.RepeatLaws.{occurrences-is, occurrences-not}
use Rattle.insertion.specs.Insertion.{inserted}
use Rattle.insertion.specs.Judged.{value_ok}
use Rattle.insertion.proofs.CheckedLaws.{inside-of-ends}
use Rattle.insertion.proofs.JudgedLaws.{value-seldom}
use Rattle.cutting.specs.Cutting.{cuts, inserted_each, insertable_each_then, cut_number}
use Rattle.cut_whole.specs.Sentences.{own_number, AcceptsEach, FirstFailing, NumberOfCut}
use Rattle.cut_whole.proofs.EachLaws.{each_keeps, each-occurrences}
use Rattle.cut_whole.proofs.JudgedLaws.{refused-next, passed_over, all-judged, first-of-judged, cut-judged, accepts-of-cut}
use Rattle.cut_whole.proofs.OwnLaws.{Fits, own-fits, full-of-own, own-of-full, NotWhole-of-own, own-of-NotWhole}
use Rattle.cut_whole.proofs.CountLaws.{counted-cuts, inner-of-cut}

-- how often v stands in two lists together
occurrences-append : (v : ℕ) (l k : List ℕ) → occurrences v (l ++ k) ≡ occurrences v l + occurrences v k
unfolding occurrences
occurrences-append v [] k = omega arith
occurrences-append v (t ∷ l) k =
    let rest = occurrences-append v l k in
    elim (ℕ_discrete t v) [
      | yes e ↦ rw (occurrences-is v t (l ++ k) e, occurrences-is v t l e) (omega arith)
      | no n ↦ rw (occurrences-not v t (l ++ k) n, occurrences-not v t l n) rest
    ]

-- the same first value, told by what else holds of it
refit : {m : ℕ} {vs : List ℕ} {c : Lists} {P Q : Lists → ℕ → Type 0} (f : FirstFailing m vs c P)
    → (P (inserted_each m f.before c) f.value → Q (inserted_each m f.before c) f.value) → FirstFailing m vs c Q
refit f says = record { before = f.before; value = f.value; later = f.later; parted = f.parted; accepts = f.accepts; fails = says f.fails }

module _ (m : ℕ) (c : Lists) (passes : Passes m c.knots c.xs c.ys) (clamped : Clamped m c.knots (length c.xs)) where
  module _ (before : List ℕ) (v : ℕ) (later : List ℕ) (parted : cuts m c ≡ before ++ (v ∷ later)) (accepts : AcceptsEach m before c) where
    abbrev d : Lists
    d = inserted_each m before c

    -- row 9 does not apply
    value-fits : value_ok m d.knots d.xs v ≡ true
    value-fits =
        let kept = each_keeps m before c passes accepts in
        let parts : occurrences v (cuts m c) ≡ occurrences v before + suc (occurrences v later) =
        ap (occurrences v) parted ∙ occurrences-append v before (v ∷ later) ∙ ap (λ n. occurrences v before + n) (occurrences-is v v later refl) in
        let inner = inner-of-cut m c passes clamped v (omega arith) in
        let lack = (counted-cuts m c passes clamped).inner v inner in
        let stands = each-occurrences m before c v in
        value-seldom m d.knots d.xs v
        (inside-of-ends d.knots m (length d.xs) v (rw kept.start inner.above) (rw kept.stop inner.below))
        (lt-leb m (occurrences v d.knots) (omega arith))

    pub next_fits : Fits (own_number m (inserted_each m before c) v)
    next_fits = own-fits m d v (each_keeps m before c passes accepts).passes value-fits

  fits-at : {P : Lists → ℕ → Type 0} (f : FirstFailing m (cuts m c) c P) → Fits (own_number m (inserted_each m f.before c) f.value)
  fits-at f = next_fits f.before f.value f.later f.parted f.accepts

  -- the first that fails gives its number
  first-of-number : (n : ℕ) → 0 < n → cut_number m c ≡ n → FirstFailing m (cuts m c) c (λ d v. own_number m d v ≡ n)
  first-of-number n some e = first-of-judged m (cuts m c) c n some passes (sym (cut-judged m c passes) ∙ e)

  number-of-first : (n : ℕ) → 0 < n → FirstFailing m (cuts m c) c (λ d v. own_number m d v ≡ n) → cut_number m c ≡ n
  unfolding insertable_each_then
  number-of-first n some f =
      let e = inserted_each m f.before c in
      let kept = each_keeps m f.before c passes f.accepts in
      cut-judged m c passes
      ∙ ap (λ l. insertable_each_then m l c 0) f.parted
      ∙ passed_over m f.before (f.value ∷ f.later) c 0 passes f.accepts
      ∙ refused-next m e f.value (insertable_each_then m f.later (inserted m e f.value) 0) kept.passes (λ z. omega (arith, f.fails, z))
      ∙ f.fails

  only-these : Fits (cut_number m c)
  only-these =
      elim (ℕ_discrete (cut_number m c) 0) [
        | yes e ↦ inl e
        | no n ↦
            let f = first-of-number (cut_number m c) (omega arith) refl in
            rw (← f.fails) (fits-at f)
      ]

  pub number-of-cut : NumberOfCut m c
  number-of-cut = record {
    none = (accepts-of-cut m c, λ each. cut-judged m c passes ∙ all-judged m (cuts m c) c 0 passes each);
    first = λ n some. (first-of-number n some, number-of-first n some);
    full = (
      λ e. let f = first-of-number 10 (omega arith) e in refit f (full-of-own m (inserted_each m f.before c) f.value (fits-at f)),
      λ f. number-of-first 10 (omega arith) (refit f (own-of-full m (inserted_each m f.before c) f.value (fits-at f))),
    );
    not-whole = (
      λ e. let f = first-of-number 11 (omega arith) e in refit f (NotWhole-of-own m (inserted_each m f.before c) f.value (fits-at f)),
      λ f. number-of-first 11 (omega arith) (refit f (λ p. own-of-NotWhole m (inserted_each m f.before c) f.value (fits-at f) p.0 p.1)),
    );
    no_other = only-these;
  }
