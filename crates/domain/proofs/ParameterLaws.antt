-- What a call at a parameter knows where nothing is refused.
use mathlib.Core.Bool.{true}
use mathlib.Core.List.{List}
use mathlib.Core.Path.{◌≡◌, sym, ◌∙◌}
use Prim.Native.Nat.{ℕ, ◌+◌, ◌-◌, ◌≤◌, ◌<◌}
use native.Mathlib.Nat.{mul-one}
use native.Mathlib.Decide.{ℕ_discrete}
use native.Mathlib.Omega.{arith}
use lib.IntN.{ℤ}
use lib.ListN.{length, get_or}
use Rattle.refusal.specs.Judging.{unless}
use Rattle.refusal.specs.Numbers.{accepted, parameter_refused}
use Rattle.refusal.proofs.JudgingLaws.{unless-accepted}
use Rattle.grid.specs.Check.{check_number, Passes}
use Rattle.grid.proofs.ThenLaws.{checked_then-refused, checked_then-passed}
use Rattle.grid.proofs.SizeLaws.{sizes-of-passes}
use Rattle.span.specs.Span.{span_of, in_domain}
use Rattle.span.proofs.SpanLaws.{span_of-within, in_domain-says}
use Rattle.domain.specs.Parameter.{parameter_number}

module _ (m : ℕ) (ts : List ℕ) (xs ys : List ℤ) (t : ℕ) where
  -- the curve's number comes first
  pub curve-refused : (check_number m ts xs ys ≡ 0 → ⊥) → check_number m ts xs ys ≡ parameter_number m ts xs ys t
  unfolding parameter_number
  curve-refused refused = sym (checked_then-refused m ts xs ys _ refused)

  -- then the domain is judged
  pub curve-passed : Passes m ts xs ys → parameter_number m ts xs ys t ≡ unless (in_domain ts m (length xs - 1) t 1) parameter_refused accepted
  unfolding parameter_number
  curve-passed passed = checked_then-passed m ts xs ys _ passed

  -- nothing refused: the curve passes and the domain holds the parameter
  pub parameter-accepted : parameter_number m ts xs ys t ≡ 0 → Passes m ts xs ys × (in_domain ts m (length xs - 1) t 1 ≡ true)
  parameter-accepted h = by (ℕ_discrete (check_number m ts xs ys) 0)
    where
      by : Dec (check_number m ts xs ys ≡ 0) → Passes m ts xs ys × (in_domain ts m (length xs - 1) t 1 ≡ true)
      by (yes passed) = (passed, (unless-accepted (in_domain ts m (length xs - 1) t 1) 7 0 (sym (curve-passed passed) ∙ h)).0)
      by (no refused) = absurd (refused (curve-refused refused ∙ h))

-- where the span of an accepted parameter stands in its lists
pub record Within (m : ℕ) (ts : List ℕ) (xs ys : List ℤ) (t i : ℕ) : Type 0 where
  pub least : 1 ≤ m
  pub most : m ≤ 3
  pub first : m ≤ i
  pub point : i < length xs
  pub alike : length ys ≡ length xs
  pub knot : i + m < length ts
  pub top : t ≤ get_or ts (length xs) 0

pub accepted-within :
    (m : ℕ) (ts : List ℕ) (xs ys : List ℤ) (t i : ℕ) → parameter_number m ts xs ys t ≡ 0 → i ≡ span_of ts m (length xs - 1) t 1 → Within m ts xs ys t i
accepted-within m ts xs ys t i h e =
    let passed = parameter-accepted m ts xs ys t h in
    let sizes = sizes-of-passes m ts xs ys passed.0 in
    let enough = sizes.enough in
    let knots = sizes.knots in
    let span : (m ≤ i) × (i ≤ length xs - 1) = rw e (span_of-within ts m (length xs - 1) t 1 (omega arith)) in
    let last : length xs - 1 + 1 ≡ length xs = omega arith in
    record {
      least = sizes.degree-least;
      most = sizes.degree-most;
      first = span.0;
      point = omega arith;
      alike = sizes.as_many;
      knot = omega arith;
      top = simp (mul-one, last) at (in_domain-says ts m (length xs - 1) t 1 passed.1).1;
    }
