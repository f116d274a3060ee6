-- Being the same exact curve goes both ways and goes on from curve to curve, for curves that have points.
use mathlib.Core.Bool.{◌&&◌}
use mathlib.Core.List.{List}
use mathlib.Core.Path.{◌≡◌, sym, ap₂, ◌∙◌}
use Prim.Native.Nat.{ℕ, ◌+◌, ◌-◌, ◌*◌, ◌<◌}
use native.Mathlib.Omega.{arith}
use lib.Dec.{leb}
use lib.IntN.{ℤ}
use lib.ListN.{length, get_or}
use Rattle.fractions.proofs.Rational.{class-of-equals, equals-of-class}
use Rattle.exact.specs.ExactCurve.{exact_at}
use Rattle.span.specs.Span.{in_domain}
use Rattle.knots_exact.specs.SameCurve.{SameOnAxis}

-- the domain of a curve with points, by its two ends
domain-ends : (m : ℕ) (ts : List ℕ) (ps : List ℤ) (p q : ℕ) → 0 < length ps → in_domain ts m (length ps - 1) p q ≡ (leb (get_or ts m 0 * q) p && leb p (get_or ts (length ps) 0 * q))
unfolding in_domain
domain-ends m ts ps p q some =
    let last : length ps - 1 + 1 ≡ length ps = omega arith in
    rw last

-- equal ends, equal domains
pub domain-same : (m : ℕ) (ts : List ℕ) (ps : List ℤ) (us : List ℕ) (qs : List ℤ) (p q : ℕ) → 0 < length ps → 0 < length qs → SameOnAxis m ts ps us qs → in_domain us m (length qs - 1) p q ≡ in_domain ts m (length ps - 1) p q
domain-same m ts ps us qs p q some many s =
    domain-ends m us qs p q many
    ∙ ap₂ (λ (a b : ℕ). leb (a * q) p && leb p (b * q)) s.start s.stop
    ∙ sym (domain-ends m ts ps p q some)

module _ (m : ℕ) (ts : List ℕ) (ps : List ℤ) (us : List ℕ) (qs : List ℤ) (some : 0 < length ps) (many : 0 < length qs) (s : SameOnAxis m ts ps us qs) where
  pub axis-sym : SameOnAxis m us qs ts ps
  axis-sym = record {
    start = sym s.start;
    stop = sym s.stop;
    point = λ p q above inside. sym (s.point p q above (sym (domain-same m ts ps us qs p q some many s) ∙ inside));
  }

  pub axis-trans : (ws : List ℕ) (rs : List ℤ) → SameOnAxis m us qs ws rs → SameOnAxis m ts ps ws rs
  axis-trans ws rs t = record {
    start = t.start ∙ s.start;
    stop = t.stop ∙ s.stop;
    point = λ p q above inside.
        equals-of-class (exact_at m ws rs p q) (exact_at m ts ps p q)
        (class-of-equals {a = exact_at m ws rs p q} {b = exact_at m us qs p q} (t.point p q above (domain-same m ts ps us qs p q some many s ∙ inside))
        ∙ class-of-equals {a = exact_at m us qs p q} {b = exact_at m ts ps p q} (s.point p q above inside));
  }
