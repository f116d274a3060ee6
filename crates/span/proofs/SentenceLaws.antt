-- The tests of the domain, the span rule and the carrying coordinates are what their sentences say.
use mathlib.Core.List.{List}
use mathlib.Core.Path.{◌≡◌, ◌∙◌}
use Prim.Native.Nat.{ℕ, ◌+◌, ◌-◌, ◌≤◌, ◌<◌}
use native.Mathlib.Omega.{arith}
use borrow.Author.Tests.{le-leb, lt-ltb, ltb-true}
use mathlib.Core.Bool.{and-eq-true_iff}
use lib.Dec.{ltb}
use lib.IntN.{ℤ, pos}
use lib.ListN.{length, get_or, drop, length-drop}
use lib.Seq.{get_or-take, get_or-drop, length-take-le}
use Rattle.span.specs.Span.{IsSpan, span_of, in_domain, strictly_inside, carrying_of}
use Rattle.span.specs.Sentences.{DomainExactly, InsideExactly, SpanExactly, CarryingEntries}
use Rattle.span.proofs.SpanLaws.{span_of-is, span-unique, in_domain-says}

pub domain-exactly : DomainExactly
unfolding in_domain
domain-exactly ts m n p q = (in_domain-says ts m n p q, λ h. rw (le-leb _ _ h.0, le-leb _ _ h.1))

pub inside-exactly : InsideExactly
unfolding strictly_inside
inside-exactly ts m n v = (
  λ e. let both = (and-eq-true_iff (ltb (get_or ts m 0) v) (ltb v (get_or ts (n + 1) 0))).0 e in (ltb-true _ _ both.0, ltb-true _ _ both.1),
  λ h. rw (lt-ltb _ _ h.0, lt-ltb _ _ h.1),
)

pub span-exactly : SpanExactly
span-exactly ts m n p q h low wide i =
    let found : IsSpan ts m n p q (span_of ts m n p q) = span_of-is ts m n p q h low wide in
    (λ s. span-unique ts m n p q i (span_of ts m n p q) s found, λ e. rw e found)

pub carrying-entries : CarryingEntries
carrying-entries m i ps low high =
    record {
      count = length-take-le (m + 1) (drop (i - m) ps) (rw (length-drop (i - m) ps) (omega arith));
      entry = λ k h. get_or-take (m + 1) (drop (i - m) ps) k (pos 0) (omega arith) ∙ get_or-drop (i - m) ps k (pos 0);
    }

-- the coordinate of the carrying point P_j stands at j - (i - m)
pub carrying-at :
    (m i : ℕ) (ps : List ℤ) → m ≤ i → i < length ps → (j : ℕ) → i ≤ j + m → j ≤ i → get_or (carrying_of m i ps) (j - (i - m)) (pos 0) ≡ get_or ps j (pos 0)
carrying-at m i ps low high j from to =
    let place : i - m + (j - (i - m)) ≡ j = omega arith in
    rw place at ((carrying-entries m i ps low high).entry (j - (i - m)) (omega arith))
