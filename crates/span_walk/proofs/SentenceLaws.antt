-- The list of spans is what its sentences say: which spans it holds, in which order, with which knots.
use mathlib.Core.Bool.{true, and-eq-true_iff}
use mathlib.Core.List.{List}
use mathlib.Core.Path.{◌≡◌}
use Prim.Native.Nat.{ℕ, ◌+◌, ◌-◌, ◌≤◌, ◌<◌}
use native.Mathlib.Omega.{arith}
use borrow.Author.Tests.{ltb-true, lt-ltb, ne_eqb}
use lib.IntN.{ℤ}
use lib.ListN.{length, get_or, length-map}
use lib.Signed.{◌≤ℤ◌}
use Rattle.lent.proofs.SentenceLaws.{over-holds}
use Rattle.boxes.specs.declared.Rectangle.{Rectangle}
use Rattle.boxes.specs.Meeting.{meets_on_axis}
use Rattle.boxes.specs.Sentences.{Shared}
use Rattle.boxes.proofs.SentenceLaws.{meets-exactly}
use Rattle.span.specs.Span.{carrying_of}
use Rattle.span.proofs.SentenceLaws.{carrying-entries, carrying-at}
use Rattle.span_walk.specs.SpansMet.{non_empty, box_meets, to_check, spans_met, low_knots, high_knots}
use Rattle.span_walk.specs.Sentences.{InBox, SharedPoint, MayMeet, Stands, ListedExactly, ListRises, KnotsOfEachSpan, SuccessHandsSpans, RefusalHandsNoSpans}
use Rattle.span_walk.proofs.ListedLaws.{keep-has, keep-only, keep-rises, map_at}

-- one axis: what the box of the carrying coordinates shares with low..high is what the carrying points' coordinates do, by their own indices
module _ (m i : ℕ) (ps : List ℤ) (first : m ≤ i) (inside : i < length ps) where
  box-of-shared : (low high : ℤ) (s : Shared low high (carrying_of m i ps)) → InBox m i ps s.number
  box-of-shared low high s =
      let c = carrying-entries m i ps first inside in
      let count : length (carrying_of m i ps) ≡ m + 1 = c.count in
      let b = s.between in
      let below-m : b.below ≤ m = omega (arith, b.below-stands) in
      let above-m : b.above ≤ m = omega (arith, b.above-stands) in
      record {
        below = i - m + b.below;
        above = i - m + b.above;
        below-carries = (omega arith, omega arith);
        above-carries = (omega arith, omega arith);
        low = rw (c.entry b.below below-m) at b.low;
        high = rw (c.entry b.above above-m) at b.high;
      }

  shared-of-box : (low high z : ℤ) → InBox m i ps z → low ≤ℤ z → z ≤ℤ high → Shared low high (carrying_of m i ps)
  shared-of-box low high z b from to =
      let count : length (carrying_of m i ps) ≡ m + 1 = (carrying-entries m i ps first inside).count in
      record {
        number = z;
        between = record {
          below = b.below - (i - m);
          above = b.above - (i - m);
          below-stands = omega (arith, b.below-carries.0, b.below-carries.1);
          above-stands = omega (arith, b.above-carries.0, b.above-carries.1);
          low = rw (carrying-at m i ps first inside b.below b.below-carries.0 b.below-carries.1) b.low;
          high = rw (carrying-at m i ps first inside b.above b.above-carries.0 b.above-carries.1) b.high;
        };
        from = from;
        to = to;
      }

module _ (clamp : Rectangle) (m : ℕ) (ts : List ℕ) (xs ys : List ℤ) (alike : length ys ≡ length xs) (i : ℕ) (from : m ≤ i) (to : i < length xs) where
  -- the box meets the rectangle where they share a point, and back
  point-of-meets : clamp.low_x ≤ℤ clamp.high_x → clamp.low_y ≤ℤ clamp.high_y → box_meets clamp m xs ys i ≡ true → SharedPoint clamp m i xs ys
  unfolding box_meets
  point-of-meets sides_x sides_y e =
      let both =
      (and-eq-true_iff (meets_on_axis clamp.low_x clamp.high_x (carrying_of m i xs)) (meets_on_axis clamp.low_y clamp.high_y (carrying_of m i ys))).0 e in
      let across = (meets-exactly clamp.low_x clamp.high_x (carrying_of m i xs) sides_x).0 both.0 in
      let upward = (meets-exactly clamp.low_y clamp.high_y (carrying_of m i ys) sides_y).0 both.1 in
      record {
        x = across.number;
        y = upward.number;
        box-x = box-of-shared m i xs from to clamp.low_x clamp.high_x across;
        box-y = box-of-shared m i ys from (omega arith) clamp.low_y clamp.high_y upward;
        inside = record { low_x = across.from; high-x = across.to; low-y = upward.from; high-y = upward.to };
      }

  meets-of-point : clamp.low_x ≤ℤ clamp.high_x → clamp.low_y ≤ℤ clamp.high_y → SharedPoint clamp m i xs ys → box_meets clamp m xs ys i ≡ true
  unfolding box_meets
  meets-of-point sides_x sides_y p =
      let across : meets_on_axis clamp.low_x clamp.high_x (carrying_of m i xs) ≡ true =
      (meets-exactly clamp.low_x clamp.high_x (carrying_of m i xs) sides_x).1
      (shared-of-box m i xs from to clamp.low_x clamp.high_x p.x p.box-x p.inside.low_x p.inside.high-x) in
      let upward : meets_on_axis clamp.low_y clamp.high_y (carrying_of m i ys) ≡ true =
      (meets-exactly clamp.low_y clamp.high_y (carrying_of m i ys) sides_y).1
      (shared-of-box m i ys from (omega arith) clamp.low_y clamp.high_y p.y p.box-y p.inside.low-y p.inside.high-y) in
      rw (across, upward)

module _ (clamp : Rectangle) (m : ℕ) (ts : List ℕ) (xs ys : List ℤ) (alike : length ys ≡ length xs) (sides_x : clamp.low_x ≤ℤ clamp.high_x) (sides_y : clamp.low_y ≤ℤ clamp.high_y) (i : ℕ) where
  meets-of-listed : Stands (spans_met clamp m ts xs ys) i → MayMeet clamp m ts xs ys i
  unfolding spans_met
  meets-of-listed s =
      let kept = rw s.2 at (keep-only (to_check clamp m ts xs ys) m (length xs - m) s.0 s.1) in
      let from : m ≤ i = kept.from in
      let to : i < length xs = omega (arith, kept.to) in
      let both = (and-eq-true_iff (non_empty ts i) (box_meets clamp m xs ys i)).0 kept.passes in
      record { from = from; to = to; wide = ltb-true _ _ both.0; shares = point-of-meets clamp m ts xs ys alike i from to sides_x sides_y both.1 }

  listed-of-meets : MayMeet clamp m ts xs ys i → Stands (spans_met clamp m ts xs ys) i
  unfolding spans_met
  listed-of-meets s =
      keep-has (to_check clamp m ts xs ys) m (length xs - m) i s.from (omega (arith, s.from, s.to))
      (rw (lt-ltb _ _ s.wide) (meets-of-point clamp m ts xs ys alike i s.from s.to sides_x sides_y s.shares))

pub listed-exactly : ListedExactly
listed-exactly clamp m ts xs ys alike sides_x sides_y i =
    (meets-of-listed clamp m ts xs ys alike sides_x sides_y i, listed-of-meets clamp m ts xs ys alike sides_x sides_y i)

pub list-rises : ListRises
unfolding spans_met
list-rises clamp m ts xs ys a b h inside = keep-rises (to_check clamp m ts xs ys) m (length xs - m) a b h inside

pub knots-of-each-span : KnotsOfEachSpan
unfolding low_knots high_knots
knots-of-each-span clamp m ts xs ys =
    let spans = spans_met clamp m ts xs ys in
    record {
      count-lows = length-map spans (λ i. get_or ts i 0);
      count-highs = length-map spans (λ i. get_or ts (i + 1) 0);
      low = map_at (λ i. get_or ts i 0) spans;
      high = map_at (λ i. get_or ts (i + 1) 0) spans;
    }

pub success-hands-spans : SuccessHandsSpans
success-hands-spans result before lows highs = (over-holds result.lows before.lows lows, over-holds result.highs before.highs highs)

pub refusal-hands-no-spans : RefusalHandsNoSpans
refusal-hands-no-spans number result before h = rw (ne_eqb number 0 (λ e. omega arith))
