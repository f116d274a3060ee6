-- Insertions leave what stands to their left: so the pieces to the left of a walk stay what they are.
use mathlib.Core.Bool.{cond}
use mathlib.Core.List.{List, [], ◌∷◌}
use mathlib.Core.Path.{◌≡◌, refl, ◌∙◌}
use Prim.Native.Nat.{ℕ, suc, ◌+◌, ◌*◌, ◌≤◌, ◌<◌}
use native.Mathlib.Decide.{dec_le}
use native.Mathlib.Nat.{suc-mul, mul-le-mul_right}
use native.Mathlib.Omega.{arith}
use lib.Dec.{leb}
use lib.IntN.{ℤ, pos}
use lib.ListN.{length, get_or}
use borrow.Author.Tests.{le-leb, lt-leb}
use Rattle.refusal.specs.Numbers.{accepted}
use Rattle.curve.specs.Lists.{Lists}
use Rattle.grid.specs.Check.{Passes}
use Rattle.grid.proofs.SizeLaws.{sizes-of-passes}
use Rattle.insertion.specs.Insertion.{point_at, entries, inserted, insertion_span, inserted_knots, inserted_points}
use Rattle.insertion.specs.Judged.{insertion_number}
use Rattle.insertion.specs.Standing.{Insertable}
use Rattle.insertion.proofs.KnotLaws.{inserted_knots-before, inserted_knots-length}
use Rattle.insertion.proofs.PointLaws.{point-left, inserted_points-at}
use Rattle.insertion.proofs.ResultLaws.{accepted-xs, accepted-ys, inserted-passes}
use Rattle.insertion.proofs.SpanLaws.{span-most, span-high, up_to-least}
use Rattle.cutting.specs.Cutting.{inserted_each, insertable_each_then}
use Rattle.cutting.specs.Pieces.{four_from, piece_of}
use Rattle.cutting.proofs.EachLaws.{first-passed, inserts-just}

-- no value of a list is below u
abbrev pub NoneBelow : ℕ → List ℕ → Type 0
NoneBelow u vs = (x : ℕ) → x < length vs → u ≤ get_or vs x 0

-- what stands left of an insertion stays: the knots up to e, and the points that those carry
module _ (m u e : ℕ) where
  abbrev CurvePasses : Lists → Type 0
  CurvePasses d = Passes m d.knots d.xs d.ys

  -- the knot with index e is not above u
  record Left (d : Lists) : Type 0 where
    inside : e < length d.knots
    low : get_or d.knots e 0 ≤ u

  record Same (d f : Lists) : Type 0 where
    knots : (j : ℕ) → j ≤ e → get_or f.knots j 0 ≡ get_or d.knots j 0
    xs : (j : ℕ) → j + m ≤ e → point_at f.xs j ≡ point_at d.xs j
    ys : (j : ℕ) → j + m ≤ e → point_at f.ys j ≡ point_at d.ys j

  module _ (d : Lists) (v : ℕ) (above : u ≤ v) (left : Left d) (accepts : insertion_number m d v (inserted m d v) ≡ accepted) where
    on-x : Insertable m d.knots d.xs v
    on-x = accepted-xs m d.knots d.xs d.ys v (inserted m d v) accepts

    on-y : Insertable m d.knots d.ys v
    on-y = accepted-ys m d.knots d.xs d.ys v (inserted m d v) accepts

    up_to : e ≤ insertion_span d.knots v
    up_to =
        elim (dec_le e (insertion_span d.knots v)) [
          | yes h ↦ h
          | no h ↦ absurd (omega (arith, span-high m d.knots d.xs v on-x e (omega arith) left.inside, left.low, above))
        ]

    axis : (ps : List ℤ) → Insertable m d.knots ps v → (j : ℕ) → j + m ≤ e → point_at (inserted_points m d.knots ps v) j ≡ point_at ps j
    axis ps on j h =
        inserted_points-at m d.knots ps v j (omega (arith, up_to, span-most m d.knots ps v on))
        ∙ point-left m d.knots ps v (insertion_span d.knots v) j (omega (arith, up_to))

    keeps-knots : (j : ℕ) → j ≤ e → get_or (inserted_knots d.knots v) j 0 ≡ get_or d.knots j 0
    unfolding insertion_span
    keeps-knots j h = inserted_knots-before d.knots v j (omega (arith, up_to, up_to-least m d.knots d.xs v on-x))

    once : Same d (inserted m d v)
    once = record { knots = keeps-knots; xs = axis d.xs on-x; ys = axis d.ys on-y }

    once-left : Left (inserted m d v)
    once-left =
        record {
          inside = omega (arith, inserted_knots-length d.knots v, left.inside);
          low = rw (keeps-knots e (omega arith)) left.low;
        }

  each_keeps : (vs : List ℕ) (d : Lists) → NoneBelow u vs → CurvePasses d → Left d → insertable_each_then m vs d accepted ≡ accepted → Same d (inserted_each m vs d)
  unfolding inserted_each
  each_keeps [] d above passes left e = record { knots = λ j h. refl; xs = λ j h. refl; ys = λ j h. refl }
  each_keeps (v ∷ vs) d above passes left e =
      let (first, others) = first-passed m v vs d e in
      let accepts = inserts-just m d v passes first in
      let over = above 0 (omega arith) in
      let next = each_keeps vs (inserted m d v) (λ x h. above (suc x) (omega arith)) (inserted-passes m d.knots d.xs d.ys v (inserted m d v) accepts) (once-left d v over left accepts) others in
      let here = once d v over left accepts in
      record {
        knots = λ j h. next.knots j h ∙ here.knots j h;
        xs = λ j h. next.xs j h ∙ here.xs j h;
        ys = λ j h. next.ys j h ∙ here.ys j h;
      }

-- four coordinates are the same where their points are
four-of-same : (m : ℕ) (ps qs : List ℤ) (first : ℕ) → ((a : ℕ) → a ≤ m → point_at ps (first + a) ≡ point_at qs (first + a)) → four_from m ps first ≡ four_from m qs first
unfolding four_from entries
four-of-same m ps qs first same = rw (at 0, at 1, at 2, at 3)
  where
    at : (a : ℕ) → cond (leb a m) (point_at ps (first + a)) (pos 0) ≡ cond (leb a m) (point_at qs (first + a)) (pos 0)
    at a =
        elim (dec_le a m) [
          | yes l ↦ rw (le-leb a m l) (same a l)
          | no l ↦ rw (lt-leb a m (omega arith))
        ]

-- the pieces left of a span stay what they were where no value inserted is below its low knot
pub pieces-stay : (m k : ℕ) (vs : List ℕ) (d : Lists) → Passes m d.knots d.xs d.ys → k * m + m < length d.knots → NoneBelow (get_or d.knots (k * m + m) 0) vs
    → insertable_each_then m vs d accepted ≡ accepted → (j : ℕ) → j < k → piece_of m (inserted_each m vs d) j ≡ piece_of m d j
unfolding piece_of
pieces-stay m k vs d passes inside above e j h =
    let z = sizes-of-passes m d.knots d.xs d.ys passes in
    let same = each_keeps m (get_or d.knots (k * m + m) 0) (k * m + m) vs d above passes (record { inside = inside; low = omega arith }) e in
    let before : suc j * m ≤ k * m = mul-le-mul_right m h in
    let next : suc j * m ≡ j * m + m = suc-mul j m in
    λ x. record {
      low = same.knots (j * m + m) (omega arith) x;
      high = same.knots (j * m + m + 1) (omega (arith, z.degree-least)) x;
      xs = four-of-same m (inserted_each m vs d).xs d.xs (j * m) (λ a l. same.xs (j * m + a) (omega arith)) x;
      ys = four-of-same m (inserted_each m vs d).ys d.ys (j * m) (λ a l. same.ys (j * m + a) (omega arith)) x;
    }
