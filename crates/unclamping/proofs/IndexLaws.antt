-- The unclamped curve at every index.
use mathlib.Core.Bool.{true}
use mathlib.Core.List.{List}
use mathlib.Core.Path.{◌≡◌, refl, ap, ◌∙◌}
use Prim.Native.Nat.{ℕ, ◌+◌, ◌-◌, ◌≤◌, ◌<◌}
use native.Mathlib.Omega.{arith}
use lib.IntN.{ℤ, pos, ◌-ℤ◌, ◌*ℤ◌}
use lib.ListN.{length, get_or}
use Rattle.signed.proofs.DivisionLaws.{product-of-quot}
use Rattle.checked.proofs.CheckedLaws.{checked-of-passes}
use Rattle.clamping.specs.declared.Share.{Share}
use Rattle.clamping.specs.EndRows.{finish_of}
use Rattle.clamping.specs.Clamping.{is_whole, whole_of}
use Rattle.unclamping.specs.Unclamping.{open_second, open_first, open_number, open_points, opens_on}
use Rattle.unclamping.specs.Sentences.{OpenAxis, UnclampedByIndex}
use Rattle.unclamping.proofs.EntryLaws.{last-of-two, last-of-three, second-of-three, whole_is, open_points-length, open_points-at, point-old, unclamped-xs, unclamped-ys}
use Rattle.unclamping.proofs.AxisLaws.{axis-each}
use Rattle.unclamping.proofs.EquationLaws.{second-equation, last-equation}
use Rattle.unclamping.proofs.JudgedLaws.{opens-parts, accepted-of-number}
use Rattle.unclamping.proofs.OpenLaws.{opened-old, opened-new}
use Rattle.unclamping.proofs.ResultLaws.{unclamped-opened}

-- one axis that opens, with P_0 .. P_n
module _ (m : ℕ) (ts : List ℕ) (ps : List ℤ) (n : ℕ) (count : length ps ≡ n + 1) (some : 1 ≤ m) (enough : m + 1 ≤ length ps) (h : opens_on m ts ps ≡ true) where
  -- the k-th point from the end, and that it is whole
  from_end : (j k : ℕ) → j + k ≡ n → get_or (open_points m ts ps) j (pos 0) ≡ whole_of (open_number (finish_of ts ps) m k)
  from_end j k e =
      let place : length ps - 1 - j ≡ k = omega arith in
      open_points-at m ts ps j (omega arith) ∙ ap (λ (i : ℕ). whole_of (open_number (finish_of ts ps) m i)) place

  whole-from-end : (j k : ℕ) → j + k ≡ n → is_whole (open_number (finish_of ts ps) m k) ≡ true
  whole-from-end j k e =
      let place : length ps - 1 - j ≡ k = omega arith in
      rw place at (axis-each m ts ps h j (omega arith)).0

  left : (j : ℕ) → j + m ≤ n + 1 → get_or (open_points m ts ps) j (pos 0) ≡ get_or ps j (pos 0)
  left j l =
      let inside : j < length ps = omega arith in
      open_points-at m ts ps j inside ∙ ap whole_of (point-old m ts ps j inside (omega arith)) ∙ whole_is (get_or ps j (pos 0))

  last-two : m ≡ 2 → get_or (open_points m ts ps) n (pos 0) ≡ pos 2 *ℤ get_or ps n (pos 0) -ℤ get_or ps (n - 1) (pos 0)
  last-two degree =
      let first : length ps - 1 - 0 ≡ n = omega arith in
      let second : length ps - 1 - 1 ≡ n - 1 = omega arith in
      rw (first, second) at
      (from_end n 0 (omega arith) ∙ ap whole_of (last-of-two (finish_of ts ps) m 0 degree refl) ∙ whole_is (pos 2 *ℤ (finish_of ts ps).point 0 -ℤ (finish_of ts ps).point 1))

  -- a number that is z: times what stands below the line it is what stands above
  product : (a : Share) (z : ℤ) → is_whole a ≡ true → z ≡ whole_of a → z *ℤ pos a.lower ≡ a.upper
  product a z whole e = rw e (product-of-quot a.upper a.lower whole)

  module _ (degree : m ≡ 3) where
    second-product : get_or (open_points m ts ps) (n - 1) (pos 0) *ℤ pos (open_second (finish_of ts ps)).lower ≡ (open_second (finish_of ts ps)).upper
    second-product =
        let there : n - 1 + 1 ≡ n = omega arith in
        let same = second-of-three (finish_of ts ps) m 1 degree refl in
        product (open_second (finish_of ts ps)) (get_or (open_points m ts ps) (n - 1) (pos 0)) (rw same at (whole-from-end (n - 1) 1 there)) (from_end (n - 1) 1 there ∙ ap whole_of same)

    last-product : get_or (open_points m ts ps) n (pos 0) *ℤ pos (open_first (finish_of ts ps)).lower ≡ (open_first (finish_of ts ps)).upper
    last-product =
        let there : n + 0 ≡ n = omega arith in
        let same = last-of-three (finish_of ts ps) m 0 degree refl in
        product (open_first (finish_of ts ps)) (get_or (open_points m ts ps) n (pos 0)) (rw same at (whole-from-end n 0 there)) (from_end n 0 there ∙ ap whole_of same)

    module _ (before : get_or ts (n - 1) 0 ≤ get_or ts n 0) (width : get_or ts n 0 < get_or ts (n + 1) 0) where
      three : (pos (get_or ts (n + 1) 0) -ℤ pos (get_or ts (n - 1) 0)) *ℤ (get_or (open_points m ts ps) (n - 1) (pos 0) -ℤ get_or ps (n - 1) (pos 0))
          ≡ (pos (get_or ts (n + 1) 0) -ℤ pos (get_or ts n 0)) *ℤ (get_or ps (n - 1) (pos 0) -ℤ get_or ps (n - 2) (pos 0))
      unfolding open_second
      three =
          let one : length ps - 1 ≡ n = omega arith in
          let two : length ps - 2 ≡ n - 1 = omega arith in
          second-equation (get_or ts (n - 1) 0) (get_or ts n 0) (get_or ts (n + 1) 0) (get_or (open_points m ts ps) (n - 1) (pos 0)) (get_or ps (n - 1) (pos 0)) (get_or ps (n - 2) (pos 0))
          (omega arith) (omega arith) (rw (two, one, count) at second-product)

      lower-some : 0 < (open_second (finish_of ts ps)).lower
      unfolding open_second
      lower-some =
          let two : length ps - 2 ≡ n - 1 = omega arith in
          rw (two, count) (omega arith)

      last : get_or (open_points m ts ps) n (pos 0)
          ≡ pos 6 *ℤ get_or ps n (pos 0) -ℤ pos 3 *ℤ get_or ps (n - 1) (pos 0) -ℤ pos 2 *ℤ get_or (open_points m ts ps) (n - 1) (pos 0)
      unfolding open_first open_second
      last =
          let first : length ps - 1 - 0 ≡ n = omega arith in
          let second : length ps - 1 - 1 ≡ n - 1 = omega arith in
          rw (first, second) at
          (last-equation ((finish_of ts ps).inside 2) (get_or (open_points m ts ps) (n - 1) (pos 0)) (get_or (open_points m ts ps) n (pos 0)) (open_second (finish_of ts ps)).upper
          (pos 6 *ℤ (finish_of ts ps).point 0 -ℤ pos 3 *ℤ (finish_of ts ps).point 1) lower-some second-product last-product)

  axis-by-index : get_or ts (n - 1) 0 ≤ get_or ts n 0 → get_or ts n 0 < get_or ts (n + 1) 0 → OpenAxis m ts ps n (open_points m ts ps)
  axis-by-index before width =
      record {
        places = open_points-length m ts ps;
        left = left;
        two = last-two;
        three = λ degree. three degree before width;
        last = λ degree. last degree before width;
      }

-- the knots, and both axes
pub unclamped-by-index : UnclampedByIndex
unclamped-by-index m c lent n number count =
    let a = accepted-of-number m c lent number in
    let k = checked-of-passes m c.knots c.xs c.ys a.0 in
    let s = k.sizes in
    let p = opens-parts m c a.1 in
    let o = unclamped-opened m c a.0 a.1 in
    let before = k.rising (n - 1) n (omega arith) (omega (arith, s.knots)) in
    let one : n + 1 - 1 ≡ n = omega arith in
    let width : get_or c.knots n 0 < get_or c.knots (n + 1) 0 = rw (count, one) at o.width in
    let y : length c.ys ≡ n + 1 = s.as_many ∙ count in (
      record {
        places = o.same;
        width = width;
        left = λ j l. opened-old o j (omega (arith, count));
        right = λ k l. rw (count, one) at (opened-new o k l);
      },
      rw (unclamped-xs m c) (axis-by-index m c.knots c.xs n count s.degree-least s.enough p.x before width),
      rw (unclamped-ys m c) (axis-by-index m c.knots c.ys n y s.degree-least (omega (arith, s.enough, s.as_many)) p.y before width),
    )
