-- A curve whose path data is as long as any can be: degree 1, knots 0 0 1 2 and so on, the last one twice too, and every point at the low end of the grid.
-- It is told over the number of its points, so that no list of a thousand entries is ever written out.
use mathlib.Core.Bool.{true}
use mathlib.Core.List.{List, [], ◌∷◌}
use mathlib.Core.Path.{◌≡◌, refl, sym, ap, ◌∙◌}
use Prim.Native.Nat.{ℕ, suc, ◌+◌, ◌-◌, ◌*◌, ◌≤◌, ◌<◌}
use native.Mathlib.Decide.{dec_le}
use native.Mathlib.Omega.{arith}
use lib.IntN.{ℤ, pos}
use lib.ListN.{length, get_or, replicate, length-append, length-replicate, get_or-replicate}
use Rattle.refusal.specs.Numbers.{accepted}
use Rattle.curve.specs.Lists.{Lists, lists, NeverFall}
use Rattle.grid.specs.Check.{Passes}
use Rattle.grid.specs.Limits.{points_most, knot_most, pair_bytes_most}
use Rattle.grid.specs.Rows.{occurrences, knot_order_ok, rises_from}
use Rattle.grid.proofs.RepeatLaws.{occurrences-most}
use Rattle.checked.specs.Checked.{OnGrid, Clamped}
use Rattle.checked.proofs.CheckedLaws.{passes-of-checked}
use Rattle.checked.proofs.OccurrenceLaws.{occurs-at}
use Rattle.checked.proofs.RisingLaws.{order-judged}
use Rattle.checked.proofs.TestLaws.{passes-from}
use Rattle.insertion.specs.Insertion.{point_at, entries}
use Rattle.insertion.proofs.EntryLaws.{entries-length, entries_at}
use Rattle.clamping.proofs.StayLaws.{clamped-comes-back}
use Rattle.cutting.specs.Cutting.{cuts, inserted_each, cut, cut_number}
use Rattle.cutting.specs.Pieces.{piece_of, piece_count, pieces}
use Rattle.cutting.proofs.FourLaws.{four-used}
use Rattle.cut_whole.proofs.SentenceLaws.{cuts-counted, cut-number-is, cut-sizes}
use Rattle.path_data.proofs.LongestLaws.{lowest, lowest-on-grid, Farthest, farthest-path}
use Rattle.svg_out.specs.Svg.{pieces_text, svg_text, draw_number}
use Rattle.svg_whole.specs.Sentences.{SvgMostReached}
use Rattle.svg_whole.proofs.DrawLaws.{draw-own}

-- a list in which nothing stands
none-stand : (l : List ℕ) → ((v : ℕ) → occurrences v l ≡ 0) → l ≡ []
none-stand [] h = refl
none-stand (t ∷ ts) h = absurd (omega (arith, h t, occurs-at t (t ∷ ts) 0 (omega arith) refl))

-- at degree 1 every inner knot stands often enough, and nothing is inserted
module _ (c : Lists) (passes : Passes 1 c.knots c.xs c.ys) (clamped : Clamped 1 c.knots (length c.xs)) where
  no_value : (v : ℕ) → occurrences v (cuts 1 c) ≡ 0
  no_value v =
      let counted = cuts-counted 1 c passes clamped in
      elim (dec_le 1 (occurrences v (cuts 1 c))) [
        | no none ↦ omega arith
        | yes some ↦ counted.other v (λ k. omega (arith, counted.inner v k, k.stands))
      ]

  no-cuts : cuts 1 c ≡ []
  no-cuts = none-stand (cuts 1 c) no_value

  pub line-accepted : cut_number 1 c ≡ accepted
  line-accepted =
      ((cut-number-is 1 c).0 passes clamped).none.1
      (λ before v later e. absurd (omega (arith, ap length (sym no-cuts ∙ e), length-append before (v ∷ later))))

  pub line-uncut : cut 1 c ≡ c
  unfolding inserted_each
  line-uncut = ap (λ vs. inserted_each 1 vs c) no-cuts

-- p + 2 points
module _ (p : ℕ) (few : p + 2 ≤ points_most) where
  abbrev far_knots : List ℕ
  far_knots = entries (λ j. j - 1 - (j - (p + 2))) (p + 4)

  abbrev far_points : List ℤ
  far_points = replicate (p + 2) lowest

  abbrev far_curve : Lists
  far_curve = lists far_knots far_points far_points

  knot-at : (j : ℕ) → j < p + 4 → get_or far_knots j 0 ≡ j - 1 - (j - (p + 2))
  knot-at j h = entries_at (λ j. j - 1 - (j - (p + 2))) (p + 4) j 0 h

  knots-many : length far_knots ≡ p + 4
  knots-many = entries-length (λ j. j - 1 - (j - (p + 2))) (p + 4)

  points-many : length far_points ≡ p + 2
  points-many = length-replicate (p + 2) lowest

  end-knot : get_or far_knots (length far_points) 0 ≡ p + 1
  end-knot = rw points-many (knot-at (p + 2) (omega arith) ∙ omega arith)

  rises : NeverFall far_knots
  rises a b le l = omega (arith, knots-many, knot-at a (omega (arith, knots-many)), knot-at b (omega (arith, knots-many)))

  small : (a : ℕ) → a < length far_knots → get_or far_knots a 0 ≤ knot_most
  small a h = omega (arith, knots-many, knot-at a (omega (arith, knots-many)))

  order : rises_from 0 far_knots ≡ true
  unfolding knot_order_ok
  order = passes-from (order-judged far_knots) (rises, small)

  -- no value stands three times, and only the two at the ends stand twice
  stands-twice : (v : ℕ) → occurrences v far_knots ≤ 2
  stands-twice v =
      occurrences-most v 2 0 far_knots order
      (λ j l e inside low high. omega (arith, knots-many, low, high, knot-at j (omega (arith, knots-many)), knot-at l (omega (arith, knots-many))))

  equal-neighbours : (v j : ℕ) → 0 < v → j + 1 < p + 4 → get_or far_knots j 0 ≡ v → get_or far_knots (j + 1) 0 ≡ v → v ≡ p + 1
  equal-neighbours v j above inside low high = omega (arith, low, high, knot-at j (omega arith), knot-at (j + 1) inside)

  stands-once : (v : ℕ) → get_or far_knots 1 0 < v → v < get_or far_knots (length far_points) 0 → occurrences v far_knots ≤ 1
  stands-once v above below =
      occurrences-most v 1 0 far_knots order
      (λ j l e inside low high. omega (arith, end-knot, equal-neighbours v j (omega arith) (omega (arith, knots-many)) low (rw e at high)))

  on-grid : (a : ℕ) → a < length far_points → OnGrid (get_or far_points a (pos 0))
  on-grid a h = rw (get_or-replicate (p + 2) a lowest (pos 0) (omega (arith, points-many))) lowest-on-grid

  pub far-passes : Passes 1 far_knots far_points far_points
  far-passes =
      passes-of-checked 1 far_knots far_points far_points
      (record {
        sizes =
            record {
              degree-least = omega arith;
              degree-most = omega arith;
              as_many = refl;
              enough = omega (arith, points-many);
              most = omega (arith, points-many);
              knots = omega (arith, points-many, knots-many);
            };
        rising = rises;
        largest = small;
        domain = rw points-many (omega (arith, knot-at 1 (omega arith), knot-at (p + 2) (omega arith)));
        inner = stands-once;
        outer = stands-twice;
        grid_x = on-grid;
        grid_y = on-grid;
      })

  far-clamped : Clamped 1 far_knots (length far_points)
  far-clamped =
      record {
        firsts = λ a h. omega (arith, knot-at a (omega arith), knot-at 1 (omega arith));
        lasts = λ a h l. omega (arith, points-many, knots-many, end-knot, knot-at a (omega (arith, knots-many)));
      }

  far-accepted : cut_number 1 far_curve ≡ accepted
  far-accepted = line-accepted far_curve far-passes far-clamped

  far-uncut : cut 1 far_curve ≡ far_curve
  far-uncut = line-uncut far_curve far-passes far-clamped

  count-is : piece_count 1 far_curve ≡ suc p
  count-is = omega (arith, (cut-sizes 1 far_curve far-accepted far-clamped).xs, ap (λ c. length c.xs) far-uncut, points-many)

  -- both points of every piece are there
  point-is : (k a : ℕ) → k ≤ p → a ≤ 1 → point_at far_points (k * 1 + a) ≡ lowest
  point-is k a h l = get_or-replicate (p + 2) (k * 1 + a) lowest (pos 0) (omega arith)

  all-farthest : (k : ℕ) → k ≤ p → Farthest (piece_of 1 far_curve k)
  unfolding piece_of
  all-farthest k h =
      record {
        on_x = λ a l. four-used 1 far_points (k * 1) a l (omega arith) ∙ point-is k a h l;
        on_y = λ a l. four-used 1 far_points (k * 1) a l (omega arith) ∙ point-is k a h l;
      }

  own-length : length (pieces_text 1 far_curve) ≡ (1 + pair_bytes_most) + suc p * (2 + pair_bytes_most)
  unfolding pieces
  own-length = rw (count-is, far-uncut) (farthest-path (piece_of 1 far_curve) p all-farthest)

  -- its ends are clamped, so that it is its own copy
  far-drawn : draw_number 1 far_curve ≡ accepted
  far-drawn = draw-own 1 far_curve far-passes far-clamped accepted ∙ far-accepted

  far-length : length (svg_text 1 far_curve) ≡ (1 + pair_bytes_most) + suc p * (2 + pair_bytes_most)
  far-length = ap (λ (d : Lists). length (pieces_text 1 d)) (clamped-comes-back 1 far_curve far-passes far-clamped).1 ∙ own-length

  reached : (m : ℕ) × (c : Lists) × (draw_number m c ≡ accepted) × (length (svg_text m c) ≡ (1 + pair_bytes_most) + suc p * (2 + pair_bytes_most))
  reached = (1, far_curve, far-drawn, far-length)

pub svg-most-reached : SvgMostReached
svg-most-reached = reached (points_most - 2) (omega arith)
