-- What a removal takes, that it undoes an insertion, and that the number it comes to is that of the first row that applies.
use mathlib.Core.List.{List, ◌∷◌, []}
use mathlib.Core.Path.{◌≡◌, refl, sym, ap, ◌∙◌, subst}
use Prim.Native.Nat.{ℕ, suc, ◌+◌}
use native.Mathlib.Nat.{le_refl}
use native.Mathlib.Omega.{arith}
use lib.ListN.{length, get_or}
use Rattle.curve.specs.Lists.{Lists}
use Rattle.curve.proofs.ListLaws.{same-knots, same-xs, same-ys}
use Rattle.curve.proofs.RoomLaws.{enough-all}
use Rattle.grid.specs.Rows.{knot_order_ok, occurrences}
use Rattle.grid.proofs.CheckLaws.{passes-tests}
use Rattle.grid.proofs.RepeatLaws.{occurrences-is, occurrences-not}
use Rattle.insertion.specs.Insertion.{inserted}
use Rattle.insertion.proofs.SpanLaws.{up_to-least, up_to-most}
use Rattle.insertion.proofs.KnotLaws.{inserted_knots-before, inserted_knots-behind}
use Rattle.insertion.proofs.PointLaws.{inserted_points-length}
use Rattle.insertion.proofs.CheckedLaws.{value-of-test}
use Rattle.insertion.proofs.JudgedLaws.{accepted-of-number, number-of-accepted}
use Rattle.insertion.proofs.PassLaws.{occurrences-inserted}
use Rattle.insertion.proofs.ResultLaws.{accepted-xs}
use Rattle.removal.specs.Removal.{Removes}
use Rattle.removal.specs.Sentences.{RemovalTakesOne, InsertedIsRemoved, NoPolygon, NoRoomWithout, removal_rows, RemovalAnswersFirst}
use Rattle.removal.proofs.PolygonLaws.{removes-unique}
use Rattle.removal.proofs.WithoutLaws.{inserted-without}
use Rattle.refusal.specs.Judging.{unless}
use Rattle.refusal.specs.Numbers.{not_inner_refused}
use Rattle.refusal.specs.Chain.{Row, row}
use Rattle.refusal.proofs.ChainLaws.{Judges, accepts, refuses, passes, judged, answers-first}
use Rattle.curve.specs.HandingOver.{room_number}
use Rattle.grid.specs.Check.{checked_then}
use Rattle.grid.proofs.ThenLaws.{checked_then-passed}
use Rattle.curve.specs.Sentences.{RoomWrong}
use Rattle.checked.proofs.TestLaws.{fails-iff, passes-from, room-judged}
use Rattle.checked.proofs.SentenceLaws.{curve-judged}
use Rattle.removal.specs.Judged.{inner_ok, removal_number}
use Rattle.removal.specs.Outcome.{RemovalComesTo, refused, not_removable, removed}
use Rattle.removal.proofs.JudgedLaws.{inner-judged, number-accepted, inner-of-number}

pub inserted-is-removed : InsertedIsRemoved
unfolding knot_order_ok
inserted-is-removed m c v lent h = (back, λ d r. removes-unique m v (inserted m c v) d c r back)
  where
    back : Removes m v (inserted m c v) c
    back =
        let a = accepted-of-number m c v lent h in
        record {
          fewer = sym (inserted-without 0 v c.knots (passes-tests m c.knots c.xs c.ys a.passes).order);
          accepts =
              number-of-accepted m c v (inserted m c v)
              (record {
                passes = a.passes;
                value = a.value;
                place = a.place;
                whole = a.whole;
                room = enough-all _ _ _ _ _ _ (le_refl _) (le_refl _) (le_refl _);
              });
          gives = refl;
        }

pub removal-takes-one : RemovalTakesOne
removal-takes-one m v c d r =
    let knots = same-knots r.gives in
    let a = accepted-of-number m d v c r.accepts in
    let s = accepted-xs m d.knots d.xs d.ys v c r.accepts in
    let inside = value-of-test m d.knots d.xs v a.value in
    let more-x : length c.xs ≡ length d.xs + 1 = sym (ap length (same-xs r.gives)) ∙ inserted_points-length m d.knots d.xs v in
    let more-y : length c.ys ≡ length d.ys + 1 = sym (ap length (same-ys r.gives)) ∙ inserted_points-length m d.knots d.ys v in
    let start : get_or c.knots m 0 ≡ get_or d.knots m 0 =
    sym (ap (λ (l : List ℕ). get_or l m 0) knots) ∙ inserted_knots-before d.knots v m (up_to-least m d.knots d.xs v s) in
    let place : length c.xs ≡ suc (length d.xs) = omega arith in
    let stop : get_or c.knots (length c.xs) 0 ≡ get_or d.knots (length d.xs) 0 =
    ap (λ (k : ℕ). get_or c.knots k 0) place
    ∙ sym (ap (λ (l : List ℕ). get_or l (suc (length d.xs)) 0) knots)
    ∙ inserted_knots-behind d.knots v (length d.xs) (up_to-most m d.knots d.xs v s) in
    let count : (w : ℕ) → occurrences w c.knots ≡ occurrences w (v ∷ d.knots) =
    λ w. sym (ap (occurrences w) knots) ∙ occurrences-inserted w d.knots v in
    record {
      points = (more-x, more-y);
      once = count v ∙ occurrences-is v v d.knots refl ∙ omega arith;
      others = λ w n. count w ∙ occurrences-not w v d.knots (λ e. n (sym e));
      start = start;
      stop = stop;
      inside = (omega (arith, inside.0), omega (arith, inside.1));
    }

module _ (m : ℕ) (c : Lists) (v : ℕ) (lent : Lists) where
  -- 13 and 15, where 1 to 7 and 12 do not apply
  abbrev last_rows : List Row
  last_rows = row 13 (NoPolygon m c v) ∷ row 15 (NoRoomWithout m c v lent) ∷ []

  abbrev with-last : ℕ → ℕ
  with-last last = checked_then m c.knots c.xs c.ys (unless (inner_ok m c.knots c.xs v) not_inner_refused last)

  judged-then : (last : ℕ) → (removal_number m c v ≡ 0 → Judges last last_rows) → Judges (with-last last) (removal_rows m c v lent)
  judged-then last rest =
      curve-judged m c.knots c.xs c.ys _ _ λ fine.
      judged (fails-iff (inner-judged m c v)) λ inner. rest (sym (number-accepted m c.knots c.xs c.ys v fine inner))

  last-given : (last : ℕ) → removal_number m c v ≡ 0 → with-last last ≡ last
  last-given last z =
      let i = inner-of-number m c.knots c.xs c.ys v z in
      checked_then-passed m c.knots c.xs c.ys _ i.passes ∙ rw (passes-from (inner-judged m c v) (i.low, i.high, i.present))

  same-room : (d : Lists) → Removes m v c d → NoRoomWithout m c v lent → RoomWrong d lent
  same-room d r (e, s, w) = subst (λ (l : Lists). RoomWrong l lent) (removes-unique m v c e d s r) w

  comes-first : (number : ℕ) (d : Lists) → RemovalComesTo m c v lent number d → Judges number (removal_rows m c v lent)
  unfolding removal_number
  comes-first number d (refused n e) = rw e (judged-then 0 (λ z. absurd (n z)))
  comes-first number d (not_removable z none e) =
      rw (e ∙ sym (last-given 13 z)) (judged-then 13 (λ y. refuses (λ l r. none (record { without = l; removes = r }))))
  comes-first number d (removed z r e) =
      let short = room-judged d lent in
      rw (e ∙ sym (last-given (room_number d lent) z))
      (judged-then (room_number d lent) λ y.
      passes (λ none. none d r)
      (judged (λ h. (d, r, short.failing h), λ w. (fails-iff short).1 (same-room d r w)) λ ok. accepts))

pub removal-answers-first : RemovalAnswersFirst
removal-answers-first m c v lent number d h = answers-first number (removal_rows m c v lent) refl (comes-first m c v lent number d h)
