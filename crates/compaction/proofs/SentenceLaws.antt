-- What a pass leaves, removal by removal; and that the number which compacting comes to is that of the first row that applies.
use mathlib.Core.Logic.{inl, inr, ⊎_elim}
use mathlib.Core.Path.{◌≡◌, refl, sym, ◌∙◌, subst}
use Prim.Native.Nat.{ℕ, ◌+◌}
use native.Mathlib.Decide.{ℕ_discrete}
use native.Mathlib.Omega.{arith}
use Rattle.curve.specs.Lists.{Lists}
use Rattle.removal.specs.Removal.{Removes}
use Rattle.removal.proofs.SentenceLaws.{removal-takes-one}
use Rattle.compaction.specs.Compaction.{Stays, RemovesWhile, stays, goes_on, Pass, done, next, CompactsTo}
use Rattle.compaction.specs.Sentences.{Leaves, PassLeaves, TurnEnds, NoRoomLeft, compaction_rows, CompactionAnswersFirst}
use Rattle.refusal.proofs.ChainLaws.{Judges, accepts, judged, answers-first}
use Rattle.curve.specs.HandingOver.{room_number}
use Rattle.grid.specs.Check.{check_number}
use Rattle.grid.proofs.ThenLaws.{checked_then-passed}
use Rattle.curve.specs.Sentences.{RoomWrong}
use Rattle.checked.proofs.TestLaws.{fails-iff, room-judged}
use Rattle.checked.proofs.SentenceLaws.{curve-judged}
use Rattle.compaction.proofs.PassLaws.{pass-unique}
use Rattle.compaction.specs.Outcome.{CompactionComesTo, refused, compacted, knots_taken}

leaves_all : (m : ℕ) (c : Lists) → Leaves m c c 0
leaves_all m c =
    record { points = (omega arith, omega arith); start = refl; stop = refl; outside = λ w o. refl; seldom = λ w. omega arith }

leaves-one : (m v : ℕ) (c d : Lists) → Removes m v c d → Leaves m c d 1
leaves-one m v c d r =
    let t = removal-takes-one m v c d r in
    record {
      points = t.points;
      start = t.start;
      stop = t.stop;
      outside = λ w o. sym (t.others w (λ e. ⊎_elim (λ l. omega (arith, t.inside.0)) (λ l. omega (arith, t.inside.1)) o));
      seldom = λ w.
          elim (ℕ_discrete w v) [
            | yes e ↦ rw e (omega (arith, t.once))
            | no n ↦ omega (arith, t.others w n)
          ];
    }

leaves-more : (m : ℕ) (c d e : Lists) (k l : ℕ) → Leaves m c d k → Leaves m d e l → Leaves m c e (k + l)
leaves-more m c d e k l a b =
    record {
      points = (omega (arith, a.points.0, b.points.0), omega (arith, a.points.1, b.points.1));
      start = a.start ∙ b.start;
      stop = a.stop ∙ b.stop;
      outside = λ w o. b.outside w (⊎_elim (λ h. inl (omega (arith, a.start))) (λ h. inr (omega (arith, a.stop))) o) ∙ a.outside w o;
      seldom = λ w. omega (arith, a.seldom w, b.seldom w);
    }

while-leaves : {m v : ℕ} {c e : Lists} → RemovesWhile m v c e → (k : ℕ) × Leaves m c e k
while-leaves {m} {v} {c} (stays h) = (0, leaves_all m c)
while-leaves {m} {v} (goes_on {c = c} {d = d} {e = e} r rest) =
    let w = while-leaves rest in
    (1 + w.0, leaves-more m c d e 1 w.0 (leaves-one m v c d r) w.1)

pass-leaves-from : {m low : ℕ} {c e : Lists} → Pass m low c e → (k : ℕ) × Leaves m c e k
pass-leaves-from {m} {low} {c} (done h) = (0, leaves_all m c)
pass-leaves-from {m} {low} (next {c = c} {d = d} {e = e} n w rest) =
    let a = while-leaves w in
    let b = pass-leaves-from rest in
    (a.0 + b.0, leaves-more m c d e a.0 b.0 a.1 b.1)

pub pass-leaves : PassLeaves
pass-leaves m c d pass = pass-leaves-from pass

-- as many knots went as the number says that is answered
pub pass-counted : (m : ℕ) (c d : Lists) → CompactsTo m c d → Leaves m c d (knots_taken c d)
pass-counted m c d pass =
    let w = pass-leaves m c d pass in
    let same : w.0 ≡ knots_taken c d = omega (arith, w.1.points.0) in
    subst (Leaves m c d) same w.1

while-ends : {m v : ℕ} {c d : Lists} → RemovesWhile m v c d → Stays m v d
while-ends (stays h) = h
while-ends (goes_on r rest) = while-ends rest

pub turn-ends : TurnEnds
turn-ends m v c d w = while-ends w

module _ (m : ℕ) (c lent : Lists) where
  same-room : (d : Lists) → CompactsTo m c d → NoRoomLeft m c lent → RoomWrong d lent
  same-room d pass (e, other, w) = subst (λ (l : Lists). RoomWrong l lent) (pass-unique other pass) w

  comes-first : (number : ℕ) (d : Lists) → CompactionComesTo m c lent number d → Judges number (compaction_rows m c lent)
  unfolding check_number
  comes-first number d (refused n e) = rw e (curve-judged m c.knots c.xs c.ys 0 _ (λ fine. absurd (n fine)))
  comes-first number d (compacted p pass e) =
      let short = room-judged d lent in
      rw (e ∙ sym (checked_then-passed m c.knots c.xs c.ys (room_number d lent) p))
      (curve-judged m c.knots c.xs c.ys (room_number d lent) _ λ fine.
      judged (λ h. (d, pass, short.failing h), λ w. (fails-iff short).1 (same-room d pass w)) λ ok. accepts)

pub compaction-answers-first : CompactionAnswersFirst
compaction-answers-first m c lent number d h = answers-first number (compaction_rows m c lent) refl (comes-first m c lent number d h)
