-- What is judged of inserting values one after the other: where all are accepted, what is judged next; else the number of the first that fails.
use mathlib.Core.List.{List, [], ◌∷◌, ◌++◌, append-nil}
use mathlib.Core.Path.{◌≡◌, refl, sym, ap, ◌∙◌}
use Prim.Native.Nat.{ℕ, ◌<◌}
use native.Mathlib.Decide.{ℕ_discrete}
use native.Mathlib.Omega.{arith}
use lib.ListN.{length}
use Rattle.refusal.specs.Numbers.{accepted}
use Rattle.curve.specs.Lists.{Lists}
use Rattle.curve.specs.HandingOver.{room_number}
use Rattle.curve.proofs.SentenceLaws.{room-exactly}
use Rattle.grid.specs.Check.{Passes, check_number}
use Rattle.grid.proofs.ThenLaws.{checked_then-passed, checked_then-refused}
use Rattle.insertion.specs.Insertion.{inserted}
use Rattle.insertion.specs.Judged.{insertable_then}
use Rattle.insertion.proofs.JudgedLaws.{number_passed, judged-refused, judged-passed}
use Rattle.cutting.specs.Cutting.{cuts, inserted_each, insertable_each_then, cut, cut_then, cut_number}
use Rattle.cut_whole.specs.Sentences.{own_number, AcceptsEach, FirstFailing}
use Rattle.cut_whole.proofs.EachLaws.{one_passes, first-accepts, others-accept, all-accept, Kept, each_keeps}

-- lists of just the places that a curve needs
room-just : (c : Lists) → room_number c c ≡ 0
room-just c = (room-exactly c c).2.1 (record { knots = omega arith; xs = omega arith; ys = omega arith })

module _ (m : ℕ) (c : Lists) (v : ℕ) where
  -- one insertion: the chain of its tests alone
  pub own-judged : Passes m c.knots c.xs c.ys → own_number m c v ≡ insertable_then m c v 0
  own-judged passes = number_passed m c v (inserted m c v) passes ∙ ap (insertable_then m c v) (room-just (inserted m c v))

  pub accepted-next : (next : ℕ) → Passes m c.knots c.xs c.ys → own_number m c v ≡ 0 → insertable_then m c v next ≡ next
  accepted-next next passes e = sym (judged-passed m c v next (sym (own-judged passes) ∙ e))

  pub refused-next : (next : ℕ) → Passes m c.knots c.xs c.ys → (own_number m c v ≡ 0 → ⊥) → insertable_then m c v next ≡ own_number m c v
  refused-next next passes n = sym (judged-refused m c v next (λ e. n (own-judged passes ∙ e))) ∙ sym (own-judged passes)

-- nothing to insert
none-accept : (m : ℕ) (c : Lists) → AcceptsEach m [] c
none-accept m c [] v later e = absurd (omega (arith, ap length e))
none-accept m c (u ∷ before) v later e = absurd (omega (arith, ap length e))

-- values that are accepted are passed over
pub passed_over : (m : ℕ) (vs rest : List ℕ) (c : Lists) (next : ℕ) → Passes m c.knots c.xs c.ys → AcceptsEach m vs c
    → insertable_each_then m (vs ++ rest) c next ≡ insertable_each_then m rest (inserted_each m vs c) next
unfolding insertable_each_then inserted_each
passed_over m [] rest c next passes each = refl
passed_over m (v ∷ vs) rest c next passes each =
    let here = first-accepts m v vs c each in
    accepted-next m c v (insertable_each_then m (vs ++ rest) (inserted m c v) next) passes here
    ∙ passed_over m vs rest (inserted m c v) next (one_passes m c v here) (others-accept m v vs c each)

pub all-judged : (m : ℕ) (vs : List ℕ) (c : Lists) (next : ℕ) → Passes m c.knots c.xs c.ys → AcceptsEach m vs c → insertable_each_then m vs c next ≡ next
unfolding insertable_each_then
all-judged m vs c next passes each = sym (ap (λ (l : List ℕ). insertable_each_then m l c next) (append-nil vs)) ∙ passed_over m vs [] c next passes each

-- number 0: every value is accepted
pub accepts-of-judged : (m : ℕ) (vs : List ℕ) (c : Lists) → Passes m c.knots c.xs c.ys → insertable_each_then m vs c 0 ≡ 0 → AcceptsEach m vs c
unfolding insertable_each_then
accepts-of-judged m [] c passes h = none-accept m c
accepts-of-judged m (v ∷ vs) c passes h =
    let rest = insertable_each_then m vs (inserted m c v) 0 in
    let others = accepts-of-judged m vs (inserted m c v) in
    elim (ℕ_discrete (own_number m c v) 0) [
      | yes here ↦ all-accept m v vs c here (others (one_passes m c v here) (sym (accepted-next m c v rest passes here) ∙ h))
      | no n ↦ absurd (n (sym (refused-next m c v rest passes n) ∙ h))
    ]

-- another number: it is that of the first value that is not
pub first-of-judged : (m : ℕ) (vs : List ℕ) (c : Lists) (n : ℕ) → 0 < n → Passes m c.knots c.xs c.ys → insertable_each_then m vs c 0 ≡ n
    → FirstFailing m vs c (λ d v. own_number m d v ≡ n)
unfolding insertable_each_then inserted_each
first-of-judged m [] c n some passes h = absurd (omega arith)
first-of-judged m (v ∷ vs) c n some passes h =
    let rest = insertable_each_then m vs (inserted m c v) 0 in
    let others = first-of-judged m vs (inserted m c v) n some in
    elim (ℕ_discrete (own_number m c v) 0) [
      | yes here ↦
          let f = others (one_passes m c v here) (sym (accepted-next m c v rest passes here) ∙ h) in
          record {
            before = v ∷ f.before;
            value = f.value;
            later = f.later;
            parted = ap (λ (l : List ℕ). v ∷ l) f.parted;
            accepts = all-accept m v f.before c here f.accepts;
            fails = f.fails;
          }
      | no other ↦
          record {
            before = [];
            value = v;
            later = vs;
            parted = refl;
            accepts = none-accept m c;
            fails = sym (refused-next m c v rest passes other) ∙ h;
          }
    ]

-- the number of cutting: the check's own where it refuses, else what is judged of the insertions
module _ (m : ℕ) (c : Lists) where
  pub cut-refused : (check_number m c.knots c.xs c.ys ≡ accepted → ⊥) → cut_number m c ≡ check_number m c.knots c.xs c.ys
  unfolding cut_then
  cut-refused n = checked_then-refused m c.knots c.xs c.ys (insertable_each_then m (cuts m c) c accepted) n

  pub cut-judged : Passes m c.knots c.xs c.ys → cut_number m c ≡ insertable_each_then m (cuts m c) c accepted
  unfolding cut_then
  cut-judged passes = checked_then-passed m c.knots c.xs c.ys (insertable_each_then m (cuts m c) c accepted) passes

  pub passes-of-cut : cut_number m c ≡ accepted → Passes m c.knots c.xs c.ys
  passes-of-cut h =
      elim (ℕ_discrete (check_number m c.knots c.xs c.ys) 0) [
        | yes passes ↦ passes
        | no n ↦ absurd (n (sym (cut-refused n) ∙ h))
      ]

  pub accepts-of-cut : cut_number m c ≡ accepted → AcceptsEach m (cuts m c) c
  accepts-of-cut h =
      let passes = passes-of-cut h in
      accepts-of-judged m (cuts m c) c passes (sym (cut-judged passes) ∙ h)

  pub cut_keeps : cut_number m c ≡ accepted → Kept m c (cut m c)
  cut_keeps h = each_keeps m (cuts m c) c (passes-of-cut h) (accepts-of-cut h)
