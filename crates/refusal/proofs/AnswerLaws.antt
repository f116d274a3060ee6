-- What a call answers by its number: a refusal has one number and no other refusal has it, so number and value fix the answer.
use Rattle.std.specs.Prelude.{Bool, true, false, List, [], ◌∷◌, Result, Ok, Err, ◌≡◌, ℕ, ◌<◌, get_or}
use mathlib.Core.Path.{refl, sym, ap, ◌∙◌}
use native.Mathlib.Omega.{arith}
use Rattle.std.proofs.Common.{rules}
use Rattle.refusal.specs.Numbers.{accepted}
use Rattle.refusal.specs.Answers.{number_of, number_in, Answers, required}
use Rattle.refusal.specs.declared.Refusal.{Refusal}
use Rattle.refusal.specs.declared.Refusal.TheVariants.{Degree, PointCount, KnotCount, KnotOrder, Ends, Repeats, Range, Parameter, Insertion, Full, NotWhole, NotInner, NotRemovable, Rectangle, Room, Ended, SplinePoints, JoinedRange, Tag, Length, LeftOver, Radius, Unclamp}

-- the refusal with a number; which one stands for a number that none has does not matter
refusal_with : ℕ → Refusal
refusal_with n = get_or (Degree ∷ Degree ∷ PointCount ∷ KnotCount ∷ KnotOrder ∷ Ends ∷ Repeats ∷ Range ∷ Parameter ∷ Insertion ∷ Full ∷ NotWhole ∷ NotInner ∷ NotRemovable ∷ Rectangle ∷ Room ∷ Ended ∷ SplinePoints ∷ JoinedRange ∷ Tag ∷ Length ∷ LeftOver ∷ Radius ∷ Unclamp ∷ []) n Degree

has_number : (e : Refusal) → refusal_with (number_of e) ≡ e
unfolding refusal_with
has_number Degree = refl
has_number PointCount = refl
has_number KnotCount = refl
has_number KnotOrder = refl
has_number Ends = refl
has_number Repeats = refl
has_number Range = refl
has_number Parameter = refl
has_number Insertion = refl
has_number Full = refl
has_number NotWhole = refl
has_number NotInner = refl
has_number NotRemovable = refl
has_number Rectangle = refl
has_number Room = refl
has_number Ended = refl
has_number SplinePoints = refl
has_number JoinedRange = refl
has_number Tag = refl
has_number Length = refl
has_number LeftOver = refl
has_number Radius = refl
has_number Unclamp = refl

-- no two refusals have one number
pub one_number-one_refusal : (a b : Refusal) → number_of a ≡ number_of b → a ≡ b
one_number-one_refusal a b h = sym (has_number a) ∙ ap refusal_with h ∙ has_number b

-- none has the number of an answer
pub refused-above_zero : (e : Refusal) → 0 < number_of e
refused-above_zero Degree = omega arith
refused-above_zero PointCount = omega arith
refused-above_zero KnotCount = omega arith
refused-above_zero KnotOrder = omega arith
refused-above_zero Ends = omega arith
refused-above_zero Repeats = omega arith
refused-above_zero Range = omega arith
refused-above_zero Parameter = omega arith
refused-above_zero Insertion = omega arith
refused-above_zero Full = omega arith
refused-above_zero NotWhole = omega arith
refused-above_zero NotInner = omega arith
refused-above_zero NotRemovable = omega arith
refused-above_zero Rectangle = omega arith
refused-above_zero Room = omega arith
refused-above_zero Ended = omega arith
refused-above_zero SplinePoints = omega arith
refused-above_zero JoinedRange = omega arith
refused-above_zero Tag = omega arith
refused-above_zero Length = omega arith
refused-above_zero LeftOver = omega arith
refused-above_zero Radius = omega arith
refused-above_zero Unclamp = omega arith

-- number 0: the answer is the value
pub answers-value : {A : Type 0} (number : ℕ) (value : A) (answer : Result A Refusal) → Answers number value answer → number ≡ 0 → answer ≡ Ok value
answers-value number value (Ok x) h z = ap Ok h.1
answers-value number value (Err e) h z = let above : 0 < number_of e = refused-above_zero e in absurd (omega (arith, h.0))

-- another number: it is the answer's, and there is no value
pub answers-refusal : {A : Type 0} (number : ℕ) (value : A) (answer : Result A Refusal) → (number ≡ 0 → ⊥) → number_in answer ≡ number → Answers number value answer
answers-refusal number value (Ok x) h e = absurd (h (sym e))
answers-refusal number value (Err e) h k = (k, tt)

-- number and value fix the answer
pub answers-one : {A : Type 0} (number : ℕ) (value : A) (a b : Result A Refusal) → Answers number value a → Answers number value b → a ≡ b
answers-one number value (Ok x) (Ok y) h k = ap Ok (h.1 ∙ sym k.1)
answers-one number value (Ok x) (Err e) h k = let above : 0 < number_of e = refused-above_zero e in absurd (omega (arith, h.0, k.0))
answers-one number value (Err e) (Ok x) h k = let above : 0 < number_of e = refused-above_zero e in absurd (omega (arith, h.0, k.0))
answers-one number value (Err d) (Err e) h k = ap Err (one_number-one_refusal d e (h.0 ∙ sym k.0))

-- a test that is asked for has passed where no refusal came of it
pub required-passed : (fine : Bool) (refusal : Refusal) (x : Unit {0}) → Ok x ≡ required fine refusal → fine ≡ true
required-passed true refusal x h = refl
required-passed false refusal x h =
    let e : accepted ≡ number_of refusal = ap number_in h in
    let above : 0 < number_of refusal = refused-above_zero refusal in absurd (omega arith)

-- a refusal that came of it is the one that it stands for, and the test has failed
pub not-required : (fine : Bool) (refusal e : Refusal) → Err e ≡ required fine refusal → (fine ≡ false) × (e ≡ refusal)
not-required false refusal e h = search rules
not-required true refusal e h = search rules
