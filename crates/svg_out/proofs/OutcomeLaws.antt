-- What writing the path data over a curve's own pieces answers, way by way.
use mathlib.Core.List.{List}
use mathlib.Core.Path.{◌≡◌, sym, ◌∙◌}
use Prim.Native.Nat.{ℕ, ◌≤◌, ◌<◌}
use native.Mathlib.Omega.{arith}
use lib.ListN.{length}
use borrow.Author.Tests.{ne_eqb, le-leb, lt-leb}
use Rattle.std.specs.Prelude.{Ok, Err}
use Rattle.refusal.specs.Numbers.{accepted}
use Rattle.refusal.specs.Answers.{number_of}
use Rattle.refusal.specs.declared.Refusal.{Refusal}
use Rattle.refusal.specs.declared.Refusal.TheVariants.{Room}
use Rattle.refusal.proofs.AnswerLaws.{refused-above_zero}
use Rattle.lent.specs.Lent.{over}
use Rattle.curve.specs.Lists.{Lists}
use Rattle.grid.specs.Check.{Passes}
use Rattle.grid.proofs.ThenLaws.{checked_then-passed}
use Rattle.cutting.specs.Cutting.{cuts, insertable_each_then, cut_then}
use Rattle.pieces.specs.Walk.{Refuses}
use Rattle.svg_out.specs.Svg.{pieces_text, TextOutcome}
use Rattle.svg_out.specs.Measure.{Measured, pieces_number, PiecesOutcome}

-- the answer and the list where a number refuses
pub refused-by : (judged : ℕ) (text out : List ℕ) (refusal : Refusal) → judged ≡ number_of refusal → TextOutcome judged text out (Err refusal) out
refused-by judged text out refusal e =
    let above = refused-above_zero refusal in
    record { answers = (sym e, tt); hands = rw (e, ne_eqb (number_of refusal) 0 (λ z. omega (arith, above, z))) }

module _ (m : ℕ) (c : Lists) (out : List ℕ) (passes : Passes m c.knots c.xs c.ys) where
  -- an insertion is refused
  pub insertion-refuses : (refusal : Refusal) → Refuses m c refusal → PiecesOutcome m c out (Err refusal) out
  unfolding cut_then
  insertion-refuses refusal r =
      refused-by _ (pieces_text m c) out refusal (checked_then-passed m c.knots c.xs c.ys _ passes ∙ r.number _)

  module _ (n : ℕ) (measured : Measured m c n) where
    -- the list is too short
    pub room-refuses : length out < n → PiecesOutcome m c out (Err Room) out
    unfolding cut_then
    room-refuses h =
        let short = lt-leb (length (pieces_text m c)) (length out) (omega (arith, measured.length)) in
        refused-by _ (pieces_text m c) out Room (checked_then-passed m c.knots c.xs c.ys _ passes ∙ measured.passed _ ∙ rw short)

    -- the text is written
    room-is : n ≤ length out → length (pieces_text m c) ≤ length out
    room-is h = omega (arith, measured.length)

    done : n ≤ length out → pieces_number m c out ≡ accepted
    unfolding cut_then
    done h =
        let enough = le-leb (length (pieces_text m c)) (length out) (room-is h) in
        checked_then-passed m c.knots c.xs c.ys _ passes ∙ measured.passed _ ∙ rw enough

    pub text-fits : n ≤ length out → (insertable_each_then m (cuts m c) c accepted ≡ accepted) × (length (pieces_text m c) ≤ length out)
    text-fits h = (measured.passed accepted, room-is h)

    pub text-written : (now : List ℕ) → n ≤ length out → now ≡ over (pieces_text m c) out → PiecesOutcome m c out (Ok n) now
    text-written now h e = record { answers = (sym (done h), measured.length); hands = rw (done h) e }
