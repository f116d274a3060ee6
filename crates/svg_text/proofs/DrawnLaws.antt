-- The text of a curve, from what writing its path data answers: in a list with a place more than the longest text 15 is never given.
use mathlib.Core.List.{List, ◌++◌}
use mathlib.Core.Path.{◌≡◌, sym, ap, subst, ◌∙◌}
use Prim.Native.Nat.{ℕ, ◌+◌, ◌≤◌, ◌<◌}
use native.Mathlib.Decide.{ℕ_discrete}
use native.Mathlib.Omega.{arith}
use lib.ListN.{length, length-append}
use borrow.Author.Tests.{ne_eqb, le-leb}
use Rattle.std.specs.Prelude.{Ok, Err}
use Rattle.refusal.specs.Answers.{number_of}
use Rattle.refusal.specs.declared.Refusal.{Refusal}
use Rattle.refusal.proofs.AnswerLaws.{refused-above_zero}
use Rattle.refusal.specs.Judging.{unless}
use Rattle.refusal.specs.Numbers.{accepted, room_refused}
use Rattle.curve.specs.Lists.{Lists}
use Rattle.grid.specs.Limits.{svg_most}
use Rattle.digits.specs.Put.{Put}
use Rattle.digits.proofs.PutLaws.{two-second, two-joined}
use Rattle.lines.specs.Lines.{line_end, refused_line}
use Rattle.svg_out.specs.Svg.{svg_text, draw_then, draw_number, fitting, svg_number, SvgOutcome}
use Rattle.svg_whole.proofs.DrawLaws.{draw-refused}
use Rattle.svg_whole.proofs.TextLaws.{svg-within-most}
use Rattle.svg_text.specs.Text.{drawn_text}

module _ (m : ℕ) (c : Lists) where
  -- the text of each of both
  pub drawn : draw_number m c ≡ accepted → drawn_text m c ≡ svg_text m c ++ line_end
  unfolding drawn_text
  drawn none = rw none

  module _ (out : List ℕ) (room : svg_most < length out) where
    -- so the number is that of clamping and cutting
    number_same : svg_number m c out ≡ draw_number m c
    unfolding svg_number
    number_same =
        elim (ℕ_discrete (draw_number m c) 0) [
          | yes none ↦
              let fits = le-leb (length (svg_text m c)) (length out) (omega (arith, svg-within-most m c none, room)) in
              ap (λ b. draw_then m c (unless b room_refused accepted)) fits
          | no refused ↦ draw-refused m c (fitting (svg_text m c) out) refused
        ]

    module _ (n : ℕ) (now : List ℕ) (w : SvgOutcome m c out (Ok n) now) where
      none-there : svg_number m c out ≡ 0
      none-there = sym w.answers.0

      none-refused : draw_number m c ≡ accepted
      none-refused = sym number_same ∙ none-there

      path-put : Put out 0 (svg_text m c) now n
      path-put =
          let front : 0 + length (svg_text m c) ≡ length (svg_text m c) = omega arith in
          record { holds = w.hands ∙ rw (none-there, front); place = omega (arith, w.answers.1) }

      both-fit : 0 + length (svg_text m c ++ line_end) ≤ length out
      both-fit = omega (arith, length-append (svg_text m c) line_end, svg-within-most m c none-refused, room)

      -- there is room for the newline, and both are the text
      pub newline-fits : n < length now
      newline-fits = omega (arith, two-second out 0 (svg_text m c) line_end both-fit path-put)

      pub drawn-put : (end : List ℕ) (r : ℕ) → Put now n line_end end r → Put out 0 (drawn_text m c) end r
      drawn-put end r put = rw (drawn none-refused) (two-joined out 0 (svg_text m c) line_end both-fit path-put put)

    module _ (refusal : Refusal) (now : List ℕ) (w : SvgOutcome m c out (Err refusal) now) where
      some-refused : svg_number m c out ≡ 0 → ⊥
      some-refused none = omega (arith, refused-above_zero refusal, w.answers.0, none)

      -- a refusal leaves the list as it was
      list-kept : now ≡ out
      list-kept = w.hands ∙ rw (ne_eqb (svg_number m c out) 0 some-refused)

      -- there is room for its line, and that is the text
      pub line-room : svg_most < length now
      line-room = omega (arith, room, ap length list-kept)

      line-drawn : drawn_text m c ≡ refused_line (number_of refusal)
      unfolding drawn_text
      line-drawn = rw (w.answers.0, sym number_same, ne_eqb (svg_number m c out) 0 some-refused)

      pub line-put : (end : List ℕ) (r : ℕ) → Put now 0 (refused_line (number_of refusal)) end r → Put out 0 (drawn_text m c) end r
      line-put end r put = rw line-drawn (subst (λ l. Put l 0 (refused_line (number_of refusal)) end r) list-kept put)
