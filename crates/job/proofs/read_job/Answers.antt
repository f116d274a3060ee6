-- Sound bytes are the job of the lists in them, others are nobody's.
use Rattle.std.proofs.Common.{rules, ◌≡◌, Ok, length, ◌+◌, ◌*◌, ◌≤◌}
use mathlib.Core.Path.{sym, ap, ◌∙◌}
use native.Mathlib.Omega.{arith}
use borrow.Author.Tests.{leb-true}
use Rattle.refusal.proofs.AnswerLaws.{required-passed}
use Rattle.fields.specs.Bytes.{Octets}
use Rattle.grid.specs.Limits.{clamps_most}
use Rattle.grid.specs.Rows.{radius_ok}
use Rattle.layout.specs.Judging.{record_layout}
use Rattle.layout.proofs.SplitLaws.{Within, layout-within}
use Rattle.clamps.specs.Clamp.{clamp_sides, clamp_field_bytes}
use Rattle.job.specs.JobJudging.{clamps_start, job_layout}
use Rattle.job.proofs.JobLayoutLaws.{job-joined, job-run, job-few}
use Rattle.job.proofs.JobFaultLaws.{job-fault}
use Rattle.job.proofs.JobReadLaws.{broken_read, read_unchecked, read_wide, read_crossed, read_crowded, read_cramped, read_done}
use Rattle.job.proofs.read_job.Goals.{In_ok-layout}
use Rattle.job.proofs.read_job.Goals as goal

octets_in : (c : In_ok-layout) → Octets c.args.bytes.now
octets_in c = λ i. (c.type_inv.bytes i).fits

known : (c : In_ok-layout) → job_layout c.args.bytes.now ≡ Ok c.in_ok-layout.layout
known c = sym c.in_ok-layout.ensures.answer

-- the fields stand within the bytes, up to their end
record Bounds (c : In_ok-layout) : Type 0 where
  laid : record_layout c.args.bytes.now ≡ Ok c.in_ok-layout.layout.curve
  within : Within c.in_ok-layout.layout.curve.knots c.in_ok-layout.layout.curve.xs c.in_ok-layout.layout.curve.ys
  ends : clamps_start c.in_ok-layout.layout.curve.knots c.in_ok-layout.layout.curve.xs c.in_ok-layout.layout.curve.ys
      + clamp_field_bytes * c.in_ok-layout.layout.clamps ≡ length c.args.bytes.now
  few : c.in_ok-layout.layout.clamps ≤ clamps_most

bounds : (c : In_ok-layout) → Bounds c
bounds c =
    let l = c.in_ok-layout.layout in
    let bytes = c.args.bytes.now in
    let laid = (job-joined l.curve.knots l.curve.xs l.curve.ys l.clamps bytes (known c)).curve in
    record {
      laid = laid;
      within = layout-within bytes l.curve.knots l.curve.xs l.curve.ys laid;
      ends = (job-run bytes (octets_in c) l.curve.knots l.curve.xs l.curve.ys l.clamps (known c)).ends;
      few = job-few bytes (octets_in c) l.curve.knots l.curve.xs l.curve.ys l.clamps (known c);
    }

pub returns-in_err-layout : goal.returns-in_err-layout
returns-in_err-layout c = record {
  answer = broken_read c.args.bytes.now _ _ c.in_err-layout.field-0.0 (job-fault c.args.bytes.now (λ i. (c.type_inv.bytes i).fits) c.in_err-layout.field-0.0 (search rules)) _ (search rules);
}

pub invariant_of-stored : goal.invariant_of-stored
invariant_of-stored c = record { sound = (bounds (goal.at.invariant_of-stored c).In_ok-layout).laid }

pub overflow_add-end : goal.overflow_add-end
overflow_add-end c = omega (arith, bounds (goal.at.overflow_add-end c).In_ok-layout)

pub overflow_add-end-2 : goal.overflow_add-end-2
overflow_add-end-2 c = omega (arith, bounds (goal.at.overflow_add-end-2 c).In_ok-layout)

pub overflow_add-end-3 : goal.overflow_add-end-3
overflow_add-end-3 c = omega (arith, bounds (goal.at.overflow_add-end-3 c).In_ok-layout)

pub radius_in-radius-requires : goal.radius_in-radius-requires
radius_in-radius-requires c = omega (arith, bounds (goal.at.radius_in-radius-requires c).In_ok-layout)

pub overflow_add-start : goal.overflow_add-start
overflow_add-start c = omega (arith, bounds (goal.at.overflow_add-start c).In_ok-layout)

pub clamps_ok-requires : goal.clamps_ok-requires
clamps_ok-requires c = omega (arith, bounds (goal.at.clamps_ok-requires c).In_ok-layout)

pub overflow_mul-count : goal.overflow_mul-count
overflow_mul-count c = omega (arith, bounds (goal.at.overflow_mul-count c).In_ok-layout)

pub read_clamps-requires : goal.read_clamps-requires
read_clamps-requires c =
    let room = leb-true (clamp_sides * c.in_ok-layout.layout.clamps) (length c.args.clamps.now) (required-passed _ _ _ c.in_ok-require-3.ensures.answer) in
    omega (arith, bounds (goal.at.read_clamps-requires c).In_ok-layout, room)

pub returns-in_err-curve_number : goal.returns-in_err-curve_number
returns-in_err-curve_number c = record {
  answer = let l = c.in_ok-layout.layout in
      read_unchecked c.args.bytes.now (octets_in (goal.at.returns-in_err-curve_number c).In_ok-layout) _ _ l.curve.knots l.curve.xs l.curve.ys l.clamps (known (goal.at.returns-in_err-curve_number c).In_ok-layout)
      _ c.in_err-curve_number.field-0.0 (search rules) (search rules);
}

pub returns-in_err-require : goal.returns-in_err-require
returns-in_err-require c = record {
  answer = let l = c.in_ok-layout.layout in
      read_wide c.args.bytes.now (octets_in (goal.at.returns-in_err-require c).In_ok-layout) _ _ l.curve.knots l.curve.xs l.curve.ys l.clamps (known (goal.at.returns-in_err-require c).In_ok-layout)
      (search rules) _ c.in_err-require.field-0.0 (search rules) c.radius_ok.result (c.radius_ok.ensures.answer ∙ ap radius_ok c.radius_in-radius.ensures.answer)
      c.in_err-require.ensures.answer;
}

pub returns-in_err-require-2 : goal.returns-in_err-require-2
returns-in_err-require-2 c = record {
  answer = let l = c.in_ok-layout.layout in
      let told = c.radius_ok.ensures.answer ∙ ap radius_ok c.radius_in-radius.ensures.answer in
      read_crossed c.args.bytes.now (octets_in (goal.at.returns-in_err-require-2 c).In_ok-layout) _ _ l.curve.knots l.curve.xs l.curve.ys l.clamps (known (goal.at.returns-in_err-require-2 c).In_ok-layout)
      (search rules) (sym told ∙ required-passed _ _ _ c.in_ok-require.ensures.answer) _ c.in_err-require-2.field-0.0 (search rules)
      c.clamps_ok.result c.clamps_ok.ensures.answer c.in_err-require-2.ensures.answer;
}

pub returns-in_err-require-3 : goal.returns-in_err-require-3
returns-in_err-require-3 c = record {
  answer = let l = c.in_ok-layout.layout in
      let told = c.radius_ok.ensures.answer ∙ ap radius_ok c.radius_in-radius.ensures.answer in
      read_crowded c.args.bytes.now (octets_in (goal.at.returns-in_err-require-3 c).In_ok-layout) _ _ l.curve.knots l.curve.xs l.curve.ys l.clamps (known (goal.at.returns-in_err-require-3 c).In_ok-layout)
      (search rules) (sym told ∙ required-passed _ _ _ c.in_ok-require.ensures.answer)
      (sym c.clamps_ok.ensures.answer ∙ required-passed _ _ _ c.in_ok-require-2.ensures.answer) _ c.in_err-require-3.field-0.0 (search rules)
      c.in_err-require-3.ensures.answer;
}

pub returns-in_err-hand_over : goal.returns-in_err-hand_over
returns-in_err-hand_over c = record {
  answer = let l = c.in_ok-layout.layout in
      let told = c.radius_ok.ensures.answer ∙ ap radius_ok c.radius_in-radius.ensures.answer in
      read_cramped c.args.bytes.now (octets_in (goal.at.returns-in_err-hand_over c).In_ok-layout) _ _ l.curve.knots l.curve.xs l.curve.ys l.clamps (known (goal.at.returns-in_err-hand_over c).In_ok-layout)
      (search rules) (sym told ∙ required-passed _ _ _ c.in_ok-require.ensures.answer)
      (sym c.clamps_ok.ensures.answer ∙ required-passed _ _ _ c.in_ok-require-2.ensures.answer)
      (required-passed _ _ _ c.in_ok-require-3.ensures.answer) _ c.in_err-hand_over.field-0.0 (search rules) (search rules) _ c.in_err-hand_over.ensures.result;
}

pub returns : goal.returns
returns c = record {
  answer = let l = c.in_ok-layout.layout in
      let told = c.radius_ok.ensures.answer ∙ ap radius_ok c.radius_in-radius.ensures.answer in
      read_done c.args.bytes.now (octets_in (goal.at.returns c).In_ok-layout) _ _ l.curve.knots l.curve.xs l.curve.ys l.clamps (known (goal.at.returns c).In_ok-layout)
      (search rules) (sym told ∙ required-passed _ _ _ c.in_ok-require.ensures.answer)
      (sym c.clamps_ok.ensures.answer ∙ required-passed _ _ _ c.in_ok-require-2.ensures.answer)
      (required-passed _ _ _ c.in_ok-require-3.ensures.answer) (search rules) _ _ c.degree.ensures.answer c.radius_in-radius.ensures.answer
      _ c.in_ok-hand_over.ensures.result _ c.read_clamps.ensures.result;
}
