-- Sound bytes are a job, and others have their fault where judging finds it.
use Rattle.std.proofs.Common.{rules}
use mathlib.Core.Path.{sym}
use Rattle.job.specs.JobReading.{sound}
use Rattle.job.proofs.JobLayoutLaws.{job-of-sound}
use Rattle.job.proofs.JobFaultLaws.{judged_broken}
use Rattle.job.proofs.judge_job.Goals as goal

pub returns-in_err-job_layout : goal.returns-in_err-job_layout
returns-in_err-job_layout c = record {
  answer = judged_broken c.args.bytes.now (λ i. (c.type_inv.bytes i).fits) c.in_err-job_layout.field-0.0 (search rules) _ (search rules);
}

pub returns : goal.returns
returns c = record {
  answer = sound (job-of-sound c.args.bytes.now (λ i. (c.type_inv.bytes i).fits) _ _ _ _ (sym c.in_ok-job_layout.ensures.answer));
}
