-- What a burst answers and leaves, by the length of the work list.
use Rattle.std.specs.Prelude.{Ok, Err}
use mathlib.Core.List.{List}
use mathlib.Core.Path.{◌≡◌, refl}
use Prim.Native.Nat.{ℕ, ◌<◌, ◌≤◌}
use lib.ListN.{length}
use borrow.Author.Tests.{le-leb, lt-leb}
use Rattle.lent.specs.Lent.{over}
use Rattle.refusal.specs.declared.Refusal.TheVariants.{Room}
use Rattle.grid.specs.Limits.{job_most}
use Rattle.keeping.specs.Kept.{kept_with, received_with}
use Rattle.feed.specs.Burst.{burst_answer, work_after}
use Rattle.feed.specs.declared.Feed.{Feed}

module _ (state : Feed) (burst work : List ℕ) where
  pub burst-refused : length work < job_most → (Err Room ≡ burst_answer state burst work) × (work ≡ work_after state burst work)
  burst-refused short = rw (lt-leb job_most (length work) short) (refl, refl)

  pub burst-taken : job_most ≤ length work
      → (Ok (record { received = received_with state.received burst work }) ≡ burst_answer state burst work)
      × (over (kept_with state.received burst work) work ≡ work_after state burst work)
  burst-taken long = rw (le-leb job_most (length work) long) (refl, refl)
