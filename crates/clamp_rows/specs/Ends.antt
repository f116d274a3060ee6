-- The end that was gathered (heading "Ends that are not clamped"), and that it is the one which stands there.
use Rattle.std.specs.Prelude.{◌≡◌, ℕ, ◌+◌, ◌-◌, ◌<◌, get_or}
use Rattle.insertion.specs.Insertion.{point_at}
use Rattle.clamping.specs.EndRows.{End}
use Rattle.clamp_rows.specs.declared.ends.NearEnd.{NearEnd}

-- the end that was gathered
abbrev pub as_end : NearEnd → End
as_end e =
    record {
      inside = λ k. get_or e.inside (k - 1) 0;
      outside = λ k. get_or e.outside (k - 1) 0;
      point = λ k. point_at e.point k;
    }

-- it is what stands at this end
pub record Gathered (e : NearEnd) (end : End) : Type 0 where
  pub inside : (k : ℕ) → k < 2 → get_or e.inside k 0 ≡ end.inside (k + 1)
  pub outside : (k : ℕ) → k < 2 → get_or e.outside k 0 ≡ end.outside (k + 1)
  pub point : (k : ℕ) → k < 3 → point_at e.point k ≡ end.point k
