-- The points at an end when it is clamped (heading "Ends that are not clamped"): rows of weighted means, worked out in whole numbers. An end is read
-- inwards, so that the start and the end of a curve are told by the same words.
use Rattle.std.specs.Prelude.{ℕ, zero, suc, ◌+◌, ◌-◌, ◌*◌, ℤ, pos, ◌+ℤ◌, ◌*ℤ◌, length, get_or, List}
use Rattle.insertion.specs.Insertion.{point_at}
use Rattle.clamping.specs.declared.Share.{Share}

abbrev pub whole : ℤ → Share  -- z / 1
whole z = record { upper = z; lower = 1 }

-- (d·a + e·b) / (d + e)
unfoldable pub mean : ℕ → Share → ℕ → Share → Share
mean d a e b =
    record {
      upper = pos (d * b.lower) *ℤ a.upper +ℤ pos (e * a.lower) *ℤ b.upper;
      lower = (d + e) * (a.lower * b.lower);
    }

-- an end of one axis, read inwards from it
pub record End : Type 0 where
  pub inside : ℕ → ℕ  -- how far the k-th knot inside lies from the end of the domain, and how far the k-th one outside
  pub outside : ℕ → ℕ
  pub point : ℕ → ℤ  -- the k-th point

-- entry k of row r: row 0 is the points, and each further row takes means of neighbours
unfoldable pub end_row : End → ℕ → ℕ → ℕ → Share
end_row end m zero k = whole (end.point k)
end_row end m (suc r) k = mean (end.inside (k + 1)) (end_row end m r k) (end.outside (m - k - r - 1)) (end_row end m r (k + 1))

abbrev pub end_number : End → ℕ → ℕ → Share  -- the k-th point of the clamped end: from the m-th on the old one
end_number end m k = end_row end m (m - 1 - k) k

-- the start of a curve with `count` points, whose domain begins at t_m, and its end at t_count
abbrev pub start_of : ℕ → List ℕ → List ℤ → End
start_of m ts ps =
    record {
      inside = λ k. get_or ts (m + k) 0 - get_or ts m 0;
      outside = λ k. get_or ts m 0 - get_or ts (m - k) 0;
      point = λ k. point_at ps k;
    }

abbrev pub finish_of : List ℕ → List ℤ → End
finish_of ts ps =
    record {
      inside = λ k. get_or ts (length ps) 0 - get_or ts (length ps - k) 0;
      outside = λ k. get_or ts (length ps + k) 0 - get_or ts (length ps) 0;
      point = λ k. point_at ps (length ps - 1 - k);
    }
