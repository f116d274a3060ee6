-- The number that the curve check answers (heading "Numbers of refusal"): the lowest of 1 to 7 that applies, or 0.
use Rattle.std.specs.Prelude.{List, ◌≡◌, ℕ, ℤ}
use Rattle.refusal.specs.Judging.{unless}
use Rattle.refusal.specs.Numbers.{accepted, degree_refused, point_count_refused, knot_count_refused, knot_order_refused, ends_refused, repeats_refused, range_refused}
use Rattle.grid.specs.Rows.{degree_ok, point_count_ok, knot_count_ok, knot_order_ok, ends_ok, repeats_ok, range_ok}

-- 1 to 7 in this order, then `next`: what a call judges after the curve itself
unfoldable pub checked_then : ℕ → List ℕ → List ℤ → List ℤ → ℕ → ℕ
checked_then m ts xs ys next =
    unless (degree_ok m) degree_refused
    (unless (point_count_ok m xs ys) point_count_refused
    (unless (knot_count_ok m ts xs) knot_count_refused
    (unless (knot_order_ok ts) knot_order_refused
    (unless (ends_ok m ts) ends_refused
    (unless (repeats_ok m ts) repeats_refused (unless (range_ok xs ys) range_refused next))))))

unfoldable pub check_number : ℕ → List ℕ → List ℤ → List ℤ → ℕ  -- the check's answer
check_number m ts xs ys = checked_then m ts xs ys accepted

abbrev pub Passes : ℕ → List ℕ → List ℤ → List ℤ → Type 0  -- the curve passes the check
Passes m ts xs ys = check_number m ts xs ys ≡ accepted
