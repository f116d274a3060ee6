-- The check's answer, row by row: the tests before a row passed, and its own failed.
use mathlib.Core.Bool.{true, false, cond}
use mathlib.Core.List.{List}
use mathlib.Core.Path.{◌≡◌, refl}
use Prim.Native.Nat.{ℕ, ◌≤◌}
use lib.Dec.{eqb, lit≤}
use lib.IntN.{ℤ}
use Rattle.refusal.proofs.JudgingLaws.{unless-accepted, unless-split, unless-all}
use Rattle.refusal.specs.Numbers.{accepted, degree_refused, point_count_refused, knot_count_refused, knot_order_refused, ends_refused, repeats_refused, range_refused}
use Rattle.grid.specs.Rows.{degree_ok, point_count_ok, knot_count_ok, knot_order_ok, ends_ok, repeats_ok, range_ok}
use Rattle.grid.specs.Check.{checked_then, check_number, Passes}

-- all seven tests of a curve
pub record TestsPass (m : ℕ) (ts : List ℕ) (xs ys : List ℤ) : Type 0 where
  pub degree : degree_ok m ≡ true
  pub points : point_count_ok m xs ys ≡ true
  pub knots : knot_count_ok m ts xs ≡ true
  pub order : knot_order_ok ts ≡ true
  pub ends : ends_ok m ts ≡ true
  pub repeats : repeats_ok m ts ≡ true
  pub range : range_ok xs ys ≡ true

module _ (m : ℕ) (ts : List ℕ) (xs ys : List ℤ) where
  -- the first test that fails gives the number
  pub check-degree : degree_ok m ≡ false → degree_refused ≡ check_number m ts xs ys
  unfolding check_number checked_then
  check-degree p = rw p

  module _ (p : degree_ok m ≡ true) where
    pub check-points : point_count_ok m xs ys ≡ false → point_count_refused ≡ check_number m ts xs ys
    unfolding check_number checked_then
    check-points q = rw (p, q)

    module _ (q : point_count_ok m xs ys ≡ true) where
      pub check-knots : knot_count_ok m ts xs ≡ false → knot_count_refused ≡ check_number m ts xs ys
      unfolding check_number checked_then
      check-knots r = rw (p, q, r)

      module _ (r : knot_count_ok m ts xs ≡ true) where
        pub check-order : knot_order_ok ts ≡ false → knot_order_refused ≡ check_number m ts xs ys
        unfolding check_number checked_then
        check-order s = rw (p, q, r, s)

        module _ (s : knot_order_ok ts ≡ true) where
          pub check-ends : ends_ok m ts ≡ false → ends_refused ≡ check_number m ts xs ys
          unfolding check_number checked_then
          check-ends t = rw (p, q, r, s, t)

          module _ (t : ends_ok m ts ≡ true) where
            pub check-repeats : repeats_ok m ts ≡ false → repeats_refused ≡ check_number m ts xs ys
            unfolding check_number checked_then
            check-repeats u = rw (p, q, r, s, t, u)

            module _ (u : repeats_ok m ts ≡ true) where
              pub check-range : range_ok xs ys ≡ false → range_refused ≡ check_number m ts xs ys
              unfolding check_number checked_then
              check-range v = rw (p, q, r, s, t, u, v)

              module _ (v : range_ok xs ys ≡ true) where
                -- none fails
                pub check-accepts : accepted ≡ check_number m ts xs ys
                unfolding check_number checked_then
                check-accepts = rw (p, q, r, s, t, u, v)

  -- what is judged after the check is judged exactly where the check refuses nothing
  pub checked_then-split : (next : ℕ) → checked_then m ts xs ys next ≡ cond (eqb (check_number m ts xs ys) 0) next (check_number m ts xs ys)
  unfolding check_number checked_then
  checked_then-split next =
      unless-split (degree_ok m) 0 next _ _
      (unless-split (point_count_ok m xs ys) 1 next _ _
      (unless-split (knot_count_ok m ts xs) 2 next _ _
      (unless-split (knot_order_ok ts) 3 next _ _
      (unless-split (ends_ok m ts) 4 next _ _
      (unless-split (repeats_ok m ts) 5 next _ _
      (unless-split (range_ok xs ys) 6 next next 0 refl))))))

  abbrev few : ℕ → Type 0
  few n = n ≤ range_refused

  -- the answer is 0 or one of 1 to 7
  pub check_number-most : check_number m ts xs ys ≤ range_refused
  unfolding check_number checked_then
  check_number-most =
      unless-all few (degree_ok m) 1 _ (lit≤ tt)
      (unless-all few (point_count_ok m xs ys) 2 _ (lit≤ tt)
      (unless-all few (knot_count_ok m ts xs) 3 _ (lit≤ tt)
      (unless-all few (knot_order_ok ts) 4 _ (lit≤ tt)
      (unless-all few (ends_ok m ts) 5 _ (lit≤ tt)
      (unless-all few (repeats_ok m ts) 6 _ (lit≤ tt)
      (unless-all few (range_ok xs ys) 7 0 (lit≤ tt) (lit≤ tt)))))))

  -- what every test says where the check refuses nothing
  pub passes-tests : Passes m ts xs ys → TestsPass m ts xs ys
  unfolding check_number checked_then
  passes-tests h =
      let a = unless-accepted (degree_ok m) 0 _ h in
      let b = unless-accepted (point_count_ok m xs ys) 1 _ a.1 in
      let c = unless-accepted (knot_count_ok m ts xs) 2 _ b.1 in
      let d = unless-accepted (knot_order_ok ts) 3 _ c.1 in
      let e = unless-accepted (ends_ok m ts) 4 _ d.1 in
      let f = unless-accepted (repeats_ok m ts) 5 _ e.1 in
      let g = unless-accepted (range_ok xs ys) 6 _ f.1 in
      record { degree = a.0; points = b.0; knots = c.0; order = d.0; ends = e.0; repeats = f.0; range = g.0 }
