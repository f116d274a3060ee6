-- Inserting the knot v (heading "Inserting and removing a knot"): the new knots, and the new coordinates of one axis.
-- `m` is the degree, `ts` the old knots, `ps` the old coordinates P_0..P_n of x or of y; i is the span with t_i ≤ v < t_{i+1}.
use Rattle.std.specs.Prelude.{Bool, true, cond, ◌&&◌, List, [], ◌∷◌, ◌++◌, ℕ, zero, suc, ◌+◌, ◌-◌, leb, ℤ, pos, ◌+ℤ◌, ◌-ℤ◌, ◌*ℤ◌, length, get_or}
use Rattle.std.specs.Int.Signed.{quot_z}
use Rattle.signed.specs.Division.{divides}
use Rattle.curve.specs.Lists.{Lists, lists}

unfoldable pub knots_up_to : ℕ → List ℕ → ℕ  -- how many knots stand before the first one above v
knots_up_to v [] = 0
knots_up_to v (t ∷ ts) = cond (leb t v) (suc (knots_up_to v ts)) 0

unfoldable pub insertion_span : List ℕ → ℕ → ℕ  -- the i with t_i ≤ v < t_{i+1}
insertion_span ts v = knots_up_to v ts - 1

unfoldable pub inserted_knots : List ℕ → ℕ → List ℕ  -- the old knots with v behind every knot up to it
inserted_knots [] v = v ∷ []
inserted_knots (t ∷ ts) v = cond (leb t v) (t ∷ inserted_knots ts v) (v ∷ t ∷ ts)

abbrev pub knot_at : List ℕ → ℕ → ℤ  -- t_j and P_j, as whole numbers
knot_at ts j = pos (get_or ts j 0)

abbrev pub point_at : List ℤ → ℕ → ℤ
point_at ps j = get_or ps j (pos 0)

unfoldable pub weighted_sum : ℕ → List ℕ → List ℤ → ℕ → ℕ → ℤ  -- above the line of Q_j: (v - t_j)·P_j + (t_{j+m} - v)·P_{j-1}
weighted_sum m ts ps v j =
    (pos v -ℤ knot_at ts j) *ℤ point_at ps j +ℤ (knot_at ts (j + m) -ℤ pos v) *ℤ point_at ps (j - 1)

unfoldable pub weight : ℕ → List ℕ → ℕ → ℤ  -- below the line of Q_j: t_{j+m} - t_j
weight m ts j = knot_at ts (j + m) -ℤ knot_at ts j

-- Q_j: P_j for j ≤ i-m, the quotient for j from i-m+1 to i, P_{j-1} from i+1 on
unfoldable pub inserted_point : ℕ → List ℕ → List ℤ → ℕ → ℕ → ℕ → ℤ
inserted_point m ts ps v i j =
    cond (leb (j + m) i) (point_at ps j)
    (cond (leb j i) (quot_z (weighted_sum m ts ps v j) (weight m ts j)) (point_at ps (j - 1)))

unfoldable pub entries {ℓ} : {A : Type ℓ} → (ℕ → A) → ℕ → List A  -- f 0, f 1, .., f (count - 1)
entries f zero = []
entries f (suc count) = entries f count ++ (f count ∷ [])

unfoldable pub inserted_points : ℕ → List ℕ → List ℤ → ℕ → List ℤ  -- Q_0..Q_{n+1}
inserted_points m ts ps v = entries (inserted_point m ts ps v (insertion_span ts v)) (length ps + 1)

abbrev pub inserted : ℕ → Lists → ℕ → Lists  -- the curve with v inserted: knots, x and y
inserted m c v =
    lists (inserted_knots c.knots v) (inserted_points m c.knots c.xs v) (inserted_points m c.knots c.ys v)

unfoldable pub whole_from : ℕ → List ℕ → List ℤ → ℕ → ℕ → ℕ → Bool  -- the quotients Q_j, Q_{j+1}, .., `count` of them, are whole
whole_from m ts ps v zero j = true
whole_from m ts ps v (suc count) j =
    divides (weight m ts j) (weighted_sum m ts ps v j) && whole_from m ts ps v count (j + 1)

unfoldable pub whole_points : ℕ → List ℕ → List ℤ → ℕ → Bool  -- the m quotients from Q_{i-m+1} to Q_i are whole
whole_points m ts ps v = whole_from m ts ps v m (insertion_span ts v + 1 - m)
