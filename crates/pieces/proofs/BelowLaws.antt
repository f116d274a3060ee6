-- Values to insert further to the right are not below a span's low knot.
use mathlib.Core.Bool.{Bool, true, false, cond}
use mathlib.Core.List.{List, [], ◌∷◌, ◌++◌, append_assoc, append-nil}
use mathlib.Core.Path.{◌≡◌, sym, ap, ◌∙◌}
use Prim.Native.Nat.{ℕ, zero, suc, ◌+◌, ◌-◌, ◌≤◌, ◌<◌}
use native.Mathlib.Omega.{arith}
use lib.ListN.{length, get_or, replicate}
use Rattle.curve.specs.Lists.{NeverFall}
use Rattle.grid.specs.Rows.{occurrences}
use Rattle.span_walk.specs.SpansMet.{non_empty, high_knots}
use Rattle.cutting.specs.Cutting.{ends_from, lacking}
use Rattle.cutting.proofs.EachLaws.{ends_more}
use Rattle.pieces.proofs.StayLaws.{NoneBelow}

-- of one value many times, and of two lists behind one another
pub none-below-same : (u v n : ℕ) → u ≤ v → NoneBelow u (replicate n v)
none-below-same u v zero h x l = absurd (omega arith)
none-below-same u v (suc n) h zero l = h
none-below-same u v (suc n) h (suc x) l = none-below-same u v n h x (omega arith)

none-below-both : (u : ℕ) (vs ws : List ℕ) → NoneBelow u vs → NoneBelow u ws → NoneBelow u (vs ++ ws)
none-below-both u [] ws a b x l = b x l
none-below-both u (v ∷ vs) ws a b zero l = a 0 (omega arith)
none-below-both u (v ∷ vs) ws a b (suc x) l = none-below-both u vs ws (λ y h. a (suc y) (omega arith)) b x (omega arith)

pub none-below-lacking : (u m : ℕ) (ts vs : List ℕ) → NoneBelow u vs → NoneBelow u (lacking m ts vs)
unfolding lacking
none-below-lacking u m ts [] a = a
none-below-lacking u m ts (v ∷ vs) a =
    none-below-both u (replicate (m - occurrences v ts) v) (lacking m ts vs) (none-below-same u v (m - occurrences v ts) (a 0 (omega arith)))
    (none-below-lacking u m ts vs (λ x h. a (suc x) (omega arith)))

-- the end of one span, or nothing
high-above : (ts : List ℕ) (u i : ℕ) (b : Bool) → u ≤ get_or ts (i + 1) 0 → NoneBelow u (high_knots ts (cond b (i ∷ []) []))
unfolding high_knots
high-above ts u i true h zero l = h
high-above ts u i true h (suc x) l = absurd (omega arith)
high-above ts u i false h x l = absurd (omega arith)

-- the ends of more spans are those of fewer and then some that are not below the knot at j
pub record Split (ts : List ℕ) (m j n : ℕ) : Type 0 where
  pub rest : List ℕ
  pub parted : ends_from ts m (j + n - m) ≡ ends_from ts m (j - m) ++ rest
  pub above : NoneBelow (get_or ts j 0) rest

pub ends-split : (ts : List ℕ) (m j n : ℕ) → m ≤ j → NeverFall ts → j + n < length ts → Split ts m j n
ends-split ts m j zero h rises l =
    record {
      rest = [];
      parted = (let none : j + 0 ≡ j = omega arith in ap (λ x. ends_from ts m (x - m)) none ∙ sym (append-nil (ends_from ts m (j - m))));
      above = λ x k. absurd (omega arith);
    }
ends-split ts m j (suc n) h rises l =
    let before = ends-split ts m j n h rises (omega arith) in
    let next : j + suc n ≡ j + n + 1 = omega arith in
    record {
      rest = before.rest ++ new;
      parted = ap (λ x. ends_from ts m (x - m)) next
          ∙ ends_more ts m (j + n) (omega arith)
          ∙ ap (λ k. k ++ new) before.parted
          ∙ append_assoc (ends_from ts m (j - m)) before.rest new;
      above = none-below-both (get_or ts j 0) before.rest new before.above
          (high-above ts (get_or ts j 0) (j + n) (non_empty ts (j + n)) (rises j (j + n + 1) (omega arith) (omega arith)));
    }
  where
    new : List ℕ
    new = high_knots ts (cond (non_empty ts (j + n)) ((j + n) ∷ []) [])
