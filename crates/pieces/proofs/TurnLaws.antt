-- From one span of a walk to the next: the values to insert, and how many spans lie behind.
use mathlib.Core.Bool.{false, cond}
use mathlib.Core.List.{List, [], ◌∷◌, ◌++◌, append-nil, map-append}
use mathlib.Core.Path.{◌≡◌, ap, ◌∙◌}
use Prim.Native.Nat.{ℕ, zero, suc, ◌+◌, ◌-◌, ◌≤◌, ◌<◌}
use native.Mathlib.Omega.{arith}
use lib.ListN.{length, get_or, replicate, length-append}
use borrow.Author.Tests.{lt-ltb, le-ltb}
use Rattle.span_walk.specs.SpansMet.{up_from, keep, non_empty, high_knots}
use Rattle.span_walk.proofs.KeepLaws.{keep-up_to}
use Rattle.grid.specs.Rows.{occurrences}
use Rattle.cutting.specs.Cutting.{ends_from, lacking}
use Rattle.cutting.proofs.EachLaws.{lacking-append}
use Rattle.cut_window.specs.Window.{Run}

module _ (m : ℕ) (ts : List ℕ) (i s : ℕ) (from : m ≤ i) (wide : get_or ts i 0 < get_or ts (i + 1) 0) (run : Run ts i s) where
  abbrev v : ℕ
  v = get_or ts (i + 1) 0

  -- the spans behind the first of a run are empty
  empty : (x : ℕ) → 1 ≤ x → x < s → non_empty ts (i + x) ≡ false
  empty x least most =
      let next : i + (x + 1) ≡ i + x + 1 = omega arith in
      le-ltb (get_or ts (i + x) 0) (get_or ts (i + x + 1) 0)
      (omega (arith, run.same x least (omega arith), run.same (x + 1) (omega arith) (omega arith), ap (λ j. get_or ts j 0) next))

  abbrev behind : ℕ → List ℕ
  behind x = keep (non_empty ts) (up_from m (i + x - m))

  behind-one : behind 1 ≡ keep (non_empty ts) (up_from m (i - m)) ++ (i ∷ [])
  behind-one = keep-up_to (non_empty ts) m i from ∙ ap (λ b. keep (non_empty ts) (up_from m (i - m)) ++ cond b (i ∷ []) []) (lt-ltb (get_or ts i 0) (get_or ts (i + 1) 0) wide)

  behind_more : (x : ℕ) → suc x ≤ s → behind (suc x) ≡ keep (non_empty ts) (up_from m (i - m)) ++ (i ∷ [])
  behind_more zero h = behind-one
  behind_more (suc x) h =
      let next : i + suc (suc x) ≡ i + suc x + 1 = omega arith in
      ap (λ j. keep (non_empty ts) (up_from m (j - m))) next
      ∙ keep-up_to (non_empty ts) m (i + suc x) (omega arith)
      ∙ ap (λ b. behind (suc x) ++ cond b ((i + suc x) ∷ []) []) (empty (suc x) (omega arith) (omega arith))
      ∙ append-nil (behind (suc x))
      ∙ behind_more x (omega arith)

  pub spans-behind : keep (non_empty ts) (up_from m (i + s - m)) ≡ keep (non_empty ts) (up_from m (i - m)) ++ (i ∷ [])
  spans-behind =
      let some : i + s ≡ i + suc (s - 1) = omega (arith, run.least) in
      ap (λ j. keep (non_empty ts) (up_from m (j - m))) some ∙ behind_more (s - 1) (omega (arith, run.least))

  -- one span more lies behind
  pub one-behind : length (keep (non_empty ts) (up_from m (i + s - m))) ≡ suc (length (keep (non_empty ts) (up_from m (i - m))))
  one-behind = ap length spans-behind ∙ length-append (keep (non_empty ts) (up_from m (i - m))) (i ∷ []) ∙ omega arith

  -- its end is inserted as often as it lacks
  pub cuts-turn : occurrences v ts ≡ s → lacking m ts (ends_from ts m (i + s - m)) ≡ lacking m ts (ends_from ts m (i - m)) ++ replicate (m - s) v
  unfolding ends_from high_knots lacking
  cuts-turn count =
      ap (λ l. lacking m ts (high_knots ts l)) spans-behind
      ∙ ap (lacking m ts) (map-append (λ j. get_or ts (j + 1) 0) (keep (non_empty ts) (up_from m (i - m))) (i ∷ []))
      ∙ lacking-append m ts (ends_from ts m (i - m)) (v ∷ [])
      ∙ ap (λ n. lacking m ts (ends_from ts m (i - m)) ++ (replicate (m - n) v ++ [])) count
      ∙ ap (λ l. lacking m ts (ends_from ts m (i - m)) ++ l) (append-nil (replicate (m - s) v))
