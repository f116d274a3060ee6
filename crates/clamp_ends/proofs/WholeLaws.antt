-- All numbers of a clamped polygon are whole exactly where those of both ends are.
use mathlib.Core.Bool.{Bool, true, false, true≢false}
use mathlib.Core.List.{List}
use mathlib.Core.Path.{◌≡◌, sym, ap, ◌∙◌}
use Prim.Native.Nat.{ℕ, ◌+◌, ◌-◌, ◌≤◌, ◌<◌}
use native.Mathlib.Omega.{arith}
use lib.IntN.{ℤ}
use lib.ListN.{length}
use Rattle.grid.proofs.FlagLaws.{fails}
use Rattle.insertion.specs.Insertion.{point_at}
use Rattle.insertion.proofs.OrderLaws.{either}
use Rattle.clamping.specs.declared.Share.{Share}
use Rattle.clamping.specs.EndRows.{end_number, start_of, finish_of}
use Rattle.clamping.specs.Clamping.{clamped_number, is_whole, all_whole}
use Rattle.clamping.proofs.WholeLaws.{whole_each, whole-of-each}
use Rattle.clamp_rows.specs.declared.ends.NearEnd.{NearEnd}
use Rattle.clamp_rows.specs.Near.{Carries}
use Rattle.clamp_rows.specs.Ends.{as_end, Gathered}
use Rattle.clamp_ends.proofs.NumberLaws.{point-whole, start-number, finish-number, between}

-- the numbers of an end, of which there are m - 1: one, or two
module _ (f : ℕ → Share) (m : ℕ) (r : Bool) where
  pub first-fails : 2 ≤ m → r ≡ is_whole (f 0) → r ≡ false → false ≡ all_whole f (m - 1)
  first-fails many told failed = sym (fails (all_whole f (m - 1)) (λ all. true≢false (sym (told ∙ whole_each f (m - 1) all 0 (omega arith)) ∙ failed)))

  pub one-tells : m ≡ 2 → r ≡ is_whole (f 0) → r ≡ true → true ≡ all_whole f (m - 1)
  one-tells two told passed =
      sym (whole-of-each f (m - 1) (λ j l. let only : j ≡ 0 = omega arith in rw only (sym told ∙ passed)))

  pub two-tell : m ≡ 3 → is_whole (f 0) ≡ true → r ≡ is_whole (f 1) → r ≡ all_whole f (m - 1)
  unfolding all_whole
  two-tell three first told = rw (three, first) told

abbrev EndWhole : NearEnd → ℕ → Bool
EndWhole e m = all_whole (λ k. end_number (as_end e) m k) (m - 1)

module _ (m : ℕ) (ts : List ℕ) (ps : List ℤ) (h : Carries m ts ps) where
  abbrev AllWhole : Bool
  AllWhole = all_whole (clamped_number m ts ps) (length ps)

  between-whole : (j : ℕ) → j < length ps → m < j + 2 → m < length ps - 1 - j + 2 → is_whole (clamped_number m ts ps j) ≡ true
  between-whole j l low high = rw (between m ts ps j l low high) (point-whole (point_at ps j))

  -- a degree below 2 has old points only
  pub all_old : m < 2 → all_whole (clamped_number m ts ps) (length ps) ≡ true
  all_old small = whole-of-each (clamped_number m ts ps) (length ps) (λ j l. between-whole j l (omega arith) (omega arith))

  start-whole : (e : NearEnd) → Gathered e (start_of m ts ps) → AllWhole ≡ true → EndWhole e m ≡ true
  start-whole e g all =
      whole-of-each (λ k. end_number (as_end e) m k) (m - 1)
      (λ k l. rw (start-number m ts ps e g h.degree k (omega arith)) (whole_each (clamped_number m ts ps) (length ps) all k (omega (arith, h.enough))))

  finish-whole : (e : NearEnd) → Gathered e (finish_of ts ps) → AllWhole ≡ true → EndWhole e m ≡ true
  finish-whole e g all =
      whole-of-each (λ k. end_number (as_end e) m k) (m - 1)
      (λ k l.
      let place : length ps - 1 - (length ps - 1 - k) ≡ k = omega (arith, h.enough) in
      let number = finish-number m ts ps e g h.degree (length ps - 1 - k) (omega (arith, h.enough, h.degree)) (omega (arith, place)) in
      rw (ap (end_number (as_end e) m) (sym place) ∙ number) (whole_each (clamped_number m ts ps) (length ps) all (length ps - 1 - k) (omega (arith, h.enough))))

  module _ (s f : NearEnd) (gs : Gathered s (start_of m ts ps)) (gf : Gathered f (finish_of ts ps)) where
    both-whole : EndWhole s m ≡ true → EndWhole f m ≡ true → AllWhole ≡ true
    both-whole first last = whole-of-each (clamped_number m ts ps) (length ps) each
      where
        each : (j : ℕ) → j < length ps → is_whole (clamped_number m ts ps j) ≡ true
        each j l =
            either (j + 1) m
            (λ near. rw (← start-number m ts ps s gs h.degree j (omega arith)) (whole_each (λ k. end_number (as_end s) m k) (m - 1) first j (omega arith)))
            (λ far.
            either (length ps - 1 - j + 1) m
            (λ near. rw (← finish-number m ts ps f gf h.degree j (omega arith) (omega arith))
            (whole_each (λ k. end_number (as_end f) m k) (m - 1) last (length ps - 1 - j) (omega arith)))
            (λ old. between-whole j l (omega arith) (omega arith)))

  -- the start refuses
  pub start-refuses : (e : NearEnd) → Gathered e (start_of m ts ps) → (r : Bool) → r ≡ all_whole (λ k. end_number (as_end e) m k) (m - 1) → r ≡ false
      → false ≡ all_whole (clamped_number m ts ps) (length ps)
  start-refuses e g r told failed = sym (fails AllWhole (λ all. true≢false (sym (told ∙ start-whole e g all) ∙ failed)))

  -- it does not, so the end decides
  pub finish-decides : (s f : NearEnd) → Gathered s (start_of m ts ps) → Gathered f (finish_of ts ps) → (q r : Bool)
      → q ≡ all_whole (λ k. end_number (as_end s) m k) (m - 1) → q ≡ true → r ≡ all_whole (λ k. end_number (as_end f) m k) (m - 1)
      → r ≡ all_whole (clamped_number m ts ps) (length ps)
  finish-decides s f gs gf q true first passed last = sym (both-whole s f gs gf (sym first ∙ passed) (sym last))
  finish-decides s f gs gf q false first passed last = sym (fails AllWhole (λ all. true≢false (sym (last ∙ finish-whole f gf all))))
