-- Bytes that are held stay held when a burst comes in; whatever the count and the list, some bytes are held.
use mathlib.Core.List.{List, [], ◌∷◌, ◌++◌, append_assoc}
use mathlib.Core.Path.{◌≡◌, sym, ap, ◌∙◌, subst}
use Prim.Native.Nat.{ℕ, suc, ◌+◌, ◌-◌, ◌<◌, ◌≤◌}
use native.Mathlib.Decide.{dec_le}
use native.Mathlib.Omega.{arith}
use lib.ListN.{length, get_or, take, drop, length-append, take-append-drop}
use lib.Seq.{take_all, drop-cons, length-take-le}
use Rattle.lent.specs.Lent.{over}
use Rattle.lent.proofs.OverLaws.{over-whole, over-result}
use Rattle.keeping.specs.Kept.{kept_with, received_with}
use Rattle.feed.specs.Ending.{Holds, whole, beyond}
use Rattle.keeping.proofs.KeptLaws.{kept_full, kept-parts, kept-length, counted-full, counted-over, counted-all}

module _ (received : ℕ) (burst work : List ℕ) where
  abbrev list : List ℕ
  list = over (kept_with received burst work) work

  module _ (inside : received ≤ length work) where
    abbrev front : List ℕ
    front = take received work

    -- the burst fits
    held_all : length burst ≤ length work - received → Holds (received_with received burst work) list (front ++ burst)
    held_all fits =
        let kept : kept_with received burst work ≡ front ++ burst =
        kept-parts received burst work inside ∙ ap (λ (l : List ℕ). front ++ l) (take_all (length work - received) burst fits) in
        let many : length (front ++ burst) ≡ received + length burst =
        length-append front burst ∙ ap (λ (n : ℕ). n + length burst) (length-take-le received work inside) in
        let first : take (received + length burst) list ≡ front ++ burst =
        rw (← many, kept) (over-result (front ++ burst) work) in
        rw (← counted-all received burst work inside fits)
        (subst (Holds (received + length burst) list) first (whole (omega (arith, kept-length received burst work))))

    -- it does not, and its rest is lost
    held-beyond : length work - received < length burst → Holds (received_with received burst work) list (front ++ burst)
    held-beyond more =
        let places : ℕ = length work - received in
        let kept : kept_with received burst work ≡ front ++ take places burst = kept-parts received burst work inside in
        let many : length (front ++ take places burst) ≡ length work =
        length-append front (take places burst)
        ∙ rw (length-take-le received work inside, length-take-le places burst (omega arith)) (omega arith) in
        let full : list ≡ front ++ take places burst = rw kept (over-whole (front ++ take places burst) work (omega (arith, many))) in
        let rest : take places burst ++ (get_or burst places 0 ∷ drop (suc places) burst) ≡ burst =
        ap (λ (l : List ℕ). take places burst ++ l) (sym (drop-cons burst places 0 more)) ∙ take-append-drop places burst in
        let all : list ++ (get_or burst places 0 ∷ drop (suc places) burst) ≡ front ++ burst =
        ap (λ (l : List ℕ). l ++ (get_or burst places 0 ∷ drop (suc places) burst)) full
        ∙ append_assoc front (take places burst) (get_or burst places 0 ∷ drop (suc places) burst)
        ∙ ap (λ (l : List ℕ). front ++ l) rest in
        rw (← counted-over received burst work inside more)
        (subst (Holds (length work + 1) list) all (beyond (omega (arith, kept-length received burst work)) (get_or burst places 0) (drop (suc places) burst)))

    held-inside : Holds (received_with received burst work) list (front ++ burst)
    held-inside = by (dec_le (length burst) (length work - received))
      where
        by : Dec (length burst ≤ length work - received) → Holds (received_with received burst work) list (front ++ burst)
        by (yes fits) = held_all fits
        by (no more) = held-beyond (omega arith)

  -- a burst more
  pub burst-held : (bytes : List ℕ) → Holds received work bytes → Holds (received_with received burst work) list (bytes ++ burst)
  burst-held bytes (whole inside) = held-inside inside
  burst-held bytes (beyond more b lost) =
      rw (← counted-full received burst work more, ← kept_full received burst work more)
      (subst (Holds received work) (sym (append_assoc work (b ∷ lost) burst)) (beyond more b (lost ++ burst)))

-- any count and any list hold some bytes
pub some-held : (received : ℕ) (work : List ℕ) → (bytes : List ℕ) × Holds received work bytes
some-held received work = by (dec_le received (length work))
  where
    by : Dec (received ≤ length work) → (bytes : List ℕ) × Holds received work bytes
    by (yes inside) = (take received work, whole inside)
    by (no more) = (work ++ (0 ∷ []), beyond (omega arith) 0 [])
