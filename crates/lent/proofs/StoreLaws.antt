-- A result stored entry by entry into a lent list: after j stores it holds the first j entries of the result and the rest as before.
use mathlib.Core.List.{List, ◌++◌}
use mathlib.Core.Path.{◌≡◌, refl, sym, ap, ◌∙◌}
use Prim.Native.Nat.{ℕ, suc, ◌+◌, ◌≤◌, ◌<◌}
use native.Mathlib.Numerals.{add-one}
use native.Mathlib.Omega.{arith}
use lib.ListN.{length, get_or, take, drop, set, length-append, length-drop}
use lib.Seq.{take-suc, drop-cons, set_at, length-take-le, take_all, append_snoc}
use Rattle.lent.specs.Lent.{over}

-- j entries of the result are stored
pub record Stored {A : Type 0} (result before list : List A) (j : ℕ) : Type 0 where
  pub within : j ≤ length result
  pub room : length result ≤ length before
  pub holds : list ≡ take j result ++ drop j before

module _ {A : Type 0} {result before list : List A} {j : ℕ} (s : Stored result before list j) where
  -- the list keeps its length
  pub stored-length : length list ≡ length before
  stored-length = ap length s.holds ∙ rw (length-append, length-take-le j result s.within, length-drop) (omega (arith, s.within, s.room))

  -- one store more
  pub stored_more : (a d : A) → j < length result → get_or result j d ≡ a → Stored result before (set list j a) (j + 1)
  stored_more a d inside e =
      record {
        within = omega arith;
        room = s.room;
        holds =
            rw (
              s.holds,
              add-one j,
              drop-cons before j d (omega (arith, s.room)),
              set_at (take j result) (get_or before j d) (drop (suc j) before) a j (length-take-le j result s.within),
              take-suc result j d inside,
              e,
            )
            (sym (append_snoc (take j result) a (drop (suc j) before)));
      }

  -- all is stored
  pub stored-all : length result ≤ j → list ≡ over result before
  stored-all done =
      let whole : j ≡ length result = omega (arith, s.within) in
      s.holds ∙ rw (whole, take_all (length result) result (omega arith))

-- nothing is stored yet
pub stored-none : {A : Type 0} (result before : List A) → length result ≤ length before → Stored result before before 0
stored-none result before room = record { within = omega arith; room = room; holds = refl }
