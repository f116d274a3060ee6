-- A result that grows block by block in a lent list: a block is written from the end of what stays on, over what does not stay of the block before it.
-- `Grown` is what holds while it grows.
use mathlib.Core.List.{List, [], ◌++◌, append_assoc}
use mathlib.Core.Path.{◌≡◌, refl, sym, ap, ◌∙◌}
use Prim.Native.Nat.{ℕ, suc, ◌+◌, ◌-◌, ◌*◌, ◌≤◌, ◌<◌}
use native.Mathlib.Nat.{mul-zero, mul-suc, mul-le-mul, mul-le-mul_left}
use native.Mathlib.Omega.{arith}
use lib.ListN.{length, take, drop, length-append}
use lib.Seq.{sets, sets-eq, length-sets, take-append_seam, drop-append-add, drop-drop}
use Rattle.lent.specs.Lent.{over}
use Rattle.lent.proofs.OverLaws.{over-length}

module _ {A : Type 0} where
  -- behind a result the list is as before
  over-behind : (result before : List A) (n : ℕ) → length result ≤ n → drop n (over result before) ≡ drop n before
  over-behind result before n h =
      let more : n ≡ length result + (n - length result) = omega arith in
      ap (λ k. drop k (over result before)) more
      ∙ drop-append-add result (drop (length result) before) (n - length result)
      ∙ drop-drop (n - length result) (length result) before
      ∙ ap (λ k. drop k before) (sym more)

  -- a longer result over a shorter one
  over-over : (result longer before : List A) → length result ≤ length longer → over longer (over result before) ≡ over longer before
  over-over result longer before h = ap (λ l. longer ++ l) (over-behind result before (length longer) h)

  block-put : (stays lost block before : List A) → length lost ≤ length block → length stays + length block ≤ length before
      → sets (over (stays ++ lost) before) (length stays) block ≡ over (stays ++ block) before
  block-put stays lost block before fits room =
      let whole = over (stays ++ lost) before in
      let end = length stays + length block in
      let long : length (stays ++ lost) ≤ length before = rw (length-append stays lost) (omega arith) in
      sets-eq block whole (length stays) (rw (over-length (stays ++ lost) before long) room)
      ∙ ap (λ l. take (length stays) l ++ block ++ drop end whole) (append_assoc stays lost (drop (length (stays ++ lost)) before))
      ∙ ap (λ l. l ++ block ++ drop end whole) (take-append_seam stays (lost ++ drop (length (stays ++ lost)) before))
      ∙ ap (λ l. stays ++ block ++ l) (over-behind (stays ++ lost) before end (rw (length-append stays lost) (omega arith)))
      ∙ rw (length-append stays block)

  -- the first block
  block-begin : (block before : List A) {now : List A} → length block ≤ length before → now ≡ sets before 0 block → now ≡ over block before
  block-begin block before room put = put ∙ block-put [] [] block before (omega arith) (omega arith)

-- i blocks are written; the next begins at `at`. There is room for all, one fewer than `count`, each `width` long and `inner` behind the one before it
pub record Grown {A : Type 0} (count inner first width : ℕ) (result : ℕ → List A) (before out : List A) (at i : ℕ) : Type 0 where
  pub within : i < count
  pub place : at ≡ inner * i + first
  pub room : inner * (count - 2) + first + width ≤ length before
  pub places : length out ≡ length before
  pub holds : out ≡ over (result i) before

module _ {A : Type 0} {count inner first width : ℕ} {result : ℕ → List A} {before out : List A} {at i : ℕ} (g : Grown count inner first width result before out at i) where
  inner-most : suc i < count → inner * i ≤ inner * (count - 2)
  inner-most h = mul-le-mul_left inner (omega arith)

  -- the next block has its places
  grown-room : suc i < count → inner * i + first + width ≤ length before
  grown-room h = omega (arith, inner-most h, g.room)

  pub grown-fits : suc i < count → at + width ≤ length out
  grown-fits h = omega (arith, grown-room h, g.place, g.places)

  -- the place is a small number
  pub grown-small : (most size : ℕ) → inner ≤ most → count ≤ size → at ≤ most * size + first
  grown-small most size few short = omega (arith, g.place, mul-le-mul {n₁ = inner} {m₁ = i} {n₂ = most} {m₂ = size} few (omega (arith, g.within)))

  -- one block more, over what does not stay
  pub grown-more : {now : List A} (stays lost block : List A) → suc i < count → now ≡ sets out at block
      → result i ≡ stays ++ lost → result (suc i) ≡ stays ++ block → length stays ≡ inner * i + first → length block ≡ width → length lost ≤ width
      → Grown count inner first width result before now (at + inner) (i + 1)
  grown-more stays lost block h put was will many wide few =
      let next : i + 1 ≡ suc i = omega arith in
      let here : length stays ≡ at = many ∙ sym g.place in
      record {
        within = omega arith;
        place = rw (next, mul-suc inner i) (omega (arith, g.place));
        room = g.room;
        places = ap length put ∙ length-sets out at block ∙ g.places;
        holds = put ∙ rw (g.holds, ← here, was, next, will) (block-put stays lost block before (omega arith) (omega (arith, grown-room h)));
      }

-- before the first block: what is written stays where the blocks go on
pub grown-begin : {A : Type 0} (count inner width : ℕ) (result : ℕ → List A) (before : List A) {now : List A} → 1 ≤ count
    → inner * (count - 2) + length (result 0) + width ≤ length before → now ≡ sets before 0 (result 0) → Grown count inner (length (result 0)) width result now now (length (result 0)) 0
grown-begin count inner width result before {now} some room put =
    let front = result 0 in
    let holds : now ≡ over front before = block-begin front before (omega arith) put in
    let same : length now ≡ length before = ap length put ∙ length-sets before 0 front in
    record {
      within = omega arith;
      place = omega (arith, mul-zero inner);
      room = omega (arith, same);
      places = refl;
      holds = sym (ap (λ l. over front l) holds ∙ over-over front front before (omega arith) ∙ sym holds);
    }

-- after the last block
pub grown-all : {A : Type 0} {count inner first width : ℕ} {result : ℕ → List A} {begun out : List A} {at i : ℕ} (before all : List A) → Grown count inner first width result begun out at i
    → begun ≡ sets before 0 (result 0) → length (result 0) ≤ length before → result i ≡ all → length (result 0) ≤ length all → out ≡ over all before
grown-all {result = result} before all g put room last longer =
    g.holds
    ∙ rw (last, block-begin (result 0) before room put) (over-over (result 0) all before longer)
