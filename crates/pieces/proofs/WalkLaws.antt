-- A step of a walk: where it stands, how the span is opened, and what is handed out.
use mathlib.Core.List.{List, [], ◌∷◌, ◌++◌}
use mathlib.Core.Bool.{cond}
use mathlib.Core.Path.{◌≡◌, refl, sym, ap, subst, ◌∙◌}
use Prim.Native.Nat.{ℕ, suc, ◌+◌, ◌-◌, ◌*◌, ◌≤◌, ◌<◌}
use native.Mathlib.Nat.{mul-one, mul-le-mul_left}
use native.Mathlib.Omega.{arith}
use lib.IntN.{ℤ}
use lib.ListN.{length, get_or, replicate, length-append}
use borrow.Author.Tests.{lt-ltb}
use Rattle.std.specs.Prelude.{Ok, Err}
use Rattle.refusal.specs.Numbers.{accepted}
use Rattle.refusal.specs.declared.Refusal.{Refusal}
use Rattle.refusal.proofs.AnswerLaws.{refused-above_zero}
use Rattle.curve.specs.Lists.{Lists}
use Rattle.grid.specs.Limits.{points_most}
use Rattle.grid.specs.Sizes.{Sizes}
use Rattle.grid.proofs.SizeLaws.{sizes-of-passes}
use Rattle.checked.proofs.CheckedLaws.{checked-of-passes}
use Rattle.insertion.specs.Insertion.{point_at}
use Rattle.span_walk.specs.SpansMet.{up_from, keep, non_empty, span_count}
use Rattle.span_walk.proofs.KeepLaws.{keep-up_to}
use Rattle.cutting.specs.Cutting.{ends_from, lacking, cuts, cut, inserted_each, insertable_each_then}
use Rattle.cutting.specs.Pieces.{piece_of}
use Rattle.cutting.proofs.EachLaws.{inserted-append, insertable-append, each-passed, each-refused, lacking-append}
use Rattle.cut_window.specs.Window.{Window, Carried, Behind, Run}
use Rattle.cut_window.proofs.KnotLaws.{high_is, run_inside}
use Rattle.cut_window.proofs.StepLaws.{window-turns, carried-turns}
use Rattle.cut_steps.specs.declared.Cut.{Cut}
use Rattle.cut_steps.specs.Step.{CutStands, Fills}
use Rattle.pieces.specs.Loaded.{Loaded}
use Rattle.pieces.specs.declared.Walk.{Walk}
use Rattle.cutting.specs.declared.Piece.{Piece}
use Rattle.pieces.specs.Walk.{cuts_up_to, cut_up_to, AtSpan, Handed, inner, last, Refuses, Inner, Opened, Closed}
use Rattle.pieces.proofs.ValueLaws.{run-most, run-occurs}
use Rattle.pieces.proofs.TurnLaws.{one-behind, cuts-turn}
use Rattle.pieces.proofs.PieceLaws.{piece_is}
use Rattle.pieces.proofs.StayLaws.{NoneBelow, pieces-stay}
use Rattle.pieces.proofs.BelowLaws.{none-below-same, none-below-lacking, ends-split}

-- where a walk can stand
pub record Bounds (m : ℕ) (c : Lists) (walk : Walk) : Type 0 where
  pub degree : m ≤ 3
  pub index : walk.index ≤ points_most
  pub span : walk.span < points_most
  pub inside : walk.span < length c.xs
  pub knots : walk.span + 1 < length c.knots

pub bounds : (m : ℕ) (c : Lists) (walk : Walk) → AtSpan m c walk → Bounds m c walk
bounds m c walk at =
    let w = at.window in
    let d = cut_up_to m c walk.span in
    let old = sizes-of-passes m c.knots c.xs c.ys w.original in
    let new = sizes-of-passes m d.knots d.xs d.ys w.passes in
    let times : walk.index * 1 ≤ walk.index * m = mul-le-mul_left walk.index old.degree-least in
    record {
      degree = old.degree-most;
      index = omega (arith, times, mul-one walk.index, w.points, w.inside, new.most);
      span = omega (arith, w.inside, old.most);
      inside = w.inside;
      knots = omega (arith, w.inside, old.knots, old.degree-least);
    }

module _ (m : ℕ) (c : Lists) (walk : Walk) (at : AtSpan m c walk) where
  abbrev i : ℕ
  i = walk.span

  abbrev k : ℕ
  k = walk.index

  abbrev d : Lists
  d = cut_up_to m c i

  -- the last span
  pub last-hands : i + 1 ≡ length c.xs
      → Handed m c walk (record { low = get_or c.knots i 0; high = get_or c.knots (i + 1) 0; xs = walk.xs; ys = walk.ys })
      (record { index = k + 1; span = i + 1; points = walk.points; xs = walk.xs; ys = walk.ys })
  unfolding span_count
  last-hands end =
      let w = at.window in
      let here : length c.xs - 1 ≡ i = omega (arith, end) in
      let whole : cuts m c ≡ cuts_up_to m c i = ap (λ n. lacking m c.knots (ends_from c.knots m (n - m))) here in
      let place : k * m + m + 0 + 1 ≡ k * m + m + 1 = omega arith in
      let high : get_or c.knots (i + 1) 0 ≡ get_or d.knots (k * m + m + 1) 0 = sym (w.far 1 (omega arith)) ∙ ap (λ j. get_or d.knots j 0) place in
      let more : length c.xs - m ≡ i + 1 - m = omega (arith, end) in
      let cut-is : cut m c ≡ d = ap (λ l. inserted_each m l c) whole in
      last
      (record {
        piece = piece_is (get_or c.knots i 0) (get_or c.knots (i + 1) 0) walk.xs walk.ys w refl high at.row_x at.row_y ∙ ap (λ f. piece_of m f k) (sym cut-is);
        index = omega arith;
        ends = end;
        same = sym cut-is;
        all = ap (λ n. length (keep (non_empty c.knots) (up_from m n))) more
            ∙ ap length (keep-up_to (non_empty c.knots) m i w.least)
            ∙ ap (λ b. length (keep (non_empty c.knots) (up_from m (i - m)) ++ cond b (i ∷ []) [])) (lt-ltb (get_or c.knots i 0) (get_or c.knots (i + 1) 0) w.wide)
            ∙ length-append (keep (non_empty c.knots) (up_from m (i - m))) (i ∷ [])
            ∙ omega (arith, at.counted);
        passed = λ next. ap (λ l. insertable_each_then m l c next) whole ∙ at.passed next;
      })

  -- any other span, behind whose low knot s equal ones stand
  module _ (s : ℕ) (run : Run c.knots i s) where
    abbrev v : ℕ
    v = get_or c.knots (i + 1) 0

    old : Sizes m c.knots c.xs c.ys
    old = sizes-of-passes m c.knots c.xs c.ys at.window.original

    pub run-few : s ≤ m
    run-few = run-most m c.knots c.xs c.ys at.window.original at.window.clamped i s at.window.least at.window.wide run

    pub run-within : i + 1 + s ≤ length c.xs
    run-within = omega (arith, run_inside m c d i k 0 s at.window run)

    behind : (ps qs row next : List ℤ) → Carried m ps qs i k 0 row → Loaded ps (i + 1) s next → Behind m qs k (s + 0) next
    behind ps qs row next on l =
        record {
          places = l.places;
          unused = λ a from to. l.unused a (omega arith) to;
          holds = λ a to.
              (let place : k * m + m + 1 + a ≡ k * m + m + 0 + (1 + a) = omega arith in
              let here : i + (1 + a) ≡ i + 1 + a = omega arith in
              ap (point_at qs) place ∙ on.far (1 + a) (omega arith) ∙ ap (point_at ps) here ∙ sym (l.holds a (omega arith)));
        }

    -- the span is opened
    pub opened-stands : (begun : Cut) → Opened c.xs c.ys walk s begun → CutStands m c d i k s 0 begun
    opened-stands begun o =
        record {
          window = at.window;
          run = run;
          count = o.count ∙ at.count;
          row_x = subst (Carried m c.xs d.xs i k 0) (sym o.row_x) at.row_x;
          row_y = subst (Carried m c.ys d.ys i k 0) (sym o.row_y) at.row_y;
          behind_x = behind c.xs d.xs walk.xs begun.x.behind at.row_x o.behind_x;
          behind_y = behind c.ys d.ys walk.ys begun.y.behind at.row_y o.behind_y;
        }

    -- the values to insert up to the next span, and the curve with them
    cuts-next : cuts_up_to m c (i + s) ≡ cuts_up_to m c i ++ replicate (m - s) v
    cuts-next =
        cuts-turn m c.knots i s at.window.least at.window.wide run
        (run-occurs m c.knots c.xs c.ys at.window.original at.window.clamped i s at.window.least at.window.wide run)

    cut-next : cut_up_to m c (i + s) ≡ inserted_each m (replicate (m - s) v) d
    cut-next = ap (λ l. inserted_each m l c) cuts-next ∙ inserted-append m (cuts_up_to m c i) (replicate (m - s) v) c

    judged-next : (next : ℕ) → insertable_each_then m (cuts_up_to m c (i + s)) c next ≡ insertable_each_then m (replicate (m - s) v) d next
    judged-next next =
        ap (λ l. insertable_each_then m l c next) cuts-next
        ∙ insertable-append m (cuts_up_to m c i) (replicate (m - s) v) c next
        ∙ at.passed (insertable_each_then m (replicate (m - s) v) d next)

    -- an insertion is refused
    pub fails : (refusal : Refusal) → Fills m c d i k s (Err refusal) → Refuses m c refusal
    fails refusal f =
        let facts = checked-of-passes m c.knots c.xs c.ys at.window.original in
        let split = ends-split c.knots m (i + s) (length c.xs - 1 - (i + s)) (omega (arith, at.window.least)) facts.rising (omega (arith, old.knots, run-within)) in
        let rest = split.rest in
        let all : length c.xs - 1 ≡ i + s + (length c.xs - 1 - (i + s)) = omega (arith, run-within) in
        let whole : cuts m c ≡ cuts_up_to m c (i + s) ++ lacking m c.knots rest =
        ap (λ n. lacking m c.knots (ends_from c.knots m (n - m))) all
        ∙ ap (lacking m c.knots) split.parted
        ∙ lacking-append m c.knots (ends_from c.knots m (i + s - m)) rest in
        let behind-it : ℕ → ℕ = λ next. insertable_each_then m (lacking m c.knots rest) (cut_up_to m c (i + s)) next in
        record {
          number = λ next.
              ap (λ l. insertable_each_then m l c next) whole
              ∙ insertable-append m (cuts_up_to m c (i + s)) (lacking m c.knots rest) c next
              ∙ judged-next (behind-it next)
              ∙ each-refused m (replicate (m - s) v) d (behind-it next) (λ h. absurd (omega (arith, refused-above_zero refusal, f.number ∙ h)))
              ∙ sym f.number;
        }

    -- none is
    module _ (done : Cut) (handed : Piece) (next : Walk) (st : CutStands m c (inserted_each m (replicate (m - s) v) d) i k s (m - s) done)
        (judged : insertable_each_then m (replicate (m - s) v) d accepted ≡ accepted) (o : Closed walk m (get_or c.knots i 0) v s done handed next) where
      abbrev f : Lists
      f = inserted_each m (replicate (m - s) v) d

      full : s + (m - s) ≡ m
      full = omega (arith, run-few)

      span-next : next.span ≡ i + s
      span-next = o.span

      index-next : next.index ≡ suc k
      index-next = o.index ∙ omega arith

      curve-next : cut_up_to m c next.span ≡ f
      curve-next = ap (cut_up_to m c) span-next ∙ cut-next

      window-next : Window m c (cut_up_to m c next.span) next.span next.index 0
      window-next = rw (curve-next, span-next, index-next) (window-turns m c f i k (m - s) s st.window st.run full)

      row_next : (ps qs : List ℤ) (row after : List ℤ) → Carried m ps qs (i + s) (suc k) 0 after → Carried m ps qs next.span next.index 0 after
      row_next ps qs row after on = rw (span-next, index-next) on

      behind-full : {qs behind : List ℤ} → Behind m qs k (s + (m - s)) behind → Behind m qs k m behind
      behind-full {qs} {behind} b = subst (λ n. Behind m qs k n behind) full b

      at_next : AtSpan m c next
      at_next =
          record {
            window = window-next;
            row_x = rw (curve-next, span-next, index-next)
                (carried-turns m c.xs f.xs i k (m - s) s done.x.row done.x.behind next.xs full old.degree-most st.row_x (behind-full st.behind_x) o.next_x);
            row_y = rw (curve-next, span-next, index-next)
                (carried-turns m c.ys f.ys i k (m - s) s done.y.row done.y.behind next.ys full old.degree-most st.row_y (behind-full st.behind_y) o.next_y);
            count = o.count ∙ st.count ∙ ap (λ (g : Lists). length g.xs) (sym curve-next);
            passed = λ n. ap (λ j. insertable_each_then m (cuts_up_to m c j) c n) span-next ∙ judged-next n ∙ each-passed m (replicate (m - s) v) d n judged;
            counted = index-next
                ∙ ap suc at.counted
                ∙ sym (one-behind m c.knots i s at.window.least at.window.wide run)
                ∙ ap (λ j. length (keep (non_empty c.knots) (up_from m (j - m)))) (sym span-next);
          }

      goes : Inner m c walk handed next
      goes =
          let new = sizes-of-passes m d.knots d.xs d.ys at.window.passes in
          let low = at.window.low m old.degree-least (omega arith) in
          record {
            piece = o.piece
                ∙ piece_is (get_or c.knots i 0) v done.x.row done.y.row st.window refl
                (sym (high_is m c f i k (m - s) s st.window run 1 (omega arith) (omega (arith, full, old.degree-least)))) st.row_x st.row_y
                ∙ ap (λ g. piece_of m g k) (sym curve-next);
            index = index-next;
            rises = omega (arith, span-next, run.least);
            stands = at_next;
            same = λ j h.
                ap (λ g. piece_of m g j) curve-next
                ∙ pieces-stay m k (replicate (m - s) v) d at.window.passes (omega (arith, new.knots, at.window.points, at.window.inside)) (none-below-same (get_or d.knots (k * m + m) 0) v (m - s) (omega (arith, low, at.window.wide))) judged j h;
          }

    pub inner-hands : (done : Cut) (handed : Piece) (next : Walk) → Fills m c d i k s (Ok done) → Closed walk m (get_or c.knots i 0) v s done handed next → Handed m c walk handed next
    inner-hands done handed next fill o = inner (goes done handed next fill.goes (sym fill.number) o)

-- where no insertion is refused at all, the pieces left of a walk are those of the curve
pub left-of-walk : (m : ℕ) (c : Lists) (walk : Walk) → AtSpan m c walk → insertable_each_then m (cuts m c) c accepted ≡ accepted
    → (j : ℕ) → j < walk.index → piece_of m (cut m c) j ≡ piece_of m (cut_up_to m c walk.span) j
left-of-walk m c walk at judged j h =
    let i = walk.span in
    let k = walk.index in
    let d = cut_up_to m c i in
    let w = at.window in
    let old = sizes-of-passes m c.knots c.xs c.ys w.original in
    let new = sizes-of-passes m d.knots d.xs d.ys w.passes in
    let facts = checked-of-passes m c.knots c.xs c.ys w.original in
    let split = ends-split c.knots m i (length c.xs - 1 - i) w.least facts.rising (omega (arith, old.knots, w.inside)) in
    let rest = lacking m c.knots split.rest in
    let all : length c.xs - 1 ≡ i + (length c.xs - 1 - i) = omega (arith, w.inside) in
    let whole : cuts m c ≡ cuts_up_to m c i ++ rest =
    ap (λ n. lacking m c.knots (ends_from c.knots m (n - m))) all
    ∙ ap (lacking m c.knots) split.parted
    ∙ lacking-append m c.knots (ends_from c.knots m (i - m)) split.rest in
    let left : insertable_each_then m rest d accepted ≡ accepted =
    sym (at.passed (insertable_each_then m rest d accepted))
    ∙ sym (insertable-append m (cuts_up_to m c i) rest c accepted)
    ∙ ap (λ l. insertable_each_then m l c accepted) (sym whole)
    ∙ judged in
    let low : get_or d.knots (k * m + m) 0 ≡ get_or c.knots i 0 = w.low m old.degree-least (omega arith) in
    ap (λ l. piece_of m (inserted_each m l c) j) whole
    ∙ ap (λ f. piece_of m f j) (inserted-append m (cuts_up_to m c i) rest c)
    ∙ pieces-stay m k rest d w.passes (omega (arith, new.knots, w.points, w.inside))
    (subst (λ u. NoneBelow u rest) (sym low) (none-below-lacking (get_or c.knots i 0) m c.knots split.rest split.above)) left j h
