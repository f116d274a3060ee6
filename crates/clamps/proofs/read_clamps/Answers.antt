-- Every turn puts one clamp's sides more.
use mathlib.Core.Path.{◌≡◌, refl, sym, ap, ◌∙◌}
use Prim.Native.Nat.{◌+◌, ◌*◌}
use lib.ListN.{length, get_or}
use Rattle.fields.specs.Places.{put_at}
use Rattle.fields.proofs.LoopLaws.{put-more, put_all}
use Rattle.fields.proofs.PlaceLaws.{put_at-front, length-entries_at, entries_at-entry}
use Rattle.clamps.specs.Clamp.{Clamp, clamp_sides, clamp_field_bytes, no_clamp, clamp_at, clamps_at, sides, all_sides}
use native.Mathlib.Omega.{arith}
use Rattle.clamps.proofs.read_clamps.Goals.{Start}
use Rattle.clamps.proofs.read_clamps.Goals as goal

-- as many clamps as are counted
many : (s : Start) → length (clamps_at s.args.bytes.now s.args.start s.args.count) ≡ s.args.count
many s = length-entries_at (clamp_at s.args.bytes.now) clamp_field_bytes s.args.start s.args.count

pub loop-i-preserved : goal.loop-i-preserved
loop-i-preserved c = let a = c.args in
    let i = c.loop-i.i in
    let cs = clamps_at a.bytes.now a.start a.count in
    let this : clamp_at a.bytes.now (a.start + clamp_field_bytes * i) ≡ get_or cs i no_clamp = sym (entries_at-entry (clamp_at a.bytes.now) clamp_field_bytes a.start a.count i no_clamp c.loop-i-test.true) in
    let here : 0 + clamp_sides * i ≡ clamp_sides * i = omega arith in
    put-more sides clamp_sides 0 (λ _. refl) cs a.out.now c.loop-i.out _ i no_clamp (omega (arith, many (goal.at.loop-i-preserved c).Start, c.requires.1)) (omega (arith, many (goal.at.loop-i-preserved c).Start))
    (rw here (c.put_sides.ensures.result ∙ ap (λ (v : Clamp). put_at c.loop-i.out (clamp_sides * i) (sides v)) this)) c.loop-i.invariant

pub returns : goal.returns
returns c = record {
  result = let a = c.args in
      let cs = clamps_at a.bytes.now a.start a.count in
      put_all sides clamp_sides 0 (λ _. refl) cs a.out.now _ _ (omega (arith, many (goal.at.returns c).Start, c.loop-i-test.false)) c.loop-i.invariant ∙ put_at-front a.out.now (all_sides cs);
}
