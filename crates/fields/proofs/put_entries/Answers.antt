-- Every turn puts one entry's bytes more.
use Rattle.std.proofs.Common.{◌≡◌, ◌+◌, ◌*◌, rules}
use lib.ListN.{get_or}
use Rattle.fields.specs.Places.{put_at}
use Rattle.fields.proofs.LoopLaws.{put-more}
use Rattle.fields.proofs.put_entries.Goals as goal

pub loop-i-preserved : goal.loop-i-preserved
loop-i-preserved g c = let a = c.args in
    let put : c.put.new.out ≡ put_at c.loop-i.out (a.at + g.E.Entry.WIDTH * c.loop-i.i) (g.E.Entry.parts (get_or a.entries.now c.loop-i.i c.index-entries-i.result)) = search rules in
    put-more g.E.Entry.parts g.E.Entry.WIDTH a.at g.met.E.Entry.wide a.entries.now a.out.now c.loop-i.out _ c.loop-i.i c.index-entries-i.result c.requires c.loop-i-test.true put c.loop-i.invariant
