-- Every turn reads one entry more.
use Rattle.std.proofs.Common.{◌≡◌, ◌+◌, ◌*◌, rules}
use Rattle.fields.proofs.LoopLaws.{read_more, read-front}
use Rattle.fields.proofs.read_entries.Goals as goal

pub loop-i-preserved : goal.loop-i-preserved
loop-i-preserved g c = let a = c.args in
    let read : c.get.result ≡ g.E.Entry.read a.bytes.now (a.at + g.E.Entry.WIDTH * c.loop-i.i) = search rules in
    read_more (g.E.Entry.read a.bytes.now) g.E.Entry.WIDTH a.at _ c.loop-i.place-items c.loop-i.i c.get.result c.loop-i-test.true read c.loop-i.invariant

pub returns : goal.returns
returns g c = record { result = read-front (g.E.Entry.read c.args.bytes.now) g.E.Entry.WIDTH c.args.at c.args.out.now c.loop-i.place-items c.args.count c.loop-i.i c.requires.1 c.loop-i-test.false c.loop-i.invariant }
