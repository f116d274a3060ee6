-- A head, and the entries behind it.
use Rattle.std.proofs.Common.{rules}
use Prim.Native.Nat.{◌*◌}
use lib.ListN.{length}
use Rattle.fields.specs.Bytes.{each}
use Rattle.fields.proofs.PlaceLaws.{length-each}
use Rattle.record_fields.proofs.PutLaws.{put-field}
use Rattle.record_fields.proofs.put_list_field.Goals as goal

pub returns : goal.returns
returns g c = record {
  result = let a = c.args in
      put-field a.out.now c.put_head.new.out c.put_entries.new.out a.at a.tag (g.E.Entry.WIDTH * length a.entries.now) (each g.E.Entry.parts a.entries.now)
      (length-each g.E.Entry.parts g.E.Entry.WIDTH g.met.E.Entry.wide a.entries.now) c.requires (search rules) (search rules);
}
