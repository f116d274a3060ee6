-- Four fields, each behind the one before.
use mathlib.Core.Path.{refl}
use mathlib.Core.List.{[], ◌∷◌}
use Prim.Native.Nat.{◌+◌, ◌*◌}
use lib.ListN.{length}
use Rattle.fields.specs.Bytes.{field_bytes, knot_bytes, coordinate_bytes}
use Rattle.format.specs.Format.{degree_tag, knots_tag, x_tag, y_tag, record_bytes}
use Rattle.grid.specs.Limits.{head_bytes}
use Rattle.format.specs.RecordPlaces.{knots_field, x_field}
use Rattle.format.proofs.SizeLaws.{length-knots, length-coordinates}
use Rattle.record_fields.proofs.PutLaws.{put_four}
use native.Mathlib.Omega.{arith}
use Rattle.record_fields.proofs.put_record.Goals as goal

pub returns : goal.returns
unfolding record_bytes
returns c = record {
  result = let a = c.args in
      let knots = length-knots a.curve.knots.now in
      let on_x = length-coordinates a.curve.xs.now in
      let on_y = length-coordinates a.curve.ys.now in
      let fourth = c.put_list_field-3 in let third = c.put_list_field-2 in let second = c.put_list_field in let first = c.put_degree in put_four a.out.now first.new.out second.new.out third.new.out fourth.new.out
      (field_bytes degree_tag (a.curve.degree ∷ [])) (field_bytes knots_tag (knot_bytes a.curve.knots.now))
      (field_bytes x_tag (coordinate_bytes a.curve.xs.now)) (field_bytes y_tag (coordinate_bytes a.curve.ys.now))
      knots_field (x_field (2 * length a.curve.knots.now)) (x_field (2 * length a.curve.knots.now) + head_bytes + 4 * length a.curve.xs.now)
      refl (omega arith) (omega arith) (omega (arith, c.requires))
      first.ensures.result second.ensures.result third.ensures.result fourth.ensures.result;
}
