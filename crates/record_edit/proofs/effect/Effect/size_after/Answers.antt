use Rattle.std.proofs.Common.{◌≡◌, ◌<◌, length, arith, ap, sym, ◌∙◌}
use Rattle.column_set.specs.RecordValues.{size_of_length, size_of_value}
use Rattle.record_edit.proofs.Stored.{size_of_values-set}
use Rattle.record_edit.proofs.effect.Effect.size_after.Goals as goal

-- the other values have their room, and the new one its own
pub returns-in-Set : goal.returns-in-Set
returns-in-Set c value is =
    let fits : c.in-Set.place < length c.args.values.now = rw c.in-Set.is at c.requires in
    let whole = size_of_values-set c.args.values.now c.in-Set.place value fits in
    let room : c.size_of_length-room.result ≡ size_of_value value = c.size_of_length-room.ensures ∙ ap size_of_length (sym is) in
    rw c.in-Set.is (omega (arith, whole, room, c.saturating_add.ensures, c.size_without.ensures))
