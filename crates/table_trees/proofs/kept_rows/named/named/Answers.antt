use Rattle.table_trees.proofs.NamedBytes.{named_is}
use Rattle.table_trees.proofs.kept_rows.named.named.Goals as goal

pub returns : goal.returns
returns c x may is =
    let a = c.from_le_bytes-entry.ensures in
    let b = c.if-value-ne-APART.false in
    let d = c.if-value-ne-APART_VALUE_BYTES.false in
    named_is c.args.value.now c.from_le_bytes-entry.result c.from_le_bytes-place.result x may is b a c.from_le_bytes-place.ensures
