use Rattle.std.proofs.Common.{◌<◌, ◌^◌, arith}
use Rattle.table_trees.proofs.NamedBytes.{id_tested}
use Rattle.table_trees.proofs.kept_rows.named.is_same.Goals as goal

pub returns-then-other-id : goal.returns-then-other-id
returns-then-other-id c =
    let e : c.in-Some.other.entry < 2 ^ 64 = omega arith in
    let f : c.args.id.entry < 2 ^ 64 = omega arith in
    let g : c.in-Some.other.place < 2 ^ 32 = omega arith in
    let h : c.args.id.place < 2 ^ 32 = omega arith in
    id_tested c.identifiers_differ.ensures c.in-Some.other c.args.id c.args.named c.in-Some.is e f g h c.if-other-id.true
