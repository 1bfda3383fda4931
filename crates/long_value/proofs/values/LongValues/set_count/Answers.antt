use Rattle.std.proofs.Common.{◌≡◌, ◌≤◌, ap, ◌∙◌, length, arith}
use Rattle.byteorder.specs.Endian.{little_bytes}
use Rattle.btree_inplace.specs.Trees.{pages_of}
use Rattle.long_value.specs.Values.{head_node}
use Rattle.long_value.specs.Stores.{id_bytes}
use Rattle.std.specs.Prelude.{◌++◌}
use Rattle.long_value.proofs.Changes.{exchanges_written}
use Rattle.long_value.proofs.Held.{head_found, recounted, some_fits}
use Rattle.long_value.proofs.values.LongValues.set_count.Goals as goal

pub replace-requires-clause-fits : goal.replace-requires-clause-fits
replace-requires-clause-fits c =
    let value = c.requires.there.0 in
    let found = head_found c.args.space.now c.args.self.now c.args.id value c.as_slice.result.now c.requires.there.1 (c.as_slice.ensures ∙ c.chunk_key.ensures) in
    let eight : length c.as_slice-2.result.now ≡ 8 = ap length (c.as_slice-2.ensures ∙ c.head_bytes-head.ensures) in
    some_fits _ (head_node (id_bytes c.args.id) value) (λ n. length c.as_slice-2.result.now ≤ n.extent) found (omega (arith, eight))

pub returns-clause-values : goal.returns-clause-values
returns-clause-values c values value has e =
    recounted c.args.space.now c.replace.new.space c.args.self.now c.replace.new.self c.args.id values value c.args.count c.as_slice.result.now c.as_slice-2.result.now has e c.requires.some (omega (arith, c.ranges.count))
    (c.as_slice.ensures ∙ c.chunk_key.ensures)
    (c.as_slice-2.ensures ∙ c.head_bytes-head.ensures ∙ ap (λ n. little_bytes 4 c.args.count ++ little_bytes 4 n) (c.length.ensures value (values, has, e)))
    c.replace.ensures.tree c.replace.ensures.nodes

pub returns-clause-pages : goal.returns-clause-pages
returns-clause-pages c =
    exchanges_written c.args.space.now c.replace.new.space (pages_of c.args.space.now c.args.self.now.tree) (pages_of c.replace.new.space c.replace.new.self) c.replace.ensures.pages c.replace.ensures.others
