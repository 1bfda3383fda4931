use Rattle.std.proofs.Common.{◌∙◌, arith}
use Rattle.long_value.specs.Values.{chunk_of}
use Rattle.long_value.specs.Stores.{id_bytes}
use Rattle.long_value.proofs.Keys.{next_key}
use Rattle.long_value.proofs.Held.{chunk_read, chunk_within_any, held_long, none_data, some_data}
use Rattle.long_value.proofs.values.LongValues.chunk.Goals as goal

pub overflow_add-k : goal.overflow_add-k
overflow_add-k c =
    let long = held_long c.args.space.now c.args.self.now c.args.id c.requires.0 c.requires.1 in
    omega (arith, c.requires.2, long.short)

pub returns-in-Some : goal.returns-in-Some
returns-in-Some c value holds =
    let within = chunk_within_any c.args.space.now c.args.self.now c.args.id c.requires.0 value c.args.k c.requires.1 holds c.requires.2 in
    some_data c.in-Some.chunk c.get.result (chunk_of value.bytes c.args.k) c.in-Some.is
    (chunk_read c.args.space.now c.args.self.now c.args.id value c.as_slice.result.now c.args.k c.get.result holds within (c.as_slice.ensures ∙ c.chunk_key.ensures ∙ next_key (id_bytes c.args.id) c.args.k) c.get.ensures)

pub returns-in-None : goal.returns-in-None
returns-in-None c value holds =
    let within = chunk_within_any c.args.space.now c.args.self.now c.args.id c.requires.0 value c.args.k c.requires.1 holds c.requires.2 in
    absurd (none_data c.get.result (chunk_of value.bytes c.args.k) c.in-None.is
    (chunk_read c.args.space.now c.args.self.now c.args.id value c.as_slice.result.now c.args.k c.get.result holds within (c.as_slice.ensures ∙ c.chunk_key.ensures ∙ next_key (id_bytes c.args.id) c.args.k) c.get.ensures))
