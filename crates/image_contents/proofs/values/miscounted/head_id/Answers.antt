use Rattle.std.proofs.Common.{arith}
use Rattle.image_contents.specs.NodesLeft.{node_in}
use Rattle.image_contents.proofs.HeadsRead.{no_first, no_long, own_id}
use Rattle.image_contents.proofs.values.miscounted.head_id.Goals as goal

pub returns-then-front-ne-ID_BYTES : goal.returns-then-front-ne-ID_BYTES
returns-then-front-ne-ID_BYTES c = no_long (node_in c.args.node) c.id_of-front.result.now c.id_of-front.ensures c.if-front-ne-ID_BYTES.true

pub returns-then-not-is_chunk_key : goal.returns-then-not-is_chunk_key
returns-then-not-is_chunk_key c = no_first (node_in c.args.node) c.id_of-front.result.now c.is_chunk_key.result c.id_of-front.ensures c.is_chunk_key.ensures c.if-not-is_chunk_key.true

pub returns : goal.returns
returns c =
    own_id (node_in c.args.node) c.id_of-front.result.now c.copy_from_slice.new.self c.is_chunk_key.result c.id_of-front.ensures (omega (arith, c.if-front-ne-ID_BYTES.false)) c.is_chunk_key.ensures c.if-not-is_chunk_key.false c.copy_from_slice.ensures.after
