use Rattle.image_contents.proofs.HiddenKeys.{not_eight, of_eight}
use Rattle.image_contents.proofs.rows.indexing.is_hidden_key.Goals as goal

pub returns-then-bookmark-ne-HIDDEN_KEY_BYTES : goal.returns-then-bookmark-ne-HIDDEN_KEY_BYTES
returns-then-bookmark-ne-HIDDEN_KEY_BYTES c = not_eight c.args.number c.args.bookmark.now c.if-bookmark-ne-HIDDEN_KEY_BYTES.true

pub returns : goal.returns
returns c = of_eight c.args.number c.args.bookmark.now c.read_u64.result c.is_made.result c.if-bookmark-ne-HIDDEN_KEY_BYTES.false c.read_u64.ensures c.is_made.ensures
