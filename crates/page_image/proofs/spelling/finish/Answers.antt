-- The count makes the bytes behind the checksum a page's.
use Rattle.std.proofs.Common.{drop, ap, ◌∙◌, arith}
use Rattle.page_image.proofs.Spelled.{recounted}
use Rattle.page_image.proofs.spelling.finish.Goals as goal

pub returns : goal.returns
returns c p q number kind all edited =
    ap (drop 8) c.set_count.ensures ∙ recounted p q c.args.bytes.now c.args.count number kind (omega arith) edited all
