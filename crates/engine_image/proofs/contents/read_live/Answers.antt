use Rattle.engine_image.proofs.LiveRead.{read_formed, read_unformed}
use Rattle.engine_image.proofs.contents.read_live.Goals as goal

pub returns-in-Ok-Some : goal.returns-in-Ok-Some
returns-in-Ok-Some c =
    read_formed c.live_parts_are_read_back.ensures.only c.args.bytes.now c.items_are_bytes.ensures c.in-Ok-Some.field-0 c.in-Ok-Some.part c.in-Ok-Some.field-0-is c.in-Ok-Some.ensures.opened c.in-Ok-Some.ensures.undone

pub returns-in-Ok-None : goal.returns-in-Ok-None
returns-in-Ok-None c = read_unformed c.args.bytes.now c.in-Ok-None.field-0 c.nothing.result c.in-Ok-None.field-0-is c.nothing.ensures c.in-Ok-None.ensures.opened
