-- In either case the zeros change in number, and those at the end make up for it.
use Rattle.page_image.proofs.Spelled.{zeros-grow, zeros-shrink}
use Rattle.page_image.proofs.spelling.resize_zeros.Goals as goal

pub returns-then-new-old : goal.returns-then-new-old
returns-then-new-old c a y is from to = zeros-grow a y c.args.bytes.now c.insert_zeros.new.bytes c.args.at c.args.end c.args.old c.args.new c.if-new-old.true c.requires.room is from to c.insert_zeros.ensures

pub returns-else-new-old : goal.returns-else-new-old
returns-else-new-old c a y is from to = zeros-shrink a y c.args.bytes.now c.remove_bytes.new.bytes c.args.at c.args.end c.args.old c.args.new c.if-new-old.false c.requires.within is from to c.remove_bytes.ensures
