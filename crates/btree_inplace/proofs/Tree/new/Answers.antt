-- Its one page was taken.
use Rattle.btree_inplace.proofs.Laws.{takes_one}
use Rattle.btree_inplace.proofs.Tree.new.Goals as goal

pub returns-clause-pages : goal.returns-clause-pages
returns-clause-pages c = takes_one c.args.space.now c.in_ok-root.root c.take.new.self c.in_ok-root.ensures.ok
