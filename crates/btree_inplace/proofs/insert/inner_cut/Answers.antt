-- The nodes are small, so that the part behind the half has room too.
use Rattle.btree_inplace.proofs.Cuts.{inner_right, parted_at}
use Rattle.btree_inplace.proofs.insert.inner_cut.Goals as goal

pub returns-clause-parted : goal.returns-clause-parted
returns-clause-parted c = parted_at c.args.page.now.nodes c.half.result c.half.ensures.page.rising c.half.ensures.some c.half.ensures.within

pub returns-clause-right : goal.returns-clause-right
returns-clause-right c = inner_right c.args.page.now.nodes c.half.result c.requires.small c.half.ensures.within c.half.ensures.page.size c.half.ensures.more
