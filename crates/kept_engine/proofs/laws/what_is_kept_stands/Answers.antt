use Rattle.kept_engine.proofs.Surviving.{given_all, keeps_leaves}
use Rattle.kept_engine.proofs.laws.what_is_kept_stands.Goals as goal

pub returns-clause-now : goal.returns-clause-now
returns-clause-now g c = keeps_leaves g.V.Volume.seen g.V.Volume.moment g.V.Volume.left_at c.what_is_kept_survives.ensures

pub returns-clause-all : goal.returns-clause-all
returns-clause-all g c = given_all g.V.Volume.seen g.V.Volume.moment g.V.Volume.left_at c.what_is_kept_survives.ensures
