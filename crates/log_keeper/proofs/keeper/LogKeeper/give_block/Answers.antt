use Rattle.std.proofs.Common.{List, ℕ, take, refl, ap}
use Rattle.log_keeper.specs.Keeping.{keeper_given, between}
use Rattle.log_keeper.proofs.Giving.{keeps_more, giving}
use Rattle.log_keeper.proofs.keeper.LogKeeper.give_block.Goals as goal

pub returns-in-Ok-clause-keeps : goal.returns-in-Ok-clause-keeps
returns-in-Ok-clause-keeps g c tells checkpoint base whole keeps next =
    keeps_more g.V.Volume.seen g.V.Volume.moment g.V.Volume.left_at c.args.self.now _ checkpoint base c.args.count whole (take c.args.count c.deref.result.now) keeps next
    (ap (λ (l : List ℕ). take c.args.count l) c.deref.ensures.value) refl
    (c.in-Ok.ensures.flushed tells checkpoint (between base (keeper_given c.args.self.now) whole) keeps.writable)

pub returns-in-Ok-clause-any_moment : goal.returns-in-Ok-clause-any_moment
returns-in-Ok-clause-any_moment g c tells checkpoint base whole keeps next =
    giving g.V.Volume.seen g.V.Volume.moment g.V.Volume.left_at c.args.self.now checkpoint base c.args.count whole (take c.args.count c.deref.result.now) _ _ keeps next
    (ap (λ (l : List ℕ). take c.args.count l) c.deref.ensures.value) (c.flush.ensures.any_moment tells checkpoint (between base (keeper_given c.args.self.now) whole) keeps.writable)

pub returns-in-Err-clause-any_moment : goal.returns-in-Err-clause-any_moment
returns-in-Err-clause-any_moment g c tells checkpoint base whole keeps next =
    giving g.V.Volume.seen g.V.Volume.moment g.V.Volume.left_at c.args.self.now checkpoint base c.args.count whole (take c.args.count c.deref.result.now) _ _ keeps next
    (ap (λ (l : List ℕ). take c.args.count l) c.deref.ensures.value) (c.flush.ensures.any_moment tells checkpoint (between base (keeper_given c.args.self.now) whole) keeps.writable)
