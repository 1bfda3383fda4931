use Rattle.std.proofs.Common.{ℕ, Option, sym, subst}
use Rattle.laws_engine.specs.EngineState.{EngineState}
use Rattle.laws_engine.specs.HoldsState.{HoldsState}
use Rattle.stored_variants.specs.StoredVersions.{StoredVersions}
use Rattle.engine_core.specs.Cleans.{AreUnneeded, CanGo}
use Rattle.engine_core.proofs.cleaning.clean.Goals as goal

pub returns-clause-holds : goal.returns-clause-holds
returns-clause-holds c = λ state h.
    let was : EngineState = record {
      limit = c.engine.inside.limit;
      number = c.engine.inside.number;
      greatest_table = c.engine.inside.tables.greatest_table;
      newest_put = c.engine.inside.tables.newest_put;
      sessions = c.engine.inside.sessions;
      store = c.engine.inside.tables.store;
    } in
    let may_go : CanGo c.forget_first.result was = subst (λ (o : Option ℕ). AreUnneeded o c.forget_first.result c.engine.inside.tables.store.held) c.oldest_begin-oldest.ensures c.forget_first.ensures.unneeded in
    let held : HoldsState was state = subst (λ (e : EngineState). HoldsState e state) (sym c.engine.view_is) h in
    subst (λ (v : StoredVersions). HoldsState (record {
      limit = c.engine.inside.limit;
      number = c.engine.inside.number;
      greatest_table = v.greatest_table;
      newest_put = v.newest_put;
      sessions = c.engine.inside.sessions;
      store = v.store;
    }) state) (sym c.forget_first.ensures.gone) (c.changes_that_are_not_needed_may_go.ensures c.forget_first.result was state may_go held)
