use Rattle.std.proofs.Common.{◌≡◌, [], None, sym, ap, subst, ◌∙◌}
use Rattle.laws_engine.specs.HeldRecords.{from_oldest_kept}
use Rattle.stored_variants.specs.StoredVersions.{StoredVersions}
use Rattle.laws_engine.specs.EngineState.{EngineState}
use Rattle.engine_core.proofs.SessionsGivenUp.{all_left, closed_told, none_needed}
use Rattle.engine_core.proofs.closing.close.Goals as goal

pub forget_all-requires : goal.forget_all-requires
forget_all-requires c =
    let is = c.give_up_sessions.ensures in
    let new = c.give_up_sessions.new.engine in
    subst (λ (e : EngineState). from_oldest_kept None e.store.held ≡ []) (sym c.engine.view_is)
    (none_needed c.an_engine_without_sessions_tells_its_state.ensures.cleaned c.requires.held.0 new (is.holds c.requires.held.0 c.requires.held.1) (all_left new.sessions is.sessions))

pub returns : goal.returns
returns c = λ state h.
    ap (λ (v : StoredVersions). record { limit = c.engine.inside.limit; number = c.engine.inside.number; greatest_table = v.greatest_table; newest_put = v.newest_put; sessions = c.engine.inside.sessions; store = v.store }) c.forget_all.ensures
    ∙ ap (λ (e : EngineState). record e { store = record e.store { held = [] } }) c.engine.view_is
    ∙ closed_told c.an_engine_without_sessions_tells_its_state.ensures.cleaned c.args.engine.now c.give_up_sessions.new.engine c.give_up_sessions.ensures state h
