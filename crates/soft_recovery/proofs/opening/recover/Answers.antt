use Rattle.std.proofs.Common.{inr, ◌∙◌}
use Rattle.std.proofs.lemmas.Result.{IfErr-weaker}
use Rattle.laws_engine.specs.EngineState.{EngineState, HasRoomForEnds}
use Rattle.recovered_states.specs.Recovers.{Recovers}
use Rattle.store_core.specs.Stands.{Stands}
use Rattle.store_core.specs.Store.{store_volume}
use Rattle.soft_recovery.specs.Opening.{volume_of}
use Rattle.soft_recovery.proofs.OpenedVolumes.{all_sealed, counted_on, engine_has, engine_kept, exactly, not_told, opened_so, recovered_unsealed, recovers_still, seal_outside, sealed_has, surely, untouched_has}
use Rattle.soft_recovery.proofs.opening.recover.Goals as goal

pub sealed-requires : goal.sealed-requires
sealed-requires g c = c.in-Ok.ensures.bounds

-- ---- a volume that is sealed

pub returns-then-write-clause-recovered : goal.returns-then-write-clause-recovered
returns-then-write-clause-recovered g c =
    all_sealed g.V.Volume.tells_contents g.V.Volume.seen g.V.Volume.moment g.V.Volume.left_at c.opened_stores_stand.ensures.opened c.args.write c.args.volume c.in-Ok.recovered c.sealed.result
    c.in-Ok.ensures.recovered c.sealed.ensures.engine c.sealed.ensures.standing c.sealed.ensures.sealed

pub returns-then-write-clause-limit : goal.returns-then-write-clause-limit
returns-then-write-clause-limit g c = engine_kept (λ (e : EngineState). e.limit) c.args.limit c.in-Ok.recovered.engine c.sealed.result c.in-Ok.ensures.limit c.sealed.ensures.engine

pub returns-then-write-clause-sessions : goal.returns-then-write-clause-sessions
returns-then-write-clause-sessions g c = engine_kept (λ (e : EngineState). e.sessions) _ c.in-Ok.recovered.engine c.sealed.result c.in-Ok.ensures.sessions c.sealed.ensures.engine

pub returns-then-write-clause-room : goal.returns-then-write-clause-room
returns-then-write-clause-room g c = engine_has HasRoomForEnds c.in-Ok.recovered.engine c.sealed.result c.in-Ok.ensures.room c.sealed.ensures.engine

pub returns-then-write-clause-bounds : goal.returns-then-write-clause-bounds
returns-then-write-clause-bounds g c = c.sealed.ensures.bounds

pub returns-then-write-clause-refused : goal.returns-then-write-clause-refused
returns-then-write-clause-refused g c = IfErr-weaker c.sealed.result _ _ (λ fault is tells. inr (seal_outside fault is)) c.sealed.ensures.cause

pub returns-then-write-clause-exact : goal.returns-then-write-clause-exact
returns-then-write-clause-exact g c tells cause refuses =
    let has = c.in-Ok.ensures.recovered in
    absurd (c.files_are_refused_for_one_cause.ensures.recovered (g.V.Volume.seen c.args.volume) has.checkpoint has.stream has.holds.state (has.stands tells) has.within has.holds.from cause refuses)

pub returns-then-write-clause-sure : goal.returns-then-write-clause-sure
returns-then-write-clause-sure g c tells checkpoint stream state stands within from = IfErr-weaker c.sealed.result _ _ (λ fault is. seal_outside fault is) c.sealed.ensures.cause

pub returns-then-write-clause-looks : goal.returns-then-write-clause-looks
returns-then-write-clause-looks g c not = not_told c.args.write c.if-write.true not

pub returns-then-write-clause-back : goal.returns-then-write-clause-back
returns-then-write-clause-back g c = IfErr-weaker c.sealed.result _ _ (λ fault is not. absurd (not is)) c.sealed.ensures.cause

pub returns-then-write-clause-still : goal.returns-then-write-clause-still
returns-then-write-clause-still g c tells cause refuses =
    let has = c.in-Ok.ensures.recovered in
    absurd (c.files_are_refused_for_one_cause.ensures.recovered (g.V.Volume.seen c.args.volume) has.checkpoint has.stream has.holds.state (has.stands tells) has.within has.holds.from cause refuses)

pub returns-then-write-clause-any_moment : goal.returns-then-write-clause-any_moment
returns-then-write-clause-any_moment g c tells settled checkpoint stream stands =
    sealed_has g.V.Volume.seen g.V.Volume.moment g.V.Volume.left_at c.args.volume (store_volume c.in-Ok.recovered.store) (volume_of c.sealed.result) (Stands checkpoint stream) c.in-Ok.ensures.looks settled stands
    (c.sealed.ensures.any_moment tells checkpoint stream
    (opened_so g.V.Volume.tells_contents g.V.Volume.seen g.V.Volume.moment g.V.Volume.left_at c.args.volume c.in-Ok.recovered checkpoint stream c.in-Ok.ensures.recovered tells settled stands))

pub returns-then-write-clause-recovers : goal.returns-then-write-clause-recovers
returns-then-write-clause-recovers g c tells settled state recovers =
    recovers_still g.V.Volume.seen g.V.Volume.moment g.V.Volume.left_at c.args.volume (volume_of c.sealed.result) state recovers
    (λ checkpoint stream stands.
    sealed_has g.V.Volume.seen g.V.Volume.moment g.V.Volume.left_at c.args.volume (store_volume c.in-Ok.recovered.store) (volume_of c.sealed.result) (Stands checkpoint stream) c.in-Ok.ensures.looks settled stands
    (c.sealed.ensures.any_moment tells checkpoint stream
    (opened_so g.V.Volume.tells_contents g.V.Volume.seen g.V.Volume.moment g.V.Volume.left_at c.args.volume c.in-Ok.recovered checkpoint stream c.in-Ok.ensures.recovered tells settled stands)))

pub returns-then-write-clause-faults : goal.returns-then-write-clause-faults
returns-then-write-clause-faults g c = counted_on g.V.Volume.faults c.args.volume (store_volume c.in-Ok.recovered.store) c.sealed.result c.in-Ok.ensures.faults c.sealed.ensures.faults

pub returns-then-write-clause-identity : goal.returns-then-write-clause-identity
returns-then-write-clause-identity g c = c.sealed.ensures.identity ∙ c.in-Ok.ensures.identity

-- ---- one that is looked at

pub returns-else-write-clause-recovered : goal.returns-else-write-clause-recovered
returns-else-write-clause-recovered g c =
    recovered_unsealed g.V.Volume.tells_contents g.V.Volume.seen g.V.Volume.moment g.V.Volume.left_at c.args.write c.args.volume c.in-Ok.recovered c.if-write.false c.in-Ok.ensures.recovered

pub returns-else-write-clause-limit : goal.returns-else-write-clause-limit
returns-else-write-clause-limit g c = c.in-Ok.ensures.limit

pub returns-else-write-clause-sessions : goal.returns-else-write-clause-sessions
returns-else-write-clause-sessions g c = c.in-Ok.ensures.sessions

pub returns-else-write-clause-room : goal.returns-else-write-clause-room
returns-else-write-clause-room g c = c.in-Ok.ensures.room

pub returns-else-write-clause-bounds : goal.returns-else-write-clause-bounds
returns-else-write-clause-bounds g c = c.in-Ok.ensures.bounds

pub returns-else-write-clause-exact : goal.returns-else-write-clause-exact
returns-else-write-clause-exact g c tells cause refuses =
    let has = c.in-Ok.ensures.recovered in
    absurd (c.files_are_refused_for_one_cause.ensures.recovered (g.V.Volume.seen c.args.volume) has.checkpoint has.stream has.holds.state (has.stands tells) has.within has.holds.from cause refuses)

pub returns-else-write-clause-looks : goal.returns-else-write-clause-looks
returns-else-write-clause-looks g c not = c.in-Ok.ensures.looks

pub returns-else-write-clause-still : goal.returns-else-write-clause-still
returns-else-write-clause-still g c tells cause refuses = c.in-Ok.ensures.looks

pub returns-else-write-clause-any_moment : goal.returns-else-write-clause-any_moment
returns-else-write-clause-any_moment g c tells settled checkpoint stream stands =
    untouched_has g.V.Volume.seen g.V.Volume.moment g.V.Volume.left_at c.args.volume (store_volume c.in-Ok.recovered.store) (Stands checkpoint stream) c.in-Ok.ensures.looks settled stands

pub returns-else-write-clause-recovers : goal.returns-else-write-clause-recovers
returns-else-write-clause-recovers g c tells settled state recovers =
    untouched_has g.V.Volume.seen g.V.Volume.moment g.V.Volume.left_at c.args.volume (store_volume c.in-Ok.recovered.store) (λ files. Recovers files state) c.in-Ok.ensures.looks settled recovers

pub returns-else-write-clause-faults : goal.returns-else-write-clause-faults
returns-else-write-clause-faults g c = c.in-Ok.ensures.faults

pub returns-else-write-clause-identity : goal.returns-else-write-clause-identity
returns-else-write-clause-identity g c = c.in-Ok.ensures.identity

-- ---- one that is refused

pub returns-in-Err-clause-refused : goal.returns-in-Err-clause-refused
returns-in-Err-clause-refused g c = c.in-Err.ensures.refused

pub returns-in-Err-clause-exact : goal.returns-in-Err-clause-exact
returns-in-Err-clause-exact g c tells cause refuses =
    let files = g.V.Volume.seen c.args.volume in
    exactly files c.in-Err.fault cause (c.files_are_refused_for_one_cause.ensures.once files) (c.in-Err.ensures.refused tells) refuses

pub returns-in-Err-clause-sure : goal.returns-in-Err-clause-sure
returns-in-Err-clause-sure g c tells checkpoint stream state stands within from =
    let files = g.V.Volume.seen c.args.volume in
    surely files c.in-Err.fault (c.files_are_refused_for_one_cause.ensures.recovered files checkpoint stream state stands within from c.in-Err.fault.cause) (c.in-Err.ensures.refused tells)

pub returns-in-Err-clause-looks : goal.returns-in-Err-clause-looks
returns-in-Err-clause-looks g c not = c.in-Err.ensures.looks

pub returns-in-Err-clause-back : goal.returns-in-Err-clause-back
returns-in-Err-clause-back g c not = c.in-Err.ensures.looks

pub returns-in-Err-clause-still : goal.returns-in-Err-clause-still
returns-in-Err-clause-still g c tells cause refuses = c.in-Err.ensures.looks

pub returns-in-Err-clause-any_moment : goal.returns-in-Err-clause-any_moment
returns-in-Err-clause-any_moment g c tells settled checkpoint stream stands =
    untouched_has g.V.Volume.seen g.V.Volume.moment g.V.Volume.left_at c.args.volume c.in-Err.fault.volume (Stands checkpoint stream) c.in-Err.ensures.looks settled stands

pub returns-in-Err-clause-recovers : goal.returns-in-Err-clause-recovers
returns-in-Err-clause-recovers g c tells settled state recovers =
    untouched_has g.V.Volume.seen g.V.Volume.moment g.V.Volume.left_at c.args.volume c.in-Err.fault.volume (λ files. Recovers files state) c.in-Err.ensures.looks settled recovers

pub returns-in-Err-clause-faults : goal.returns-in-Err-clause-faults
returns-in-Err-clause-faults g c = c.in-Err.ensures.faults

pub returns-in-Err-clause-identity : goal.returns-in-Err-clause-identity
returns-in-Err-clause-identity g c = c.in-Err.ensures.identity
