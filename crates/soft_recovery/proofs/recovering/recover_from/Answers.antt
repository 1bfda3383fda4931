use Rattle.std.proofs.Common.{ap, ◌∙◌}
use Rattle.database_state.specs.Step.{state_after_all}
use Rattle.laws_engine.specs.EngineState.{EngineState}
use Rattle.soft_recovery.proofs.ClosedEngines.{labels_held, not_recovered, recovered, room_left}
use Rattle.soft_recovery.proofs.recovering.recover_from.Goals as goal

pub close-requires-clause-held : goal.close-requires-clause-held
close-requires-clause-held c =
    let all = c.in-Ok.ensures.replayed c.requires.state c.requires.holds in
    (state_after_all c.requires.state all.entries, all.holds)

pub close-requires-clause-labels : goal.close-requires-clause-labels
close-requires-clause-labels c =
    let all = c.in-Ok.ensures.replayed c.requires.state c.requires.holds in
    labels_held c.replay.new.engine (state_after_all c.requires.state all.entries) all.holds (all.sound c.requires.sound)

pub returns-in-Ok-clause-recovered : goal.returns-in-Ok-clause-recovered
returns-in-Ok-clause-recovered c checkpoint of =
    recovered c.a_closed_state_is_held_by_its_tables.ensures.holds c.an_engine_without_sessions_tells_its_state.ensures.opened c.args.engine.now c.replay.new.engine c.close.new.engine c.args.bytes.now checkpoint
    c.requires c.in-Ok.ensures.replayed c.close.ensures of

pub returns-in-Ok-clause-limit : goal.returns-in-Ok-clause-limit
returns-in-Ok-clause-limit c =
    let all = c.in-Ok.ensures.replayed c.requires.state c.requires.holds in
    ap (λ (e : EngineState). e.limit) (c.close.ensures (state_after_all c.requires.state all.entries) all.holds) ∙ c.in-Ok.ensures.limit

pub returns-in-Ok-clause-sessions : goal.returns-in-Ok-clause-sessions
returns-in-Ok-clause-sessions c =
    let all = c.in-Ok.ensures.replayed c.requires.state c.requires.holds in
    ap (λ (e : EngineState). e.sessions) (c.close.ensures (state_after_all c.requires.state all.entries) all.holds)

pub returns-in-Ok-clause-room : goal.returns-in-Ok-clause-room
returns-in-Ok-clause-room c room =
    let all = c.in-Ok.ensures.replayed c.requires.state c.requires.holds in
    let ends = c.ends_always_find_room.ensures in
    let spelled = c.spelled_entries_make_what_is_built.ensures in
    room_left ends.many ends.most spelled.built spelled.typed c.args.engine.now c.replay.new.engine c.close.new.engine c.args.bytes.now c.requires.state c.requires.holds all c.close.ensures room

pub returns-in-Err-clause-refused : goal.returns-in-Err-clause-refused
returns-in-Err-clause-refused c is checkpoint of state from = not_recovered c.args.engine.now c.args.bytes.now checkpoint state (c.in-Err.ensures.refused is) of from
