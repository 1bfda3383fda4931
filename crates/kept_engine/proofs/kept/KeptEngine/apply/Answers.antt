use Rattle.std.proofs.Common.{refl, Some}
use Rattle.index_derive.specs.Steps.{entries_of_step}
use Rattle.kept_engine.specs.Keeping.{kept_logged}
use Rattle.kept_engine.proofs.Making.{made_keeps, may_be_cleaned, ready_cleaned, ready_made}
use Rattle.kept_engine.proofs.Surviving.{logged_as, relogged_keeps}
use Rattle.kept_engine.proofs.kept.KeptEngine.apply.Goals as goal

pub returns-in-Ok-clause-keeps : goal.returns-in-Ok-clause-keeps
returns-in-Ok-clause-keeps g c opening entries keeps =
    let old = c.args.self.now in
    let was = kept_logged old in
    let step = c.args.step.now in
    let may = c.requires.lawful in
    let made = entries_of_step (Some step) in
    made_keeps g.V.Volume.seen g.V.Volume.moment g.V.Volume.left_at c.entries_to_come_change_nothing.ensures.covers opening entries made old _ keeps refl
    (logged_as _ _ _ _ _ _ c.in-Ok.ensures.engine c.in-Ok.ensures.stream
    (c.a_log_goes_on_with_its_engine.ensures.step opening entries was.engine was.stream keeps.logged may.state step may.holds may.lawful may.built may.typed c.apply.ensures.loggable))

pub returns-in-Ok-clause-ready : goal.returns-in-Ok-clause-ready
returns-in-Ok-clause-ready g c =
    let log = c.a_log_goes_on_with_its_engine.ensures in
    ready_made c.lawful_entries_keep_states_sound.ensures.kept log.first log.step c.ends_always_find_room.ensures.step c.args.self.now _ c.args.step.now c.requires.ready c.requires.lawful
    c.apply.ensures.loggable refl c.in-Ok.ensures.engine c.in-Ok.ensures.stream

pub returns-in-Err-clause-still : goal.returns-in-Err-clause-still
returns-in-Err-clause-still g c opening entries keeps =
    let old = c.args.self.now in
    let was = kept_logged old in
    relogged_keeps g.V.Volume.seen g.V.Volume.moment g.V.Volume.left_at opening entries old _ keeps refl
    (logged_as _ _ _ _ _ _ refl c.in-Err.ensures.kept
    (c.a_log_goes_on_with_its_engine.ensures.same opening entries was.engine _ was.stream keeps.logged
    (may_be_cleaned c.a_clean_leaves_the_state.ensures was.engine _ c.in-Err.ensures.cleaned)))

pub returns-in-Err-clause-ready : goal.returns-in-Err-clause-ready
returns-in-Err-clause-ready g c = ready_cleaned c.a_clean_leaves_the_state.ensures c.args.self.now _ c.requires.ready refl c.in-Err.ensures.cleaned c.in-Err.ensures.kept
