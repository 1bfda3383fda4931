use Rattle.std.proofs.Common.{List, length, ◌==◌, not, ◌∙◌, ap, subst}
use Rattle.std.specs.Prelude.{Err}
use Rattle.engine_image.specs.declared.fault.ImageFault.{ImageFault}
use Rattle.store_core.specs.Store.{checkpoint_found}
use Rattle.version_cleanup.specs.LiveSessions.{LiveState}
use Rattle.soft_recovery.specs.Refusals.{RefusesImage}
use Rattle.soft_recovery.specs.declared.fault.ReplayFault.{ReplayFault}
use Rattle.soft_recovery.proofs.ShownEngines.{log_refused}
use Rattle.soft_recovery.proofs.found.found_database.Goals as goal

pub shown_engine-requires : goal.shown_engine-requires
shown_engine-requires c = c.requires

pub recover_from-requires : goal.recover_from-requires
recover_from-requires c = c.in-Ok.ensures.may

pub returns-in-Ok-recover_from-clause-found : goal.returns-in-Ok-recover_from-clause-found
returns-in-Ok-recover_from-clause-found c standing =
    let numbers = c.in-Ok.ensures.numbers standing in
    record {
      holds = c.in-Ok-recover_from.ensures.recovered (checkpoint_found c.args.found standing) (c.in-Ok.ensures.shown standing);
      number = c.number-number.ensures ∙ numbers.0;
      session = ap not (c.is_empty-has_session.ensures ∙ ap (λ (all : List LiveState). length all == 0) (c.sessions.ensures ∙ numbers.1));
    }

pub returns-in-Ok-recover_from-clause-limit : goal.returns-in-Ok-recover_from-clause-limit
returns-in-Ok-recover_from-clause-limit c = c.in-Ok-recover_from.ensures.limit ∙ c.in-Ok.ensures.limit

pub returns-in-Ok-recover_from-clause-sessions : goal.returns-in-Ok-recover_from-clause-sessions
returns-in-Ok-recover_from-clause-sessions c = c.in-Ok-recover_from.ensures.sessions

pub returns-in-Ok-recover_from-clause-room : goal.returns-in-Ok-recover_from-clause-room
returns-in-Ok-recover_from-clause-room c = c.in-Ok-recover_from.ensures.room c.in-Ok.ensures.room

pub returns-in-Err-LogFileCorrupt-clause-refused : goal.returns-in-Err-LogFileCorrupt-clause-refused
returns-in-Err-LogFileCorrupt-clause-refused c standing =
    log_refused (checkpoint_found c.args.found standing) c.args.log.now c.in-Ok.engine (c.in-Ok.ensures.shown standing)
    (λ other holds state from. c.in-Err-LogFileCorrupt.ensures.refused (ap (λ (f : ReplayFault). Err f) c.in-Err-LogFileCorrupt.field-0-is) other holds state from)

pub returns-in-Err-NotSound-clause-refused : goal.returns-in-Err-NotSound-clause-refused
returns-in-Err-NotSound-clause-refused c standing =
    subst (λ (why : ImageFault). RefusesImage (checkpoint_found c.args.found standing) why) c.in-Err-NotSound.field-0-is (c.in-Err-NotSound.ensures.refused standing)
