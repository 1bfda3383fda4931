use Rattle.std.proofs.Common.{◌≡◌, ◌⊎◌, List, ℕ, refl, sym, subst, ◌∙◌, ap}
use Rattle.jet_volume.specs.Image.{Image as Files}
use Rattle.store_core.specs.Store.{checkpoint_found, store_end, store_standing, store_volume}
use Rattle.soft_recovery.specs.Opening.{CountsCause, IsUntouched}
use Rattle.soft_recovery.specs.Inspecting.{IsFoundDatabase}
use Rattle.soft_recovery.specs.Refusals.{IsFromOutside, Refuses, RefusesEngine}
use Rattle.soft_recovery.specs.declared.refusals.EngineFault.{EngineFault}
use Rattle.soft_recovery.specs.declared.refusals.RecoverCause.{RecoverCause}
use Rattle.soft_recovery.proofs.OpenedVolumes.{check_counted, check_refused, engine_counted, engine_refused, exactly, found_few, found_standing, found_within}
use Rattle.soft_recovery.proofs.inspecting.inspect.Goals as goal

pub found_database-requires : goal.found_database-requires
found_database-requires g c = found_few c.in-Ok.found (store_standing c.in-Ok.store) c.in-Ok.ensures.form

pub returns-in-Ok-found_database-clause-inspected : goal.returns-in-Ok-found_database-clause-inspected
returns-in-Ok-found_database-clause-inspected g c =
    let found = c.in-Ok.found in
    let standing = store_standing c.in-Ok.store in
    record {
      checkpoint = checkpoint_found found standing;
      stream = c.in-Ok.log.items;
      standing = found_standing found standing c.in-Ok.ensures.form;
      database = subst (λ (bytes : List ℕ). IsFoundDatabase (checkpoint_found found standing) bytes c.in-Ok-found_database.database) c.as_slice.ensures.value (c.in-Ok-found_database.ensures.found standing);
      log = refl;
      stands = c.in-Ok.ensures.stands;
      only = λ tells other bytes stands. let both = c.in-Ok.ensures.finds tells other bytes stands in (sym both.0, sym both.1);
      opened = c.in-Ok.ensures.opened;
    }

pub returns-in-Ok-found_database-clause-exact : goal.returns-in-Ok-found_database-clause-exact
returns-in-Ok-found_database-clause-exact g c = λ tells cause refuses.
    let found = c.in-Ok.found in
    let standing = store_standing c.in-Ok.store in
    let database = subst (λ (bytes : List ℕ). IsFoundDatabase (checkpoint_found found standing) bytes c.in-Ok-found_database.database) c.as_slice.ensures.value (c.in-Ok-found_database.ensures.found standing) in
    c.files_are_refused_for_one_cause.ensures.recovered (g.V.Volume.seen c.args.volume) (checkpoint_found found standing) c.in-Ok.log.items database.holds.state (c.in-Ok.ensures.stands tells)
    (found_within found standing c.in-Ok.ensures.form) database.holds.from cause refuses

pub returns-in-Ok-found_database-clause-limit : goal.returns-in-Ok-found_database-clause-limit
returns-in-Ok-found_database-clause-limit g c = c.in-Ok-found_database.ensures.limit

pub returns-in-Ok-found_database-clause-sessions : goal.returns-in-Ok-found_database-clause-sessions
returns-in-Ok-found_database-clause-sessions g c = c.in-Ok-found_database.ensures.sessions

pub returns-in-Ok-found_database-clause-room : goal.returns-in-Ok-found_database-clause-room
returns-in-Ok-found_database-clause-room g c = c.in-Ok-found_database.ensures.room

pub returns-in-Ok-found_database-clause-bounds : goal.returns-in-Ok-found_database-clause-bounds
returns-in-Ok-found_database-clause-bounds g c = record { up = c.in-Ok.ensures.up; number = c.in-Ok.ensures.number; generation = c.in-Ok.ensures.generation; position = c.in-Ok.ensures.position }

pub returns-in-Ok-found_database-clause-looks : goal.returns-in-Ok-found_database-clause-looks
returns-in-Ok-found_database-clause-looks g c = record { read = c.in-Ok.ensures.seen; any_moment = c.in-Ok.ensures.any_moment }

pub returns-in-Ok-found_database-clause-faults : goal.returns-in-Ok-found_database-clause-faults
returns-in-Ok-found_database-clause-faults g c = c.in-Ok.ensures.faults

pub returns-in-Ok-found_database-clause-identity : goal.returns-in-Ok-found_database-clause-identity
returns-in-Ok-found_database-clause-identity g c = c.in-Ok.ensures.identity

pub returns-in-Err-found_database-clause-refused : goal.returns-in-Err-found_database-clause-refused
returns-in-Err-found_database-clause-refused g c tells =
    let files = g.V.Volume.seen c.args.volume in
    let found = c.in-Ok.found in
    let standing = store_standing c.in-Ok.store in
    let fault : EngineFault = c.in-Err-found_database.fault in
    subst (λ (k : RecoverCause). Refuses files k ⊎ IsFromOutside k) (sym c.from.ensures)
    (engine_refused files (checkpoint_found found standing) c.in-Ok.log.items fault (c.in-Ok.ensures.stands tells) (found_within found standing c.in-Ok.ensures.form)
    (subst (λ (bytes : List ℕ). RefusesEngine (checkpoint_found found standing) bytes fault) c.as_slice.ensures.value (c.in-Err-found_database.ensures.refused standing)))

pub returns-in-Err-found_database-clause-looks : goal.returns-in-Err-found_database-clause-looks
returns-in-Err-found_database-clause-looks g c =
    subst (IsUntouched g.V.Volume.seen g.V.Volume.moment g.V.Volume.left_at c.args.volume) (sym c.into_volume.ensures) (record { read = c.in-Ok.ensures.seen; any_moment = c.in-Ok.ensures.any_moment })

pub returns-in-Err-found_database-clause-faults : goal.returns-in-Err-found_database-clause-faults
returns-in-Err-found_database-clause-faults g c =
    let faults = g.V.Volume.faults in
    subst (λ (k : RecoverCause). CountsCause k (faults c.args.volume) (faults c.into_volume.result)) (sym c.from.ensures)
    (engine_counted c.in-Err-found_database.fault (faults c.args.volume) (faults c.into_volume.result) (ap faults c.into_volume.ensures ∙ c.in-Ok.ensures.faults))

pub returns-in-Err-found_database-clause-identity : goal.returns-in-Err-found_database-clause-identity
returns-in-Err-found_database-clause-identity g c = ap g.V.Volume.identity c.into_volume.ensures ∙ c.in-Ok.ensures.identity

pub returns-in-Err-clause-refused : goal.returns-in-Err-clause-refused
returns-in-Err-clause-refused g c tells =
    let files = g.V.Volume.seen c.args.volume in
    subst (λ (k : RecoverCause). Refuses files k ⊎ IsFromOutside k) (sym c.from-in-Err.ensures) (check_refused files c.in-Err.fault.cause (c.in-Err.ensures.refused tells))

pub returns-in-Err-clause-looks : goal.returns-in-Err-clause-looks
returns-in-Err-clause-looks g c = record { read = c.in-Err.ensures.seen_back; any_moment = c.in-Err.ensures.any_moment_back }

pub returns-in-Err-clause-faults : goal.returns-in-Err-clause-faults
returns-in-Err-clause-faults g c =
    let faults = g.V.Volume.faults in
    subst (λ (k : RecoverCause). CountsCause k (faults c.args.volume) (faults c.in-Err.fault.volume)) (sym c.from-in-Err.ensures)
    (check_counted c.in-Err.fault.cause (faults c.args.volume) (faults c.in-Err.fault.volume) c.in-Err.ensures.faults_back)

pub returns-in-Err-clause-identity : goal.returns-in-Err-clause-identity
returns-in-Err-clause-identity g c = c.in-Err.ensures.identity_back

pub returns-in-Err-found_database-clause-exact : goal.returns-in-Err-found_database-clause-exact
returns-in-Err-found_database-clause-exact g c = λ tells cause refuses.
    let files = g.V.Volume.seen c.args.volume in
    exactly files (record { volume = c.into_volume.result; cause = c.from.result }) cause (c.files_are_refused_for_one_cause.ensures.once files)
    (returns-in-Err-found_database-clause-refused g c tells) refuses

pub returns-in-Err-clause-exact : goal.returns-in-Err-clause-exact
returns-in-Err-clause-exact g c = λ tells cause refuses.
    let files = g.V.Volume.seen c.args.volume in
    exactly files (record { volume = c.in-Err.fault.volume; cause = c.from-in-Err.result }) cause (c.files_are_refused_for_one_cause.ensures.once files)
    (returns-in-Err-clause-refused g c tells) refuses
