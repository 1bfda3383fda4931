use Rattle.std.proofs.Common.{◌≡◌, List, ℕ, refl, sym, ap, subst, ◌∙◌}
use Rattle.database_state.specs.State.{empty_state}
use Rattle.checkpoint.specs.declared.image.Standing.{Standing}
use Rattle.soft_recovery.specs.Inspecting.{IsFoundDatabase, IsStanding}
use Rattle.soft_recovery.specs.Opening.{IsUntouched}
use Rattle.store_core.specs.Stands.{Stands}
use Rattle.esentutl.specs.Inspections.{IsTextOf}
use Rattle.esentutl.specs.TopCall.{Outside}
use Rattle.esentutl.specs.Volumes.{volume_side}
use Rattle.esentutl.proofs.LookedAt.{ends_by_inspecting, ends_by_refusal}
use Rattle.esentutl.proofs.inspections.inspect_volume.Goals as goal

pub tell_database-status-requires-clause-found : goal.tell_database-status-requires-clause-found
tell_database-status-requires-clause-found g c =
    let is = c.in-Ok.ensures.inspected in (
      is.checkpoint,
      subst (λ (s : Standing). IsStanding is.checkpoint s) (sym c.standing.ensures) is.standing,
      subst (λ (bytes : List ℕ). IsFoundDatabase is.checkpoint bytes c.in-Ok.inspected.database) (sym (c.as_slice.ensures.value ∙ is.log)) is.database,
    )

pub tell_database-status-requires-clause-room : goal.tell_database-status-requires-clause-room
tell_database-status-requires-clause-room g c = c.in-Ok.ensures.room

pub returns-in-Ok-clause-ends : goal.returns-in-Ok-clause-ends
returns-in-Ok-clause-ends g c = λ options left source.
    let is = c.in-Ok.ensures.inspected in
    let volume = c.into_volume.result in
    let bytes = c.as_slice.result.now in
    let files = g.V.Volume.seen c.args.volume in
    let same : bytes ≡ is.stream = c.as_slice.ensures.value ∙ is.log in
    let found : IsFoundDatabase is.checkpoint bytes c.in-Ok.inspected.database = subst (λ (all : List ℕ). IsFoundDatabase is.checkpoint all c.in-Ok.inspected.database) (sym same) is.database in
    let stands : g.V.Volume.tells_contents → Stands is.checkpoint bytes files = λ tells. subst (λ (all : List ℕ). Stands is.checkpoint all files) (sym same) (is.stands tells) in
    let o : Outside = record {
      left_before = left;
      left_after = left;
      source_before = source;
      source_after = source;
      taken_before = g.K.Sink.taken c.args.out.now;
      taken_after = g.K.Sink.taken c.tell_database-status.new.out;
      sink_before = g.K.Sink.faults c.args.out.now;
      sink_after = g.K.Sink.faults c.tell_database-status.new.out;
      volume_before = g.V.Volume.faults c.args.volume;
      volume_after = g.V.Volume.faults volume;
    } in
    let ends = ends_by_inspecting options o (volume_side g.V.Volume.tells_contents g.V.Volume.seen g.V.Volume.moment g.V.Volume.left_at c.args.volume volume) found.holds.state c.args.asked c.tell_database-status.result
    (IsTextOf c.args.asked is.checkpoint bytes found.holds.state)
    (refl, refl, subst (IsUntouched g.V.Volume.seen g.V.Volume.moment g.V.Volume.left_at c.args.volume) (sym c.into_volume.ensures) c.in-Ok.ensures.looks)
    (ap g.V.Volume.faults c.into_volume.ensures ∙ c.in-Ok.ensures.faults, λ tells. record { checkpoint = is.checkpoint; stream = bytes; stands = stands tells; from = found.holds.from }, c.in-Ok.ensures.exact)
    (λ text told. record { checkpoint = is.checkpoint; stream = bytes; within = is.standing.within; stands = stands; from = found.holds.from; is = told })
    (c.tell_database-status.ensures is.checkpoint (subst (λ (s : Standing). IsStanding is.checkpoint s) (sym c.standing.ensures) is.standing) found) in
    (found.holds.state, ends.0, ends.1, ends.2, ends.3)

pub returns-in-Ok-clause-identity : goal.returns-in-Ok-clause-identity
returns-in-Ok-clause-identity g c = ap g.V.Volume.identity c.into_volume.ensures ∙ c.in-Ok.ensures.identity

pub returns-in-Err-clause-ends : goal.returns-in-Err-clause-ends
returns-in-Err-clause-ends g c = λ options left source.
    let o : Outside = record {
      left_before = left;
      left_after = left;
      source_before = source;
      source_after = source;
      taken_before = g.K.Sink.taken c.args.out.now;
      taken_after = g.K.Sink.taken c.tell_uninspected.new.out;
      sink_before = g.K.Sink.faults c.args.out.now;
      sink_after = g.K.Sink.faults c.tell_uninspected.new.out;
      volume_before = g.V.Volume.faults c.args.volume;
      volume_after = g.V.Volume.faults c.in-Err.fault.volume;
    } in
    let ends = ends_by_refusal options o (volume_side g.V.Volume.tells_contents g.V.Volume.seen g.V.Volume.moment g.V.Volume.left_at c.args.volume c.in-Err.fault.volume) empty_state c.args.asked c.tell_uninspected.result
    c.in-Err.fault.cause (refl, refl, c.in-Err.ensures.looks) c.in-Err.ensures.faults c.in-Err.ensures.refused c.tell_uninspected.ensures in
    (empty_state, ends.0, ends.1, ends.2, ends.3)

pub returns-in-Err-clause-identity : goal.returns-in-Err-clause-identity
returns-in-Err-clause-identity g c = c.in-Err.ensures.identity
