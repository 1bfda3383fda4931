use Rattle.std.proofs.Common.{◌≡◌, ◌<◌, ℕ, ◌+◌, ◌^◌, refl, sym, subst, ap, ◌∙◌}
use Rattle.checkpoint.specs.declared.image.Standing.{Standing}
use Rattle.jet_volume.specs.Crash.{LeavesOnly}
use Rattle.jet_volume.specs.declared.files.LogStart.{LogStart}
use Rattle.store_core.specs.Stands.{Stands}
use Rattle.store_core.specs.Store.{store_volume}
use Rattle.soft_recovery.proofs.OpenedVolumes.{may_be_sealed, seal_counted}
use Rattle.soft_recovery.proofs.opening.sealed.Goals as goal

pub seal-requires : goal.seal-requires
seal-requires g c = may_be_sealed _ c.requires.generation

pub returns-in-Ok-clause-engine : goal.returns-in-Ok-clause-engine
returns-in-Ok-clause-engine g c = refl

pub returns-in-Ok-clause-bounds : goal.returns-in-Ok-clause-bounds
returns-in-Ok-clause-bounds g c = record {
  up = c.in-Ok.ensures.faults.1;
  number = subst (λ (s : Standing). s.number < 2 ^ 62) (sym c.in-Ok.ensures.standing) c.requires.number;
  generation = subst (λ (e : LogStart). e.generation < 2 ^ 62 + 2 ^ 24) (sym c.in-Ok.ensures.end) c.requires.generation;
  position = subst (λ (e : LogStart). e.position < 2 ^ 62 + 2 ^ 24) (sym c.in-Ok.ensures.end) c.requires.position;
}

pub returns-in-Ok-clause-standing : goal.returns-in-Ok-clause-standing
returns-in-Ok-clause-standing g c = c.in-Ok.ensures.standing

pub returns-in-Ok-clause-sealed : goal.returns-in-Ok-clause-sealed
returns-in-Ok-clause-sealed g c = c.in-Ok.ensures.sealed

pub returns-in-Ok-clause-any_moment : goal.returns-in-Ok-clause-any_moment
returns-in-Ok-clause-any_moment g c = c.in-Ok.ensures.any_moment

pub returns-in-Ok-clause-faults : goal.returns-in-Ok-clause-faults
returns-in-Ok-clause-faults g c = c.in-Ok.ensures.faults.2

pub returns-in-Ok-clause-identity : goal.returns-in-Ok-clause-identity
returns-in-Ok-clause-identity g c = c.in-Ok.ensures.identity

pub returns-in-Err-clause-any_moment : goal.returns-in-Err-clause-any_moment
returns-in-Err-clause-any_moment g c tells checkpoint stream opened =
    subst (λ v. LeavesOnly g.V.Volume.moment g.V.Volume.left_at (store_volume c.args.recovered.store) v (Stands checkpoint stream)) (sym c.into_volume.ensures) (c.seal.ensures.any_moment tells checkpoint stream opened)

pub returns-in-Err-clause-cause : goal.returns-in-Err-clause-cause
returns-in-Err-clause-cause g c = refl

pub returns-in-Err-clause-faults : goal.returns-in-Err-clause-faults
returns-in-Err-clause-faults g c =
    let faults = g.V.Volume.faults in
    subst (λ v. faults (store_volume c.args.recovered.store) < faults v) (sym c.into_volume.ensures)
    (seal_counted faults c.args.recovered.store c.seal.new.self c.seal.result c.in-Err.field-0 c.in-Err.is c.requires.up c.seal.ensures.room c.seal.ensures.faults)

pub returns-in-Err-clause-identity : goal.returns-in-Err-clause-identity
returns-in-Err-clause-identity g c = ap g.V.Volume.identity c.into_volume.ensures ∙ c.seal.ensures.identity
