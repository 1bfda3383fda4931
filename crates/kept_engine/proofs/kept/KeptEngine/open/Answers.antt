use Rattle.std.proofs.Common.{inr, refl, ◌∙◌, subst}
use Rattle.std.specs.Prelude.{IfOk}
use Rattle.std.proofs.lemmas.Result.{IfErr-weaker}
use Rattle.store_core.specs.Store.{store_volume}
use Rattle.kept_engine.specs.Opening.{opened_volume, IsAtOpening}
use Rattle.kept_engine.proofs.OpenedEngines.{all_opened, opening_counted, recovers_on, recovers_untouched, untouched}
use Rattle.kept_engine.proofs.kept.KeptEngine.open.Goals as goal

pub begun-requires-clause-holds : goal.begun-requires-clause-holds
begun-requires-clause-holds g c = let holds = c.in-Ok-recover.ensures.recovered.holds in (holds.state, holds.holds, holds.sound)

pub begun-requires-clause-sessions : goal.begun-requires-clause-sessions
begun-requires-clause-sessions g c = c.in-Ok-recover.ensures.sessions

pub begun-requires-clause-room : goal.begun-requires-clause-room
begun-requires-clause-room g c = c.in-Ok-recover.ensures.room

pub begun-requires-clause-bounds : goal.begun-requires-clause-bounds
begun-requires-clause-bounds g c = c.in-Ok-recover.ensures.bounds

pub begun-requires-clause-deep : goal.begun-requires-clause-deep
begun-requires-clause-deep g c = c.requires.deep

-- ---- a volume that is recovered

pub returns-in-Ok-recover-clause-opened : goal.returns-in-Ok-recover-clause-opened
returns-in-Ok-recover-clause-opened g c =
    all_opened g.V.Volume.tells_contents g.V.Volume.seen g.V.Volume.moment g.V.Volume.left_at c.what_is_kept_survives.ensures c.args.volume c.in-Ok-recover.recovered c.begun.result
    c.in-Ok-recover.ensures.recovered (c.in-Ok-recover.ensures.looks refl) c.in-Ok-recover.ensures.recovers c.begun.ensures.engine c.begun.ensures.span c.begun.ensures.keeps c.begun.ensures.any_moment

pub returns-in-Ok-recover-clause-begun : goal.returns-in-Ok-recover-clause-begun
returns-in-Ok-recover-clause-begun g c = subst (λ n. IfOk c.begun.result (IsAtOpening n c.args.depth)) c.in-Ok-recover.ensures.limit c.begun.ensures.begun

pub returns-in-Ok-recover-clause-ready : goal.returns-in-Ok-recover-clause-ready
returns-in-Ok-recover-clause-ready g c = c.begun.ensures.ready

pub returns-in-Ok-recover-clause-refused : goal.returns-in-Ok-recover-clause-refused
returns-in-Ok-recover-clause-refused g c = IfErr-weaker c.begun.result _ _ (λ fault outside tells. inr outside) c.begun.ensures.outside

pub returns-in-Ok-recover-clause-exact : goal.returns-in-Ok-recover-clause-exact
returns-in-Ok-recover-clause-exact g c tells cause refuses = absurd (c.in-Ok-recover.ensures.exact tells cause refuses)

pub returns-in-Ok-recover-clause-sure : goal.returns-in-Ok-recover-clause-sure
returns-in-Ok-recover-clause-sure g c tells checkpoint stream state stands within from = c.begun.ensures.outside

pub returns-in-Ok-recover-clause-back : goal.returns-in-Ok-recover-clause-back
returns-in-Ok-recover-clause-back g c = IfErr-weaker c.begun.result _ _ (λ fault outside not. absurd (not outside)) c.begun.ensures.outside

pub returns-in-Ok-recover-clause-still : goal.returns-in-Ok-recover-clause-still
returns-in-Ok-recover-clause-still g c tells cause refuses = absurd (c.in-Ok-recover.ensures.exact tells cause refuses)

pub returns-in-Ok-recover-clause-recovers : goal.returns-in-Ok-recover-clause-recovers
returns-in-Ok-recover-clause-recovers g c tells settled state recovers =
    recovers_on g.V.Volume.tells_contents g.V.Volume.seen g.V.Volume.moment g.V.Volume.left_at c.what_is_kept_survives.ensures c.args.volume c.in-Ok-recover.recovered (opened_volume c.begun.result) state
    c.in-Ok-recover.ensures.recovered c.files_recover_to_one_state.ensures tells settled recovers (c.in-Ok-recover.ensures.recovers tells settled state recovers) c.begun.ensures.any_moment

pub returns-in-Ok-recover-clause-faults : goal.returns-in-Ok-recover-clause-faults
returns-in-Ok-recover-clause-faults g c = opening_counted g.V.Volume.faults c.args.volume (store_volume c.in-Ok-recover.recovered.store) c.begun.result c.in-Ok-recover.ensures.faults c.begun.ensures.faults

pub returns-in-Ok-recover-clause-identity : goal.returns-in-Ok-recover-clause-identity
returns-in-Ok-recover-clause-identity g c = c.begun.ensures.identity ∙ c.in-Ok-recover.ensures.identity

-- ---- one that is not

pub returns-in-Err-recover-clause-refused : goal.returns-in-Err-recover-clause-refused
returns-in-Err-recover-clause-refused g c = c.in-Err-recover.ensures.refused

pub returns-in-Err-recover-clause-exact : goal.returns-in-Err-recover-clause-exact
returns-in-Err-recover-clause-exact g c = c.in-Err-recover.ensures.exact

pub returns-in-Err-recover-clause-sure : goal.returns-in-Err-recover-clause-sure
returns-in-Err-recover-clause-sure g c = c.in-Err-recover.ensures.sure

pub returns-in-Err-recover-clause-back : goal.returns-in-Err-recover-clause-back
returns-in-Err-recover-clause-back g c not = c.in-Err-recover.ensures.looks refl

pub returns-in-Err-recover-clause-still : goal.returns-in-Err-recover-clause-still
returns-in-Err-recover-clause-still g c tells cause refuses = c.in-Err-recover.ensures.looks refl

pub returns-in-Err-recover-clause-recovers : goal.returns-in-Err-recover-clause-recovers
returns-in-Err-recover-clause-recovers g c = c.in-Err-recover.ensures.recovers

pub returns-in-Err-recover-clause-faults : goal.returns-in-Err-recover-clause-faults
returns-in-Err-recover-clause-faults g c = c.in-Err-recover.ensures.faults

pub returns-in-Err-recover-clause-identity : goal.returns-in-Err-recover-clause-identity
returns-in-Err-recover-clause-identity g c = c.in-Err-recover.ensures.identity

-- ---- without memory for a block

pub returns-in-Err-clause-refused : goal.returns-in-Err-clause-refused
returns-in-Err-clause-refused g c tells = inr tt

pub returns-in-Err-clause-exact : goal.returns-in-Err-clause-exact
returns-in-Err-clause-exact g c tells cause refuses = inr tt

pub returns-in-Err-clause-back : goal.returns-in-Err-clause-back
returns-in-Err-clause-back g c not = untouched g.V.Volume.seen g.V.Volume.moment g.V.Volume.left_at c.args.volume

pub returns-in-Err-clause-still : goal.returns-in-Err-clause-still
returns-in-Err-clause-still g c tells cause refuses = untouched g.V.Volume.seen g.V.Volume.moment g.V.Volume.left_at c.args.volume

pub returns-in-Err-clause-recovers : goal.returns-in-Err-clause-recovers
returns-in-Err-clause-recovers g c tells settled state recovers = recovers_untouched g.V.Volume.seen g.V.Volume.moment g.V.Volume.left_at c.args.volume state settled recovers

pub returns-in-Err-clause-faults : goal.returns-in-Err-clause-faults
returns-in-Err-clause-faults g c = refl

pub returns-in-Err-clause-identity : goal.returns-in-Err-clause-identity
returns-in-Err-clause-identity g c = refl
