use Rattle.std.proofs.Common.{sym, subst}
use Rattle.std.specs.Prelude.{IfErr, IfOk}
use Rattle.checkpoint.specs.declared.image.Found.{Found}
use Rattle.checkpoint.specs.declared.image.Standing.{Standing}
use Rattle.engine_image.specs.declared.fault.ImageFault.{ImageFault}
use Rattle.laws_engine.specs.EngineState.{EngineState}
use Rattle.store_core.specs.Store.{checkpoint_found}
use Rattle.soft_recovery.specs.Inspecting.{HasNumbersOf}
use Rattle.soft_recovery.specs.Recovering.{HasFewPages, HoldsShown}
use Rattle.soft_recovery.specs.Refusals.{RefusesImage}
use Rattle.soft_recovery.proofs.found.shown_engine.Goals as goal

pub returns-in-New-clause-may : goal.returns-in-New-clause-may
returns-in-New-clause-may c = c.empty_engine.ensures.may

pub returns-in-New-clause-shown : goal.returns-in-New-clause-shown
returns-in-New-clause-shown c standing = subst (λ (f : Found). HoldsShown (checkpoint_found f standing) c.empty_engine.result) (sym c.in-New.is) c.empty_engine.ensures.shown

pub returns-in-New-clause-room : goal.returns-in-New-clause-room
returns-in-New-clause-room c = c.empty_engine.ensures.room

pub returns-in-New-clause-limit : goal.returns-in-New-clause-limit
returns-in-New-clause-limit c = c.empty_engine.ensures.limit

pub image_engine-requires : goal.image_engine-requires
image_engine-requires c = subst HasFewPages c.in-Old.is c.requires

pub returns-in-Old-clause-may : goal.returns-in-Old-clause-may
returns-in-Old-clause-may c = c.image_engine.ensures.may

pub returns-in-Old-clause-shown : goal.returns-in-Old-clause-shown
returns-in-Old-clause-shown c =
    subst (λ (f : Found). IfOk c.image_engine.result (λ (e : EngineState). (standing : Standing) → HoldsShown (checkpoint_found f standing) e)) (sym c.in-Old.is) c.image_engine.ensures.shown

pub returns-in-Old-clause-room : goal.returns-in-Old-clause-room
returns-in-Old-clause-room c = c.image_engine.ensures.room

pub returns-in-Old-clause-limit : goal.returns-in-Old-clause-limit
returns-in-Old-clause-limit c = c.image_engine.ensures.limit

pub returns-in-Old-clause-refused : goal.returns-in-Old-clause-refused
returns-in-Old-clause-refused c =
    subst (λ (f : Found). IfErr c.image_engine.result (λ (why : ImageFault). (standing : Standing) → RefusesImage (checkpoint_found f standing) why)) (sym c.in-Old.is) c.image_engine.ensures.refused

pub returns-in-New-clause-numbers : goal.returns-in-New-clause-numbers
returns-in-New-clause-numbers c standing = subst (λ (f : Found). HasNumbersOf (checkpoint_found f standing) c.empty_engine.result) (sym c.in-New.is) c.empty_engine.ensures.numbers

pub returns-in-Old-clause-numbers : goal.returns-in-Old-clause-numbers
returns-in-Old-clause-numbers c =
    subst (λ (f : Found). IfOk c.image_engine.result (λ (e : EngineState). (standing : Standing) → HasNumbersOf (checkpoint_found f standing) e)) (sym c.in-Old.is) c.image_engine.ensures.numbers
