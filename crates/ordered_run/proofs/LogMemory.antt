-- The calls that take no memory are logged without any.
use Rattle.std.proofs.Common.{◌≡◌, true, false, Bool, Option, Some, None, refl}
use Rattle.std.proofs.lemmas.Bool.{false≢true}
use Rattle.jet_base.specs.declared.ids.CursorId.{CursorId}
use Rattle.index_derive.specs.declared.log.Step.{Step}
use Rattle.session_local.specs.declared.request.Request.{Request}
use Rattle.session_local.specs.declared.request.Request.TheVariants as call
use Rattle.session_local.specs.Calls.{answer}
use Rattle.session_local.specs.Outcome.{CallInputs, Outcome}
use Rattle.session_local.specs.Run.{takes_no_memory}
use Rattle.laws_engine.proofs.LawfulLemmas.Replies.{takes_no_step, without_step}
use Rattle.engine_core.specs.EndingCalls.{TakesNoMemory}
use Rattle.engine_core.specs.LoggedState.{logged_step_may_lack_memory}

never_some : {A : Type 0} (o : Option A) (a : A) → o ≡ None → o ≡ Some a → ⊥
never_some None a none some = let never : ⊥ = cc in never
never_some (Some b) a none some = let never : ⊥ = cc in never

-- a call that has no step
without : (asked : CallInputs) (request : Request) (step : Step) → takes_no_step request ≡ true → (answer asked request).step ≡ Some step → logged_step_may_lack_memory step ≡ false
without asked request step quiet is =
    absurd (never_some (answer asked request).step step (without_step (λ (o : Outcome). o.step ≡ None) (λ answered local. refl) asked request quiet) is)

pub logs_without : ((lazy : Bool) → TakesNoMemory (call.CommitTransaction lazy)) → ((all : Bool) → TakesNoMemory (call.Rollback all)) → TakesNoMemory call.EndSession → ((cursor : CursorId) → TakesNoMemory (call.CloseTable cursor))
    → (asked : CallInputs) (request : Request) (step : Step) → takes_no_memory request ≡ true → (answer asked request).step ≡ Some step → logged_step_may_lack_memory step ≡ false
logs_without commits rolls_back leaves shuts asked (call.CommitTransaction lazy) step takes is = (commits lazy).step asked step is
logs_without commits rolls_back leaves shuts asked (call.Rollback all) step takes is = (rolls_back all).step asked step is
logs_without commits rolls_back leaves shuts asked call.EndSession step takes is = leaves.step asked step is
logs_without commits rolls_back leaves shuts asked (call.CloseTable cursor) step takes is = (shuts cursor).step asked step is
logs_without commits rolls_back leaves shuts asked (call.SetCurrentIndex cursor index) step takes is = without asked (call.SetCurrentIndex cursor index) step refl is
logs_without commits rolls_back leaves shuts asked (call.Move cursor way) step takes is = without asked (call.Move cursor way) step refl is
logs_without commits rolls_back leaves shuts asked (call.Seek cursor by) step takes is = without asked (call.Seek cursor by) step refl is
logs_without commits rolls_back leaves shuts asked (call.GotoBookmark cursor bookmark) step takes is = without asked (call.GotoBookmark cursor bookmark) step refl is
logs_without commits rolls_back leaves shuts asked (call.SetIndexRange cursor upper inclusive) step takes is = without asked (call.SetIndexRange cursor upper inclusive) step refl is
logs_without commits rolls_back leaves shuts asked (call.RemoveIndexRange cursor) step takes is = without asked (call.RemoveIndexRange cursor) step refl is
logs_without commits rolls_back leaves shuts asked (call.IndexRecordCount cursor most) step takes is = without asked (call.IndexRecordCount cursor most) step refl is
logs_without commits rolls_back leaves shuts asked (call.RetrieveKey cursor) step takes is = without asked (call.RetrieveKey cursor) step refl is
logs_without commits rolls_back leaves shuts asked (call.GetBookmark cursor) step takes is = without asked (call.GetBookmark cursor) step refl is
logs_without commits rolls_back leaves shuts asked (call.RetrieveColumn cursor column sequence copy most) step takes is = without asked (call.RetrieveColumn cursor column sequence copy most) step refl is
logs_without commits rolls_back leaves shuts asked (call.MakeKey cursor fresh value) step takes is = without asked (call.MakeKey cursor fresh value) step refl is
logs_without commits rolls_back leaves shuts asked (call.TempMove temp way) step takes is = without asked (call.TempMove temp way) step refl is
logs_without commits rolls_back leaves shuts asked (call.TempRead temp column) step takes is = without asked (call.TempRead temp column) step refl is
logs_without commits rolls_back leaves shuts asked (call.TempCount temp) step takes is = without asked (call.TempCount temp) step refl is
logs_without commits rolls_back leaves shuts asked (call.TempClose temp) step takes is = without asked (call.TempClose temp) step refl is
logs_without commits rolls_back leaves shuts asked _ step takes is = absurd (false≢true takes)
