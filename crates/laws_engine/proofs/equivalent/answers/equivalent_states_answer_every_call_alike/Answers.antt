use Rattle.std.specs.Prelude.{◌≡◌, ℕ, true}
use Rattle.session_local.specs.declared.request.Request.{Request}
use Rattle.session_local.specs.Agreement.{Agrees}
use Rattle.session_local.specs.Calls.{answer}
use Rattle.session_local.specs.Local.{LocalState}
use Rattle.laws_engine.specs.PlainIndexes.{read_no_sums}
use Rattle.laws_engine.proofs.EquivalentLemmas.Answering.{answers_alike}
use Rattle.laws_engine.proofs.EquivalentLemmas.Reading.{by_past}
use Rattle.laws_engine.proofs.equivalent.answers.equivalent_states_answer_every_call_alike.Goals as goal

pub returns : goal.returns
returns c =
    by_past
    (λ one other. read_no_sums one.tables ≡ true → (limit session : ℕ) (local : LocalState) → Agrees one session local → (request : Request)
    → answer (record { limit = limit; state = one; session = session; local = local }) request ≡ answer (record { limit = limit; state = other; session = session; local = local }) request)
    answers_alike
