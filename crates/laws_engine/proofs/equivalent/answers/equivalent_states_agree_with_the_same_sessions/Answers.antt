use Rattle.std.specs.Prelude.{ℕ}
use Rattle.session_local.specs.Agreement.{Agrees}
use Rattle.session_local.specs.Local.{LocalState}
use Rattle.laws_engine.proofs.EquivalentLemmas.Answering.{agrees_alike}
use Rattle.laws_engine.proofs.EquivalentLemmas.Reading.{by_past}
use Rattle.laws_engine.proofs.equivalent.answers.equivalent_states_agree_with_the_same_sessions.Goals as goal

pub returns : goal.returns
returns c = by_past (λ one other. (session : ℕ) (local : LocalState) → Agrees one session local → Agrees other session local) agrees_alike
