use Rattle.std.specs.Prelude.{◌≡◌, ℕ}
use Rattle.database_state.specs.View.{newest, view}
use Rattle.laws_engine.proofs.EquivalentLemmas.Reading.{by_past, newest_alike, view_alike}
use Rattle.laws_engine.proofs.equivalent.seen.equivalent_states_show_every_session_the_same.Goals as goal

pub returns-clause-view : goal.returns-clause-view
returns-clause-view c = by_past (λ one other. (session : ℕ) → view one session ≡ view other session) view_alike

pub returns-clause-newest : goal.returns-clause-newest
returns-clause-newest c = by_past (λ one other. newest one ≡ newest other) newest_alike
