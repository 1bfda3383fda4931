use Rattle.std.specs.Prelude.{◌≡◌}
use Rattle.database_state.specs.VersionStore.{version_span}
use Rattle.laws_engine.proofs.EquivalentLemmas.Reading.{by_past, span_alike}
use Rattle.laws_engine.proofs.equivalent.seen.equivalent_states_have_the_same_span.Goals as goal

pub returns : goal.returns
returns c = by_past (λ one other. version_span one ≡ version_span other) span_alike
