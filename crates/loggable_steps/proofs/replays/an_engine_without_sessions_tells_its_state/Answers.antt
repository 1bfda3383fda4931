use Rattle.std.proofs.Common.{refl}
use Rattle.loggable_steps.proofs.Opened.{cleaned_told, opened_told}
use Rattle.loggable_steps.proofs.replays.an_engine_without_sessions_tells_its_state.Goals as goal

pub returns : goal.returns
returns c = record { state = opened_told; cleaned = cleaned_told; opened = λ limit newest state. refl }
