-- What opens the definitions of the engine where an example computes: `unfolding computing` under an answer's signature.
use Rattle.cursor_nav.specs.Navigation.{moved, index_set, sought, ranged, count_from}
use Rattle.database_state.specs.Computing as state
use Rattle.session_local.specs.Calls.{answer}

unfoldable pub computing : Unit {0}
unfolding state.computing moved index_set sought ranged count_from answer
computing = tt
