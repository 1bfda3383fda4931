-- What opens the definitions of this crate where an example computes: `unfolding computing` under an answer's signature.
use Rattle.std.specs.Fmt.{digits}
use Rattle.session_local.specs.Computing as engine
use Rattle.load_gen.specs.Table.{add_columns, add_numbered_columns, opening_calls}
use Rattle.load_gen.specs.Records.{filling_calls, record_calls, records_calls, set_last_values, set_later_values, set_values}
use Rattle.load_gen.specs.Script.{ending_calls, entries_in, generated_calls, walk_calls}

unfoldable pub computing : Unit {0}
unfolding digits engine.computing add_columns add_numbered_columns opening_calls filling_calls record_calls records_calls set_last_values set_later_values set_values ending_calls entries_in generated_calls walk_calls
computing = tt
