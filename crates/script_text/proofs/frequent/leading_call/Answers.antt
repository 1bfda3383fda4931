use Rattle.std.proofs.Common.{refl}
use Rattle.session_local.specs.CallNames as named
use Rattle.script_text.specs.Calls.{named_call, schema_call, call_of_cursor, place_call, record_call}
use Rattle.script_text.proofs.frequent.leading_call.Goals as goal

pub returns-in_ok-rest-in-83 : goal.returns-in_ok-rest-in-83
unfolding named_call schema_call call_of_cursor place_call record_call
returns-in_ok-rest-in-83 c = (named.set_column, c.in_ok-rest-in-83.ensures, λ words. refl)

pub returns-in_ok-rest-in-77 : goal.returns-in_ok-rest-in-77
unfolding named_call schema_call call_of_cursor place_call record_call
returns-in_ok-rest-in-77 c = (named.move, c.in_ok-rest-in-77.ensures, λ words. refl)

pub returns-in_ok-rest-in-82 : goal.returns-in_ok-rest-in-82
unfolding named_call schema_call call_of_cursor place_call record_call
returns-in_ok-rest-in-82 c = (named.retrieve_column, c.in_ok-rest-in-82.ensures, λ words. refl)

pub returns-in_ok-rest-in-80 : goal.returns-in_ok-rest-in-80
unfolding named_call schema_call call_of_cursor place_call record_call
returns-in_ok-rest-in-80 c = (named.prepare_update, c.in_ok-rest-in-80.ensures, λ words. refl)

pub returns-in_ok-rest-in-85 : goal.returns-in_ok-rest-in-85
unfolding named_call schema_call call_of_cursor place_call record_call
returns-in_ok-rest-in-85 c = (named.update, c.in_ok-rest-in-85.ensures, λ words. refl)
