-- What opens the definitions where an example computes: `unfolding computing` under an answer's signature.
use Rattle.log_grammar.specs.EntryBytes.{entry_bytes, has_spelling}
use Rattle.log_grammar.specs.EntryReading.{add_at, bookmark_at, copied_at, flag_at, kind_at, put_at, record_at, rest_at, table_at, values_at}
use Rattle.live_part.specs.LiveReading.{changes_at, entry_at, held_at, held_fields_at, row_at, session_at, sessions_at, short_row_at, sized_entry_at, status_at, tables_at, transaction_at, whole_in}

unfoldable pub computing : Unit {0}
unfolding entry_bytes has_spelling add_at bookmark_at copied_at flag_at kind_at put_at record_at rest_at table_at values_at changes_at entry_at held_at held_fields_at row_at session_at sessions_at short_row_at sized_entry_at status_at tables_at transaction_at whole_in
computing = tt
