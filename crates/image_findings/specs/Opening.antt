-- What opens the definitions where an example computes: `unfolding opening` under an answer's signature.
use Rattle.catalog_grammar.specs.CatalogBytes.{index_data, table_data}
use Rattle.catalog_grammar.specs.CatalogReading.{greatest_at, index_flags_at, item_at, item_of, key_at, rooted_index_at, table_at}
use Rattle.column_set.specs.RowReading as rows
use Rattle.index_derive.specs.Entries.{derive, entries, has_double_key, is_legal, primary_key}
use Rattle.live_part.specs.LiveReading as live
use Rattle.log_grammar.specs.EntryBytes.{entry_bytes, has_spelling}
use Rattle.log_grammar.specs.EntryReading as entries_read
use Rattle.log_grammar.specs.EntryReading.{column_at, condition_at, conditions_at, flag_at, flagged_at, name_at, segment_at, segments_at, type_at}
use Rattle.tree_check.specs.Walks.{depth_within}
use Rattle.image_findings.specs.Findings.{finding}

unfoldable pub opening : Unit {0}
unfolding index_data table_data greatest_at index_flags_at item_at item_of key_at rooted_index_at table_at rows.apart_at rows.body_at rows.here_at rows.next_at rows.read_row rows.read_values rows.value_at rows.values_at derive entries has_double_key is_legal primary_key live.tables_at live.transaction_at live.session_at live.sessions_at live.status_at live.entry_at live.sized_entry_at live.short_row_at live.row_at live.held_fields_at live.held_at live.changes_at live.whole_in column_at condition_at conditions_at flag_at flagged_at name_at segment_at segments_at type_at entry_bytes has_spelling entries_read.rest_at entries_read.kind_at entries_read.put_at entries_read.add_at entries_read.table_at entries_read.bookmark_at entries_read.copied_at entries_read.record_at entries_read.values_at entries_read.next_at entries_read.value_at depth_within finding
opening = tt
