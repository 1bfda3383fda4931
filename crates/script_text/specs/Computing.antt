-- What opens the definitions of this crate where an example computes: `unfolding computing` under an answer's signature.
use Rattle.std.specs.Fmt.{digits}
use Rattle.script_words.specs.Words.{optional_word, number_of, number_within, label_of, signed_number_of, name_of, nibble_of, byte_of, hex_bytes_of}
use Rattle.script_words.specs.Values.{number_value, hex_value, text_value, single_byte_of, fill_of, fill_value, given_of}
use Rattle.script_text.specs.Calls.{bare_call, limited_count_call, limit_call, are_index_words, cursor_call, table_call, part_call, commit_call, rollback_call, add_column_call, create_index_call, open_table_call, set_current_index_call, move_call, make_key_call, seek_call, set_index_range_call, count_call, goto_bookmark_call, prepare_update_call, set_column_call, retrieve_column_call, escrow_update_call, temp_column_of, temp_columns_of, temp_open_call, temp_put_call, temp_move_call, temp_read_call, intersect_indexes_call, temp_call, only_cursor, column_flags_of, index_flags_of, direction_of, segment_of, prefixed_condition_of, condition_of, is_index_word, sequence_of, most_bytes_of, record_call, place_call, call_of_cursor, schema_call, named_call}
use Rattle.script_text.specs.Grammar.{words_request, line_request}
use Rattle.script_transcript.specs.TranscriptLine.{shown_text, answer_line}

unfoldable pub computing : Unit {0}
unfolding digits number_of number_within label_of signed_number_of name_of nibble_of byte_of hex_bytes_of number_value hex_value text_value single_byte_of fill_of fill_value given_of bare_call optional_word limited_count_call limit_call are_index_words cursor_call table_call part_call commit_call rollback_call add_column_call create_index_call open_table_call set_current_index_call move_call make_key_call seek_call set_index_range_call count_call goto_bookmark_call prepare_update_call set_column_call retrieve_column_call escrow_update_call temp_column_of temp_columns_of temp_open_call temp_put_call temp_move_call temp_read_call intersect_indexes_call temp_call only_cursor column_flags_of index_flags_of direction_of segment_of prefixed_condition_of condition_of is_index_word sequence_of most_bytes_of record_call place_call call_of_cursor schema_call named_call words_request line_request shown_text answer_line
computing = tt
