use Rattle.soft_recovery.proofs.FreeKeys.{new_keys_told}
use Rattle.soft_recovery.proofs.next_entries.laws.new_keys_are_free.Goals as goal

pub returns : goal.returns
returns c engine state h session table schema named bookmark values =
    new_keys_told
    (record {
      asks = c.unique_keys_are_asked_as_of_the_state.ensures;
      unique = c.no_reader_finds_a_unique_key_twice.ensures.view;
      bookmarks = c.every_record_seen_has_its_bookmark.ensures;
      one = c.a_primary_index_has_one_entry.ensures;
      taken_by = c.a_key_is_taken_where_an_entry_has_it.ensures.replaced;
      of_records = c.entries_are_of_their_records.ensures;
    })
    engine state h session table schema named bookmark values
