use Rattle.engine_parts.proofs.ReadsView.{entries_read, record_read, row_read, stored_read}
use Rattle.engine_parts.proofs.laws.a_session_reads_its_view.Goals as goal

pub returns-clause-entries : goal.returns-clause-entries
returns-clause-entries c engine state session local label cursor h step found =
    entries_read c.a_reader_is_shown_the_entries_of_its_view.ensures engine state session local label cursor h step found

pub returns-clause-records : goal.returns-clause-records
returns-clause-records c engine state session local label cursor h step found =
    record_read c.a_session_views_its_very_record.ensures engine state session local label cursor h step found

pub returns-clause-stored : goal.returns-clause-stored
returns-clause-stored c engine state session local label cursor h step found =
    stored_read c.a_session_views_its_very_record.ensures c.every_record_seen_is_stored.ensures.with_sums engine state session local label cursor h step found

pub returns-clause-rows : goal.returns-clause-rows
returns-clause-rows c engine state session local label cursor h step found =
    row_read
    (record {
      views = c.a_session_views_its_very_record.ensures;
      sums = c.a_reader_is_shown_records_with_unseen_sums.ensures;
      finds = c.a_reader_finds_the_records_that_it_is_shown.ensures;
      stored = c.every_record_seen_is_stored.ensures.with_sums;
      numbers = c.every_record_seen_holds_numbers.ensures;
    })
    engine state session local label cursor h step found
