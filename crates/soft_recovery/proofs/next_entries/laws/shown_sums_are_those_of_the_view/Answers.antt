use Rattle.soft_recovery.proofs.ShownSums.{sums_told}
use Rattle.soft_recovery.proofs.next_entries.laws.shown_sums_are_those_of_the_view.Goals as goal

pub returns : goal.returns
returns c engine state h session table schema named bookmark =
    sums_told
    (record {
      views = c.a_session_views_its_very_record.ensures;
      shows = c.a_session_is_shown_the_records_of_its_view.ensures;
      adds = c.a_reader_is_shown_records_with_unseen_sums.ensures;
      finds = c.a_reader_finds_the_records_that_it_is_shown.ensures;
      numbers = c.every_record_seen_holds_numbers.ensures;
    })
    engine state h session table schema named bookmark
