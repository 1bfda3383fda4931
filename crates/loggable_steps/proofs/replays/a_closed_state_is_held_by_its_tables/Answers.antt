use Rattle.std.proofs.Common.{refl}
use Rattle.laws_versions.specs.Bookmarks.{StandsUnder}
use Rattle.laws_versions.specs.RecordNumbers.{HoldsNumbers}
use Rattle.laws_versions.specs.StoredRecords.{IsStored}
use Rattle.laws_versions.proofs.IndexLemmas.KeysRise.{keys_rise}
use Rattle.laws_versions.proofs.KeyLemmas.EscrowSums.{unseen_now}
use Rattle.laws_versions.proofs.KeyLemmas.OneEntry.{one_entry}
use Rattle.laws_versions.proofs.RecordLemmas.EscrowRecords.{numbers_seen}
use Rattle.laws_versions.proofs.RecordLemmas.Standing.{bookmarks_seen}
use Rattle.laws_versions.proofs.RecordLemmas.StoredSums.{stored_seen_with_sums}
use Rattle.laws_engine.proofs.EngineLemmas.Beginning.{tables_hold}
use Rattle.loggable_steps.specs.Replays.{closed}
use Rattle.loggable_steps.proofs.Closing.{KeyLaws, plain_tables, rows_have, still_in_order, unique_tables}
use Rattle.loggable_steps.proofs.replays.a_closed_state_is_held_by_its_tables.Goals as goal

pub returns : goal.returns
returns c = record {
  holds = λ engine state h limit newest within.
      let keys : KeyLaws = record { one = one_entry; rise = keys_rise } in
      let sees = unseen_now h.base h.kept state h.reached.sums in
      tables_hold limit newest (closed state) within refl refl (still_in_order state h.reached.order) (unique_tables keys h.base h.dropped h.kept state h.reached) (plain_tables h.base h.kept state h.dropped h.reached)
      (rows_have StandsUnder state (bookmarks_seen h.base h.dropped h.kept state h.reached.history sees h.reached.bookmarks))
      (rows_have IsStored state (stored_seen_with_sums h.base h.dropped h.kept state h.reached.history h.reached.numbers h.stored))
      (rows_have HoldsNumbers state (numbers_seen h.base h.dropped h.kept state h.reached.history h.reached.numbers))
      h.built h.reached.columns;
}
