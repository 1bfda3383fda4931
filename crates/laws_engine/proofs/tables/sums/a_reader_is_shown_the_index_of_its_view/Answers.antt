use Rattle.laws_versions.proofs.IndexLemmas.Adding.{derived_in_order}
use Rattle.laws_versions.proofs.IndexLemmas.KeysRise.{keys_rise}
use Rattle.laws_versions.proofs.IndexLemmas.SameEntries.{same_sorted, sorted_filter}
use Rattle.laws_versions.proofs.IndexLemmas.Standing.{stands}
use Rattle.laws_engine.proofs.TableLemmas.HeldSums.{same_index}
use Rattle.laws_engine.proofs.tables.sums.a_reader_is_shown_the_index_of_its_view.Goals as goal

pub returns : goal.returns
returns c =
    same_index (record {
      same = same_sorted;
      some = sorted_filter;
      in_order = derived_in_order keys_rise;
      of_records = stands;
    })
