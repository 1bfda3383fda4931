use Rattle.laws_versions.proofs.IndexLemmas.Adding.{derived_in_order}
use Rattle.laws_versions.proofs.IndexLemmas.KeysRise.{keys_rise}
use Rattle.laws_versions.proofs.IndexLemmas.SameEntries.{same_sorted, sorted_filter}
use Rattle.laws_versions.proofs.IndexLemmas.Standing.{stands}
use Rattle.laws_engine.proofs.TableLemmas.ShownEntries.{shown_is_derived}
use Rattle.laws_engine.proofs.tables.walks.a_reader_walks_the_index_of_what_it_sees.Goals as goal

pub returns : goal.returns
returns c =
    shown_is_derived (record {
      same = same_sorted;
      some = sorted_filter;
      in_order = derived_in_order keys_rise;
      of_records = stands;
    })
