use Rattle.laws_versions.proofs.IndexLemmas.Adding.{derived_in_order}
use Rattle.laws_versions.proofs.IndexLemmas.KeysRise.{keys_rise}
use Rattle.laws_versions.proofs.IndexLemmas.SameEntries.{same_sorted, sorted_filter}
use Rattle.laws_versions.proofs.IndexLemmas.Standing.{stands}
use Rattle.laws_versions.proofs.KeyLemmas.VariantEntries.{shown_is_derived}
use Rattle.laws_versions.proofs.keys.entries.the_entries_that_a_session_is_shown_are_derived.Goals as goal

pub returns : goal.returns
returns c = shown_is_derived same_sorted sorted_filter (derived_in_order keys_rise) stands
