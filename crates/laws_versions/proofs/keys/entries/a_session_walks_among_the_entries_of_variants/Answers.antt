use Rattle.laws_versions.proofs.KeyLemmas.VariantEntries.{walks_by_variants}
use Rattle.laws_versions.proofs.keys.entries.a_session_walks_among_the_entries_of_variants.Goals as goal

pub returns : goal.returns
returns c = walks_by_variants
