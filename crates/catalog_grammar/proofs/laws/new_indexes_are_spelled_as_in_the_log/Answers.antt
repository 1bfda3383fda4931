use Rattle.std.proofs.Common.{refl}
use Rattle.log_grammar.specs.EntryBytes.{index_bytes}
use Rattle.catalog_grammar.specs.CatalogBytes.{index_data}
use Rattle.catalog_grammar.proofs.laws.new_indexes_are_spelled_as_in_the_log.Goals as goal

pub returns : goal.returns
unfolding index_bytes index_data
returns c = λ index. refl
