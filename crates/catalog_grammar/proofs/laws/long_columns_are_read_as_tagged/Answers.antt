use Rattle.catalog_grammar.specs.Catalogs.{tables_told}
use Rattle.catalog_grammar.proofs.TaggedLongs.{read_own, read_tagged, tables_tagged}
use Rattle.catalog_grammar.proofs.laws.long_columns_are_read_as_tagged.Goals as goal

pub returns-clause-read : goal.returns-clause-read
returns-clause-read c = read_tagged

pub returns-clause-own : goal.returns-clause-own
returns-clause-own c = read_own

pub returns-clause-tagged : goal.returns-clause-tagged
returns-clause-tagged c = λ items. tables_tagged (tables_told items)
