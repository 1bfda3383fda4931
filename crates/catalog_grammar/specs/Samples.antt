-- A catalog that the worked examples speak of.
use Rattle.std.specs.Prelude.{zero, suc, true, false, [], ◌∷◌, codes}
use Rattle.jet_base.specs.Ids.{column_id, index_id}
use Rattle.jet_base.specs.declared.words.ColType.TheVariants.{Long, Text}
use Rattle.column_set.specs.declared.columns.Column.{Column}
use Rattle.index_derive.specs.Flags.{no_flags}
use Rattle.index_derive.specs.declared.rules.IndexRule.{IndexRule}
use Rattle.database_state.specs.Table.{Table}
use Rattle.catalog_grammar.specs.Catalogs.{TableRoots}

-- a Long that must not be NULL, and a Text among the tagged columns with any number of values
abbrev pub id_column : Column
id_column = record { id = column_id 1; name = codes "id"; kind = Long; tagged = false; multi = false; not_null = true; escrow = false; version = false; auto = false }

abbrev pub mail_column : Column
mail_column = record { id = column_id 256; name = codes "mail"; kind = Text; tagged = true; multi = true; not_null = false; escrow = false; version = false; auto = false }

-- the primary index over the number
abbrev pub primary : IndexRule
primary = record { id = index_id 2; name = codes "pk"; order = 1; segments = (record { column = column_id 1; descending = false }) ∷ []; flags = record no_flags { primary = true }; conditions = []; key_most = 255 }

-- an index over the mails from the last to the first, of the records that have one
abbrev pub by_mail : IndexRule
by_mail = record { id = index_id 1; name = codes "m"; order = 2; segments = (record { column = column_id 256; descending = true }) ∷ []; flags = record no_flags { tuples = true }; conditions = (record { column = column_id 256; must_be_null = false }) ∷ []; key_most = 255 }

-- table 258, which had a column more of either kind, in the order of making its indexes
abbrev pub people : Table
people = record { id = 258; name = codes "people"; columns = id_column ∷ mail_column ∷ []; indexes = primary ∷ by_mail ∷ []; greatest = record { fixed = 2; variable = 127; tagged = 257 }; rows = [] }

-- its records from page 5, its long values from page 6, and the entries of its index 1 from page 65543
abbrev pub people_roots : TableRoots
people_roots = record { records = 5; long_values = 6; indexes = λ index. elim index [ zero ↦ 0 | suc n ↦ elim n [ zero ↦ 65543 | suc m ↦ 0 ] ] }

abbrev pub spare : Table
spare = record { id = 1; name = codes "s"; columns = []; indexes = []; greatest = record { fixed = 0; variable = 127; tagged = 255 }; rows = [] }

abbrev pub spare_roots : TableRoots
spare_roots = record { records = 3; long_values = 4; indexes = λ index. 0 }
