-- A key of a unique index that two records have, as it is told.
use Rattle.database_state.specs.Table.{Table, schema_of}
use Rattle.image_contents.specs.FoundEntries.{name_of_rule}
use Rattle.image_findings.specs.Images.{Finding}
use Rattle.image_findings.specs.Images.Finding.{Unique}
use Rattle.image_live.specs.declared.keys.duplicate.DuplicateKey.{DuplicateKey}
use Rattle.index_derive.specs.Schemas.{rule_with_id}

-- a key of an index that is told by its number, with the names of the table and of the index
abbrev pub finding_in : Table → DuplicateKey → Finding
finding_in table d = Unique table.name (name_of_rule (rule_with_id (schema_of table) d.index.0)) d.key.items
