use Rattle.column_set.specs.Rows.{record_values_in_order, values_in_order}
use Rattle.long_rows.specs.KeptRows.{kept_row}
use Rattle.long_rows.proofs.ChangedValues.{value_laws}
use Rattle.long_rows.proofs.Behind.{none_other}
use Rattle.long_rows.proofs.Given.{id_law, names}
use Rattle.long_rows.proofs.Kept.{fields_kept}
use Rattle.long_rows.proofs.Sizes.{size_law}
use Rattle.long_rows.proofs.Stored.{kept_stands, kept_takes}
use Rattle.long_rows.proofs.storing.kept_rows_stand_for_their_records.Goals as goal

pub returns-clause-names : goal.returns-clause-names
returns-clause-names c found fields = names found 0 (values_in_order (kept_row found fields)) (record_values_in_order fields) (fields_kept found 0 fields)

pub returns-clause-take : goal.returns-clause-take
returns-clause-take c = kept_takes size_law

pub returns-clause-stand : goal.returns-clause-stand
returns-clause-stand c = kept_stands value_laws id_law size_law

pub returns-clause-none_other : goal.returns-clause-none_other
returns-clause-none_other c = none_other value_laws id_law size_law
