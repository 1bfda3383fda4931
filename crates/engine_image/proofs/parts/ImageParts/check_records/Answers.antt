use Rattle.engine_image.proofs.InOrder.{counts_tell, entries_refuse, keys_refuse, may_counts, may_entries, may_keys, may_rows, rows_refuse}
use Rattle.engine_image.proofs.parts.ImageParts.check_records.Goals as goal

pub check_tables-requires : goal.check_tables-requires
check_tables-requires c = may_rows c.args.self.now c.requires

pub check_tables-requires-2 : goal.check_tables-requires-2
check_tables-requires-2 c = may_entries c.args.self.now c.requires c.in-Ok.ensures

pub check_tables-requires-3 : goal.check_tables-requires-3
check_tables-requires-3 c = may_keys c.args.self.now c.requires c.in-Ok.ensures

pub check_tables-requires-in-Ok-check_tables-2 : goal.check_tables-requires-in-Ok-check_tables-2
check_tables-requires-in-Ok-check_tables-2 c = may_counts c.args.self.now c.requires

pub returns-in-Err : goal.returns-in-Err
returns-in-Err c image is = rows_refuse image c.in-Err.fault (c.in-Err.ensures image is)

pub returns-in-Err-check_tables : goal.returns-in-Err-check_tables
returns-in-Err-check_tables c image is = entries_refuse image c.in-Err-check_tables.fault (c.in-Ok.ensures image is) (c.in-Err-check_tables.ensures image is)

pub returns-in-Err-check_tables-2 : goal.returns-in-Err-check_tables-2
returns-in-Err-check_tables-2 c image is = keys_refuse image c.in-Err-check_tables-2.fault (c.in-Ok.ensures image is) (c.in-Ok-check_tables.ensures image is) (c.in-Err-check_tables-2.ensures image is)

pub returns-in-Ok-check_tables-2 : goal.returns-in-Ok-check_tables-2
returns-in-Ok-check_tables-2 c image is = counts_tell image c.check_tables-in-Ok-check_tables-2.result (c.in-Ok.ensures image is) (c.in-Ok-check_tables.ensures image is) (c.in-Ok-check_tables-2.ensures image is) (c.check_tables-in-Ok-check_tables-2.ensures image is)
