use Rattle.std.proofs.Common.{subst, sym}
use Rattle.engine_image.specs.Checks.{MayCheck, finding_at}
use Rattle.engine_image.specs.FoundFaults.{Tells}
use Rattle.engine_image.specs.declared.checks.TableCheck.{TableCheck}
use Rattle.engine_image.proofs.parts.ImageParts.check_table.Goals as goal

pub check_values-requires-clause-place : goal.check_values-requires-clause-place
check_values-requires-clause-place c = c.requires.place

pub check_values-requires-clause-may : goal.check_values-requires-clause-may
check_values-requires-clause-may c = subst (λ (k : TableCheck). MayCheck k c.args.self.now) c.in-Values.is c.requires.may

pub returns-in-Values : goal.returns-in-Values
returns-in-Values c image is = subst (λ (k : TableCheck). Tells (finding_at k image c.args.place) c.check_values.result) (sym c.in-Values.is) (c.check_values.ensures image is)

pub check_rows-requires-clause-place : goal.check_rows-requires-clause-place
check_rows-requires-clause-place c = c.requires.place

pub check_rows-requires-clause-may : goal.check_rows-requires-clause-may
check_rows-requires-clause-may c = subst (λ (k : TableCheck). MayCheck k c.args.self.now) c.in-Rows.is c.requires.may

pub returns-in-Rows : goal.returns-in-Rows
returns-in-Rows c image is = subst (λ (k : TableCheck). Tells (finding_at k image c.args.place) c.check_rows.result) (sym c.in-Rows.is) (c.check_rows.ensures image is)

pub check_entries-requires-clause-place : goal.check_entries-requires-clause-place
check_entries-requires-clause-place c = c.requires.place

pub check_entries-requires-clause-may : goal.check_entries-requires-clause-may
check_entries-requires-clause-may c = subst (λ (k : TableCheck). MayCheck k c.args.self.now) c.in-Entries.is c.requires.may

pub returns-in-Entries : goal.returns-in-Entries
returns-in-Entries c image is = subst (λ (k : TableCheck). Tells (finding_at k image c.args.place) c.check_entries.result) (sym c.in-Entries.is) (c.check_entries.ensures image is)

pub check_keys-requires-clause-place : goal.check_keys-requires-clause-place
check_keys-requires-clause-place c = c.requires.place

pub check_keys-requires-clause-may : goal.check_keys-requires-clause-may
check_keys-requires-clause-may c = subst (λ (k : TableCheck). MayCheck k c.args.self.now) c.in-Keys.is c.requires.may

pub returns-in-Keys : goal.returns-in-Keys
returns-in-Keys c image is = subst (λ (k : TableCheck). Tells (finding_at k image c.args.place) c.check_keys.result) (sym c.in-Keys.is) (c.check_keys.ensures image is)

pub check_counts-requires-clause-place : goal.check_counts-requires-clause-place
check_counts-requires-clause-place c = c.requires.place

pub check_counts-requires-clause-may : goal.check_counts-requires-clause-may
check_counts-requires-clause-may c = subst (λ (k : TableCheck). MayCheck k c.args.self.now) c.in-Counts.is c.requires.may

pub returns-in-Counts : goal.returns-in-Counts
returns-in-Counts c image is = subst (λ (k : TableCheck). Tells (finding_at k image c.args.place) c.check_counts.result) (sym c.in-Counts.is) (c.check_counts.ensures image is)
