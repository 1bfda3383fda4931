use Rattle.std.proofs.Common.{refl, subst}
use Rattle.log_record.specs.declared.fault.EntryFault.{EntryFault}
use Rattle.log_record.specs.declared.fault.EntryFault.TheVariants.{BadEntry}
use Rattle.log_record.specs.declared.parsing.Parsed.{Parsed}
use Rattle.log_record.specs.declared.parsing.Parsed.TheVariants.{Whole, Cut}
use Rattle.log_record.specs.EntryParsed.{Holds, Refused}
use Rattle.soft_recovery.proofs.Making.{none_begins, taken}
use Rattle.soft_recovery.proofs.replaying.take_entry.Goals as goal

pub take_step-requires-clause-spelled : goal.take_step-requires-clause-spelled
take_step-requires-clause-spelled c =
    let whole : Holds c.args.bytes.now (Whole c.in-Ok-Whole.entry c.in-Ok-Whole.size) = subst (λ (p : Parsed). Holds c.args.bytes.now p) c.in-Ok-Whole.field-0-is c.in-Ok-Whole.ensures in
    whole.0.1

pub returns-in-Ok-Whole : goal.returns-in-Ok-Whole
returns-in-Ok-Whole c =
    let whole : Holds c.args.bytes.now (Whole c.in-Ok-Whole.entry c.in-Ok-Whole.size) = subst (λ (p : Parsed). Holds c.args.bytes.now p) c.in-Ok-Whole.field-0-is c.in-Ok-Whole.ensures in
    taken c.args.engine.now c.take_step.new.engine c.args.bytes.now c.in-Ok-Whole.entry c.in-Ok-Whole.size c.take_step.result whole.0 whole.1 c.take_step.ensures

pub returns-in-Ok-Cut : goal.returns-in-Ok-Cut
returns-in-Ok-Cut c =
    let cut : Holds c.args.bytes.now Cut = subst (λ (p : Parsed). Holds c.args.bytes.now p) c.in-Ok-Cut.field-0-is c.in-Ok-Cut.ensures in
    (cut.0, refl)

pub returns-in-Err-BadEntry : goal.returns-in-Err-BadEntry
returns-in-Err-BadEntry c state holds =
    let bad : Refused c.args.bytes.now BadEntry = subst (λ (f : EntryFault). Refused c.args.bytes.now f) c.in-Err-BadEntry.field-0-is c.in-Err-BadEntry.ensures in
    none_begins c.args.bytes.now bad.0 bad.1 state
