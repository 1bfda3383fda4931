use Rattle.std.proofs.Common.{◌≡◌, refl}
use Rattle.log_record.specs.declared.fault.EntryFault.{EntryFault}
use Rattle.log_record.specs.declared.fault.EntryFault.TheVariants.{BadEntry, OutOfMemory}
use Rattle.tool_dump.proofs.LogReading.{front_appended}
use Rattle.tool_dump.proofs.entries.append_front.Goals as goal

not_both : (fault : EntryFault) → fault ≡ BadEntry → fault ≡ OutOfMemory → ⊥
not_both fault bad memory = absurd cc

pub returns-in-Ok : goal.returns-in-Ok
returns-in-Ok c =
    front_appended c.append_sized.result c.args.number c.args.bytes.now c.args.text.now.items c.append_sized.new.text.items c.in-Ok.entry c.in-Ok.size c.in-Ok.ensures.found c.append_sized.ensures

pub returns-in-Err-BadEntry : goal.returns-in-Err-BadEntry
returns-in-Err-BadEntry c = (
  λ entry begins. not_both c.in-Err-BadEntry.field-0 c.in-Err-BadEntry.field-0-is (c.in-Err-BadEntry.ensures.only entry begins),
  refl,
)
