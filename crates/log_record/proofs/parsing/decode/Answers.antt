use Rattle.std.proofs.Common.{◌≡◌, Bool, true, false}
use Rattle.log_record.specs.declared.fault.EntryFault.{EntryFault}
use Rattle.log_record.specs.declared.fault.EntryFault.TheVariants.{BadEntry, OutOfMemory}
use Rattle.log_record.proofs.parsing.decode.Goals as goal

not_both : (fault : EntryFault) → fault ≡ BadEntry → fault ≡ OutOfMemory → ⊥
not_both fault bad memory = absurd cc

not_false : (b : Bool) → b ≡ false → b ≡ true → ⊥
not_false b no_b yes_b = absurd cc

pub returns-then-is_cut : goal.returns-then-is_cut
returns-then-is_cut c = (
  c.is_cut.ensures.0 c.if-is_cut.true,
  λ entry h. not_both c.in-Err-BadEntry.field-0 c.in-Err-BadEntry.field-0-is (c.in-Err-BadEntry.ensures.only entry h),
)

pub returns-else-is_cut : goal.returns-else-is_cut
returns-else-is_cut c = (
  λ entry h. not_both c.in-Err-BadEntry.field-0 c.in-Err-BadEntry.field-0-is (c.in-Err-BadEntry.ensures.only entry h),
  λ cut. not_false c.is_cut.result c.if-is_cut.false (c.is_cut.ensures.1 cut),
)
