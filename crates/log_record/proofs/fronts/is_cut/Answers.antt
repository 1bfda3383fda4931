use Rattle.std.proofs.Common.{◌≡◌, sym, ◌∙◌, arith}
use Rattle.log_record.proofs.CutWhole.{cut_from_test, test_from_cut}
use Rattle.log_record.proofs.fronts.is_cut.Goals as goal

pub returns : goal.returns
returns c = (
  λ h. cut_from_test c.args.bytes.now (λ i. omega (arith, c.type_inv.bytes i)) (sym c.is_front.ensures ∙ h),
  λ cut. c.is_front.ensures ∙ test_from_cut c.args.bytes.now (λ i. omega (arith, c.type_inv.bytes i)) cut,
)
