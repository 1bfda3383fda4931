use Rattle.std.proofs.Common.{◌≡◌, ℕ, Bool, List, sym, ◌∙◌}
use Rattle.log_record.specs.EntryCuts.{byte_cut, small_cut, within}
use Rattle.log_record.proofs.CutPasses.{passes_then}
use Rattle.log_record.proofs.fields.skip_zeros.Goals as goal

pub returns-in_default : goal.returns-in_default
returns-in_default c = λ rest. c.in_default.ensures (byte_cut (within 0 0) (byte_cut (within 0 0) rest))

pub returns : goal.returns
returns c = passes_then (λ x. (x.0.now, x.1)) c.skip_two_zeros.result (λ rest. byte_cut (within 0 0) (byte_cut (within 0 0) (byte_cut (within 0 0) rest)) c.args.bytes.now c.args.missing) (λ rest. byte_cut (within 0 0) (byte_cut (within 0 0) rest) c.in-Some.rest.now c.in-Some.left) (λ rest. c.in-Some.ensures (byte_cut (within 0 0) (byte_cut (within 0 0) rest))) c.skip_two_zeros.ensures
