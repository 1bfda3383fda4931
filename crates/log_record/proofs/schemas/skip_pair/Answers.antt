use Rattle.std.proofs.Common.{◌≡◌, ℕ, Bool, List, sym, ◌∙◌}
use Rattle.std.specs.Int.{w16, w32}
use Rattle.log_record.specs.EntryCuts.{byte_cut, number_cut, small_cut, within, end_cut, name_cut, pairs_cut, conditions_cut, segments_cut, index_flags_cut, index_cut, column_cut, kind_cut}
use Rattle.log_record.proofs.schemas.skip_pair.Goals as goal
use Rattle.log_record.proofs.CutPasses.{passes_then}

pub returns-in_default : goal.returns-in_default
returns-in_default c = λ rest. c.in_default.ensures (byte_cut (within 0 1) rest)

pub returns : goal.returns
returns c = passes_then (λ x. (x.0.now, x.1)) c.skip_byte.result (λ rest. number_cut w16 (byte_cut (within 0 1) rest) c.args.bytes.now c.args.missing) (λ rest. byte_cut (within 0 1) rest c.in-Some.rest.now c.in-Some.left) (λ rest. c.in-Some.ensures (byte_cut (within 0 1) rest)) c.skip_byte.ensures
