use Rattle.std.proofs.Common.{◌≡◌, ℕ, Bool, List, sym, ◌∙◌}
use Rattle.std.specs.Int.{w16, w32}
use Rattle.log_record.specs.EntryCuts.{byte_cut, number_cut, small_cut, within, end_cut, name_cut, pairs_cut, conditions_cut, segments_cut, index_flags_cut, index_cut, column_cut, kind_cut}
use Rattle.log_record.proofs.schemas.may_be_high_flags.Goals as goal

pub returns-in_default : goal.returns-in_default
returns-in_default c = sym (c.in_default.ensures (segments_cut))

pub returns : goal.returns
returns c = c.may_be_segments.ensures ∙ sym (c.in-Some.ensures (segments_cut))
