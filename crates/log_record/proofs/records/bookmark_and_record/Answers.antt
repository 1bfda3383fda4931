use Rattle.std.proofs.Common.{◌≡◌, sym, ◌∙◌}
use Rattle.std.specs.Int.{w16, w32}
use Rattle.log_record.specs.EntryCuts.{bookmark_cut, byte_cut, number_cut, small_cut, within, end_cut, drop_none, add_none, put_none, copied_cut, record_cut, copied_bookmark_none, name_cut, pairs_cut, conditions_cut, segments_cut, index_flags_cut, index_cut, column_cut, kind_cut}
use Rattle.log_record.proofs.records.bookmark_and_record.Goals as goal

pub returns-in_default : goal.returns-in_default
returns-in_default c = λ none. sym (c.in_default.ensures none record_cut)

pub returns : goal.returns
returns c = λ none. c.may_be_record.ensures ∙ sym (c.in-Some.ensures none record_cut)
