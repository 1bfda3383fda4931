use Rattle.std.proofs.Common.{◌≡◌, sym, ◌∙◌}
use Rattle.log_record.specs.EntryCuts.{kind_cut}
use Rattle.log_record.proofs.fronts.may_follow_tag.Goals as goal

pub returns-in_default : goal.returns-in_default
returns-in_default c = sym (c.in_default.ensures (kind_cut c.args.tag))

pub returns : goal.returns
returns c = c.may_be_fields.ensures ∙ sym (c.in-Some.ensures (kind_cut c.args.tag))
