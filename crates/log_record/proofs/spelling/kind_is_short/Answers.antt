use Rattle.log_record.proofs.Sizes.{kind_is_short}
use Rattle.log_record.proofs.spelling.kind_is_short.Goals as goal

pub returns-in_default : goal.returns-in_default
returns-in_default c = kind_is_short c.args.kind.now c.in_default.not-Change c.requires
