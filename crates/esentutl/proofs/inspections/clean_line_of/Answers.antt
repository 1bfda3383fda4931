use Rattle.std.proofs.Common.{◌∙◌}
use Rattle.esentutl.proofs.FoundTexts.{clean_told, for_ok}
use Rattle.esentutl.proofs.inspections.clean_line_of.Goals as goal

pub returns : goal.returns
returns c =
    for_ok c.clean_line.result (λ line is checkpoint stream holds. is ∙ clean_told checkpoint stream c.args.engine.now holds c.number.result c.table_count.result c.number.ensures c.table_count.ensures) c.clean_line.ensures
