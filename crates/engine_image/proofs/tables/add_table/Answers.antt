use Rattle.common_lemmas.proofs.Results.{OnOk-then}
use Rattle.engine_image.proofs.tables.add_table.Goals as goal

pub made_table-requires : goal.made_table-requires
made_table-requires c = c.requires

pub returns-in-Ok : goal.returns-in-Ok
returns-in-Ok c = OnOk-then c.put_table.result (λ items. (c.in-Ok.put, c.in-Ok.ensures, items)) c.put_table.ensures
