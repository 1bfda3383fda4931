use Rattle.std.proofs.Common.{◌≡◌, List, ℕ, Option, option_map, is_some, refl, ap, ◌∙◌}
use Rattle.jet_base.specs.declared.ids.TableId.{TableId}
use Rattle.index_derive.specs.declared.log.Step.{Step}
use Rattle.index_derive.specs.declared.rules.Schema.{Schema}
use Rattle.temp_table.specs.TempRows.{TempRows}
use Rattle.session_local.specs.declared.request.Request.{Request}
use Rattle.session_local.specs.declared.request.Request.TheVariants as call
use Rattle.session_local.specs.Local.{LocalState, PreparedUpdate}
use Rattle.session_local.specs.Finishing.{finished}
use Rattle.session_local.specs.Deciding.{decided_at, table_of, with_copied_by, with_filled_by}
use Rattle.session_local.proofs.finishing.finish.Goals as goal

-- what was copied or filled first, and then what the step leaves
finished-parts : (local : LocalState) (request : Request) (step : Option Step) (table : Option (TableId × Schema)) (copied : Option PreparedUpdate) (temp : Option TempRows) (buffers : Option (List ℕ))
    → finished (with_filled_by (with_copied_by local request copied) request temp) request (decided_at step table buffers)
    ≡ finished local request (record { step = step; table = option_map table_of table; copied = copied; temp = temp; buffers = is_some buffers })
finished-parts local (call.PrepareUpdate cursor how) step table copied temp buffers = refl
finished-parts local (call.IntersectIndexes label cursors) step table copied temp buffers = refl
finished-parts local _ step table copied temp buffers = refl

pub returns-clause-state : goal.returns-clause-state
returns-clause-state c =
    c.take_step.ensures.state
    ∙ ap (λ (s : LocalState). finished s c.args.request.now (decided_at c.args.decision.step c.args.decision.table c.args.decision.buffers))
    (c.take_filled.ensures.state ∙ ap (λ (s : LocalState). with_filled_by s c.args.request.now c.args.decision.temp) c.take_copied.ensures.state)
    ∙ finished-parts c.args.local.now.state c.args.request.now c.args.decision.step c.args.decision.table _ c.args.decision.temp c.args.decision.buffers
