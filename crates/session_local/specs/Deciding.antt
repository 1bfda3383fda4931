-- What a decision of the code says of the session's own state.
use Rattle.std.specs.Prelude.{ℕ, Bool, true, false, List, [], Option, Some, None, option_map, is_some, unwrap_or}
use Rattle.index_derive.specs.declared.log.Step.{Step}
use Rattle.index_derive.specs.declared.rules.Schema.{Schema}
use Rattle.jet_base.specs.declared.ids.TableId.{TableId}
use Rattle.temp_table.specs.TempRows.{TempRows}
use Rattle.session_local.specs.declared.request.Request.{Request}
use Rattle.session_local.specs.declared.request.Request.TheVariants as call
use Rattle.session_local.specs.declared.decision.Decision.{Decision}
use Rattle.session_local.specs.declared.prepared.Prepared.{Prepared}
use Rattle.session_local.specs.Local.{LocalState, PreparedUpdate, cursor_labelled}
use Rattle.session_local.specs.Finishing.{Decided, with_copied, with_filled}
use Rattle.session_local.specs.Preparing.{update_of, FitsCursor}

abbrev pub table_of : TableId × Schema → ℕ × Schema
table_of table = (table.0.0, table.1)

abbrev pub decided_in : Decision → Decided
decided_in decision = record {
  step = decision.step;
  table = option_map table_of decision.table;
  copied = option_map update_of decision.copied;
  temp = decision.temp;
  buffers = is_some decision.buffers;
}

-- a step without a copied update and a temporary table
abbrev pub decided_at : Option Step → Option (TableId × Schema) → Option (List ℕ) → Decided
decided_at step table buffers = record { step = step; table = option_map table_of table; copied = None; temp = None; buffers = is_some buffers }

-- the copied update of a PrepareUpdate is prepared
abbrev pub with_copied_by : LocalState → Request → Option PreparedUpdate → LocalState
with_copied_by local (call.PrepareUpdate cursor how) copied = with_copied local cursor.0 copied
with_copied_by local _ copied = local

-- the temporary table of an IntersectIndexes is open
abbrev pub with_filled_by : LocalState → Request → Option TempRows → LocalState
with_filled_by local (call.IntersectIndexes temp cursors) filled = with_filled local temp filled
with_filled_by local _ filled = local

-- the calls whose step takes the memory of a session or a table with it
abbrev pub begins_or_opens : Request → Bool
begins_or_opens call.BeginSession = true
begins_or_opens (call.OpenTable cursor table) = true
begins_or_opens _ = false

-- the copied update has the columns of the table of its cursor
abbrev pub CopiedFits : LocalState → Request → Option Prepared → Type 0
CopiedFits local (call.PrepareUpdate cursor how) copied = FitsCursor (cursor_labelled local cursor.0) copied
CopiedFits local _ copied = Unit {0}

abbrev pub bytes_after_step : Option Step → List ℕ → List ℕ → List ℕ
bytes_after_step None without after = without
bytes_after_step (Some step) without after = after

-- the reply buffer after a step: that of the memory that was taken for a session that begins, none for one that ends
abbrev pub reply_after : List ℕ → Request → Option Step → Option (List ℕ) → List ℕ
reply_after reply call.BeginSession step buffers = bytes_after_step step reply (unwrap_or buffers reply)
reply_after reply call.EndSession step buffers = bytes_after_step step reply []
reply_after reply _ step buffers = reply
