use Rattle.std.proofs.Common.{◌≡◌, Option, Some, option_map, sym, ◌∙◌, ap, subst}
use Rattle.session_local.specs.declared.prepared.Prepared.{Prepared}
use Rattle.session_local.specs.Local.{OpenCursor, PreparedUpdate}
use Rattle.session_local.specs.CursorSeen.{open_cursor}
use Rattle.session_local.specs.Preparing.{update_of}
use Rattle.session_local.specs.Changing.{value_set_at, ChangesTo}
use Rattle.session_local.proofs.open_cursor.OpenCursor.set_column.Goals as goal

pub returns : goal.returns
returns c =
    let o : OpenCursor = open_cursor c.self.inside in
    let old = c.in-Some.prepared in
    let has : o.prepared ≡ Some (update_of old) = ap (λ (p : Option Prepared). option_map update_of p) c.in-Some.is in
    let columns : old.buffer.columns ≡ o.schema.columns = rw c.in-Some.is at c.self.invariant in
    let same : record o { prepared = Some (update_of old) } ≡ c.args.self.now = ap (λ (p : Option PreparedUpdate). record o { prepared = p }) (sym has) ∙ c.self.view_is in
    let new : OpenCursor = record o { prepared = Some (update_of c.set_named.new.self) } in
    subst (λ (x : OpenCursor). ChangesTo x (value_set_at x c.args.name.now c.args.sequence c.args.value.now) c.set_named.result new) same (c.set_named.ensures.set o (sym columns))
