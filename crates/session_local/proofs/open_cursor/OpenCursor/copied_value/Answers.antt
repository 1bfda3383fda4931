use Rattle.std.proofs.Common.{◌≡◌, ◌≤◌, ◌-◌, true, Option, Some, option_map, sym, ◌∙◌, ap, arith}
use Rattle.std.specs.Option.{option_copied}
use Rattle.column_set.specs.RecordValues.{values_of, column_named}
use Rattle.session_local.specs.declared.prepared.Prepared.{Prepared}
use Rattle.session_local.specs.Local.{OpenCursor}
use Rattle.session_local.specs.CursorSeen.{open_cursor}
use Rattle.session_local.specs.Preparing.{update_of}
use Rattle.session_local.specs.WellFormed.{is_well_formed_cursor}
use Rattle.session_local.proofs.AtCursor.{copied_count, copied_value_fits, no_value_at_0}
use Rattle.session_local.proofs.open_cursor.OpenCursor.copied_value.Goals as goal

pub overflow_cast-count : goal.overflow_cast-count
overflow_cast-count c =
    let o : OpenCursor = open_cursor c.self.inside in
    let well : is_well_formed_cursor o ≡ true = ap is_well_formed_cursor c.self.view_is ∙ c.requires in
    let prepared = c.in-Some.prepared in
    let has : o.prepared ≡ Some (update_of prepared) = ap (λ (p : Option Prepared). option_map update_of p) c.in-Some.is in
    let most = copied_count o (update_of prepared) c.in-Some-column_named.column.now.id.0 well has in
    let small : c.count-count.result ≤ 1700 = rw c.count-count.ensures most in
    omega (arith, small)

pub shown_value-requires : goal.shown_value-requires
shown_value-requires c =
    let o : OpenCursor = open_cursor c.self.inside in
    let well : is_well_formed_cursor o ≡ true = ap is_well_formed_cursor c.self.view_is ∙ c.requires in
    let prepared = c.in-Some.prepared in
    let has : o.prepared ≡ Some (update_of prepared) = ap (λ (p : Option Prepared). option_map update_of p) c.in-Some.is in
    let column = c.in-Some-column_named.column.now in
    let named : column_named o.schema.columns c.args.name.now ≡ Some column = sym c.column_named.ensures ∙ ap option_copied c.in-Some-column_named.is in
    let found = no_value_at_0 c.args.sequence (values_of prepared.buffer.fields column.id.0) c.in-Some-get.value.now (sym c.get.ensures ∙ ap option_copied c.in-Some-get.is) in
    copied_value_fits o (update_of prepared) c.args.name.now column (c.args.sequence - 1) c.in-Some-get.value.now well has named found
