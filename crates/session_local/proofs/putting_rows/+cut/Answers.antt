use Rattle.std.proofs.Common.{false, ◌∙◌, rules, List, ℕ}
use Rattle.std.specs.Prelude.{option_copied}
use Rattle.jet_base.specs.declared.words.ColType.TheVariants.{Bit}
use Rattle.temp_table.specs.declared.columns.TempColumn.{TempColumn}
use Rattle.session_local.proofs.GivenRows.{HasFirst, cut-first, cut-none, is_cut, row-empty, row-no_values}
use Rattle.session_local.proofs.putting_rows.+cut.Goals as goal

abbrev first_column : TempColumn
first_column = record { kind = Bit; is_key = false; descending = false }

pub split_at-requires : goal.split_at-requires
split_at-requires t c =
    let has : HasFirst c.args.columns.now c.args.values.now c.value-item.result = record { column = c.in-len1-up.len_at_least; some = c.in-len1-up-values.len_at_least; first = c.value-item.is } in
    (is_cut c.args.columns.now c.args.values.now first_column c.value-item.result c.stored_length.result c.args.bytes.now has c.requires.bytes c.stored_length.ensures).within

pub cut-requires : goal.cut-requires
cut-requires t c =
    let has : HasFirst c.args.columns.now c.args.values.now c.value-item.result = record { column = c.in-len1-up.len_at_least; some = c.in-len1-up-values.len_at_least; first = c.value-item.is } in
    let parts = is_cut c.args.columns.now c.args.values.now first_column c.value-item.result c.stored_length.result c.args.bytes.now has c.requires.bytes c.stored_length.ensures in
    (search rules, (search rules, c.split_at.ensures.back ∙ parts.rest))

pub returns-in-empty : goal.returns-in-empty
returns-in-empty t c = cut-none _ _ (row-empty c.args.columns.now c.args.values.now c.in-empty.len_below)

pub returns-in-empty-values : goal.returns-in-empty-values
returns-in-empty-values t c = cut-none _ _ (row-no_values c.args.columns.now c.args.values.now c.in-empty-values.len_below)

pub returns-in-len1-up-values : goal.returns-in-len1-up-values
returns-in-len1-up-values t c =
    let has : HasFirst c.args.columns.now c.args.values.now c.value-item.result = record { column = c.in-len1-up.len_at_least; some = c.in-len1-up-values.len_at_least; first = c.value-item.is } in
    let parts = is_cut c.args.columns.now c.args.values.now first_column c.value-item.result c.stored_length.result c.args.bytes.now has c.requires.bytes c.stored_length.ensures in
    cut-first (option_copied {T = List ℕ}) c.args.columns.now c.args.values.now first_column c.value-item.result c.args.row.now.items c.push.new.self.items c.if_some.result c.split_at.result.0.now _
    has (c.split_at.ensures.front ∙ parts.front) c.if_some.ensures c.push.ensures.items c.cut.ensures
