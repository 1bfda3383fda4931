use Rattle.std.proofs.Common.{false, ◌++◌, ap, ◌∙◌, rules, List, ℕ}
use Rattle.jet_base.specs.declared.words.ColType.TheVariants.{Bit}
use Rattle.temp_table.specs.declared.columns.TempColumn.{TempColumn}
use Rattle.session_local.proofs.GivenRows.{HasFirst, fit-first, is_stored, on_ok, row-empty, row-no_values, short-first, written-first, written-none}
use Rattle.session_local.proofs.putting_rows.+write_stored.Goals as goal

abbrev first_column : TempColumn
first_column = record { kind = Bit; is_key = false; descending = false }

pub stored_front-requires : goal.stored_front-requires
stored_front-requires t c =
    let has : HasFirst c.args.columns.now c.args.values.now c.value-item.result = record { column = c.in-len1-up.len_at_least; some = c.in-len1-up-values.len_at_least; first = c.value-item.is } in
    (is_stored _ c.value-item.result (fit-first c.args.columns.now c.args.values.now first_column c.value-item.result has c.requires.fit).0).fits

pub write_stored-requires : goal.write_stored-requires
write_stored-requires t c =
    let has : HasFirst c.args.columns.now c.args.values.now c.value-item.result = record { column = c.in-len1-up.len_at_least; some = c.in-len1-up-values.len_at_least; first = c.value-item.is } in
    (search rules, ((short-first c.args.columns.now first_column has.column c.requires.short).1, (fit-first c.args.columns.now c.args.values.now first_column c.value-item.result has c.requires.fit).1))

pub returns-in-empty : goal.returns-in-empty
returns-in-empty t c = written-none c.args.bytes.now.items _ (row-empty c.args.columns.now c.args.values.now c.in-empty.len_below)

pub returns-in-empty-values : goal.returns-in-empty-values
returns-in-empty-values t c = written-none c.args.bytes.now.items _ (row-no_values c.args.columns.now c.args.values.now c.in-empty-values.len_below)

pub returns-in_ok-extend_from_slice-in-len1-up-values : goal.returns-in_ok-extend_from_slice-in-len1-up-values
returns-in_ok-extend_from_slice-in-len1-up-values t c =
    let has : HasFirst c.args.columns.now c.args.values.now c.value-item.result = record { column = c.in-len1-up.len_at_least; some = c.in-len1-up-values.len_at_least; first = c.value-item.is } in
    on_ok c.write_stored.result
    (λ more. written-first c.args.columns.now c.args.values.now first_column c.value-item.result c.args.bytes.now.items c.stored_front.result.items c.extend_from_slice.new.self.items c.write_stored.new.bytes.items
    has c.requires.short c.requires.fit c.stored_front.ensures
    (c.in_ok-extend_from_slice-in-len1-up-values.ensures.items ∙ ap (λ (b : List ℕ). c.args.bytes.now.items ++ b) c.as_slice.ensures.value) more)
    c.write_stored.ensures
