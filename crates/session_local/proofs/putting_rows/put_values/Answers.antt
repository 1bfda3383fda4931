use Rattle.std.proofs.Common.{◌≡◌, ◌++◌, List, ℕ, length, map, None, Option, Err, sym, ap, ◌∙◌, arith, true}
use Rattle.std.specs.Prelude.{option_copied}
use Rattle.temp_table.specs.declared.columns.TempColumn.{TempColumn}
use Rattle.temp_table.specs.declared.fault.TempFault.TheVariants.{TooBig, Double}
use Rattle.temp_table.specs.TempColumns.{row_fits}
use Rattle.temp_table.specs.TempRows.{put_refusal, put_row}
use Rattle.session_local.specs.ChangingTemps.{bytes_of_row}
use Rattle.session_local.specs.TempCalls.{stored_row, values_refusal}
use Rattle.session_local.proofs.GivenRows.{few_columns, put-done, put-fault, put-few, put-refused, short_columns, stored_row-fits}
use Rattle.session_local.proofs.putting_rows.put_values.Goals as goal

pub returns-then-values-columns : goal.returns-then-values-columns
returns-then-values-columns c = put-few c.args.table.now c.args.values.now (λ e. c.if-values-columns.true (e ∙ ap (λ (cs : List TempColumn). length cs) (sym c.columns.ensures.value)))

pub returns-in-Some : goal.returns-in-Some
returns-in-Some c =
    put-refused c.args.table.now c.args.values.now c.in-Some.refusal
    (c.if-values-columns.false ∙ ap (λ (cs : List TempColumn). length cs) c.columns.ensures.value)
    (ap (λ (cs : List TempColumn). values_refusal cs c.args.values.now) (sym c.columns-2.ensures.value) ∙ sym c.values_refusal.ensures ∙ c.in-Some.is)

pub write_stored-requires-clause-short : goal.write_stored-requires-clause-short
write_stored-requires-clause-short c = short_columns c.columns-3.result.now c.columns-3.ensures.legal

pub write_stored-requires-clause-fit : goal.write_stored-requires-clause-fit
write_stored-requires-clause-fit c =
    ap (λ (cs : List TempColumn). values_refusal cs c.args.values.now) (c.columns-3.ensures.value ∙ sym c.columns-2.ensures.value) ∙ sym c.values_refusal.ensures ∙ c.in-None.is

pub cut-requires-clause-room : goal.cut-requires-clause-room
cut-requires-clause-room c = omega (arith, few_columns c.columns-4.result.now c.columns-4.ensures.legal, ap (λ (xs : List (Option _)). length xs) c.new-row.ensures)

pub cut-requires-clause-bytes : goal.cut-requires-clause-bytes
cut-requires-clause-bytes c =
    c.as_slice.ensures.value
    ∙ c.in_ok-write_stored.ensures
    ∙ ap (λ (bytes : List ℕ). bytes ++ bytes_of_row (stored_row c.columns-3.result.now c.args.values.now)) c.clear.ensures.items
    ∙ ap (λ (cs : List TempColumn). bytes_of_row (stored_row cs c.args.values.now)) (c.columns-3.ensures.value ∙ sym c.columns-4.ensures.value)

pub put-requires : goal.put-requires
put-requires c =
    let columns = c.args.table.now.columns in
    let same : length c.args.values.now ≡ length columns = c.if-values-columns.false ∙ ap (λ (cs : List TempColumn). length cs) c.columns.ensures.value in
    let none : values_refusal columns c.args.values.now ≡ None = ap (λ (cs : List TempColumn). values_refusal cs c.args.values.now) (sym c.columns-2.ensures.value) ∙ sym c.values_refusal.ensures ∙ c.in-None.is in
    let row : map (option_copied {T = List ℕ}) c.as_slice-2.result.now ≡ stored_row columns c.args.values.now =
    ap (map (option_copied {T = List ℕ})) c.as_slice-2.ensures.value
    ∙ c.cut.ensures
    ∙ ap (λ xs. map (option_copied {T = List ℕ}) xs ++ stored_row c.columns-4.result.now c.args.values.now) c.new-row.ensures
    ∙ ap (λ (cs : List TempColumn). stored_row cs c.args.values.now) c.columns-4.ensures.value in
    ap (row_fits columns) row ∙ stored_row-fits columns c.args.values.now same none

pub returns-in-Ok : goal.returns-in-Ok
returns-in-Ok c =
    let columns = c.args.table.now.columns in
    let same : length c.args.values.now ≡ length columns = c.if-values-columns.false ∙ ap (λ (cs : List TempColumn). length cs) c.columns.ensures.value in
    let none : values_refusal columns c.args.values.now ≡ None = ap (λ (cs : List TempColumn). values_refusal cs c.args.values.now) (sym c.columns-2.ensures.value) ∙ sym c.values_refusal.ensures ∙ c.in-None.is in
    let row : map (option_copied {T = List ℕ}) c.as_slice-2.result.now ≡ stored_row columns c.args.values.now =
    ap (map (option_copied {T = List ℕ})) c.as_slice-2.ensures.value
    ∙ c.cut.ensures
    ∙ ap (λ xs. map (option_copied {T = List ℕ}) xs ++ stored_row c.columns-4.result.now c.args.values.now) c.new-row.ensures
    ∙ ap (λ (cs : List TempColumn). stored_row cs c.args.values.now) c.columns-4.ensures.value in
    put-done c.args.table.now c.put.new.self c.args.values.now same none (ap (put_refusal c.args.table.now) (sym row) ∙ c.in-Ok.ensures.ok) (c.in-Ok.ensures.put ∙ ap (put_row c.args.table.now) row)

pub returns-in-Err-TooBig : goal.returns-in-Err-TooBig
returns-in-Err-TooBig c =
    let columns = c.args.table.now.columns in
    let same : length c.args.values.now ≡ length columns = c.if-values-columns.false ∙ ap (λ (cs : List TempColumn). length cs) c.columns.ensures.value in
    let none : values_refusal columns c.args.values.now ≡ None = ap (λ (cs : List TempColumn). values_refusal cs c.args.values.now) (sym c.columns-2.ensures.value) ∙ sym c.values_refusal.ensures ∙ c.in-None.is in
    let row : map (option_copied {T = List ℕ}) c.as_slice-2.result.now ≡ stored_row columns c.args.values.now =
    ap (map (option_copied {T = List ℕ})) c.as_slice-2.ensures.value
    ∙ c.cut.ensures
    ∙ ap (λ xs. map (option_copied {T = List ℕ}) xs ++ stored_row c.columns-4.result.now c.args.values.now) c.new-row.ensures
    ∙ ap (λ (cs : List TempColumn). stored_row cs c.args.values.now) c.columns-4.ensures.value in
    put-fault c.args.table.now c.put.new.self c.args.values.now TooBig same none (ap (put_refusal c.args.table.now) (sym row) ∙ c.put.ensures.too_big.0 (c.in-Err-TooBig.is ∙ ap Err c.in-Err-TooBig.field-0-is)) c.in-Err-TooBig.ensures.err

pub returns-in-Err-Double : goal.returns-in-Err-Double
returns-in-Err-Double c =
    let columns = c.args.table.now.columns in
    let same : length c.args.values.now ≡ length columns = c.if-values-columns.false ∙ ap (λ (cs : List TempColumn). length cs) c.columns.ensures.value in
    let none : values_refusal columns c.args.values.now ≡ None = ap (λ (cs : List TempColumn). values_refusal cs c.args.values.now) (sym c.columns-2.ensures.value) ∙ sym c.values_refusal.ensures ∙ c.in-None.is in
    let row : map (option_copied {T = List ℕ}) c.as_slice-2.result.now ≡ stored_row columns c.args.values.now =
    ap (map (option_copied {T = List ℕ})) c.as_slice-2.ensures.value
    ∙ c.cut.ensures
    ∙ ap (λ xs. map (option_copied {T = List ℕ}) xs ++ stored_row c.columns-4.result.now c.args.values.now) c.new-row.ensures
    ∙ ap (λ (cs : List TempColumn). stored_row cs c.args.values.now) c.columns-4.ensures.value in
    put-fault c.args.table.now c.put.new.self c.args.values.now Double same none (ap (put_refusal c.args.table.now) (sym row) ∙ c.put.ensures.double (c.in-Err-Double.is ∙ ap Err c.in-Err-Double.field-0-is)) c.in-Err-Double.ensures.err
