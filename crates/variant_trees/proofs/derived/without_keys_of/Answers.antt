use Rattle.std.proofs.Common.{◌≡◌, ◌&&◌, not, Err, List, ℕ, option_map, option_copied, bytes_eq, sym, ap, subst, ◌∙◌}
use Rattle.std.specs.List.{list_any}
use Rattle.database_state.specs.Conflicts.{yields_key}
use Rattle.index_derive.specs.declared.faults.DeriveFault.{DeriveFault}
use Rattle.index_derive.specs.Derived.{IsDerived}
use Rattle.index_derive.specs.Entries.{KeyTruncated, NullKeyDisallowed, entries, keys_or_none}
use Rattle.table_trees.specs.StoredTables.{table_long_values}
use Rattle.stored_variants.specs.RecordRows.{record_of}
use Rattle.variant_trees.proofs.KeysLeft.{stays}
use Rattle.variant_trees.proofs.RisingKeys.{Rise}
use Rattle.variant_trees.proofs.derived.without_keys_of.Goals as goal

pub without_keys-requires : goal.without_keys-requires
without_keys-requires c =
    subst (λ (keys : List (List ℕ)). Rise keys) (sym c.as_slice-in-Ok.ensures)
    (subst (λ found. Rise (keys_or_none found)) c.in-Ok.ensures (c.entries_rise.ensures c.args.rule.now c.args.schema.now c.in-Some.row))

pub returns-in-Ok-without_keys : goal.returns-in-Ok-without_keys
returns-in-Ok-without_keys c = λ key.
    c.in-Ok-without_keys.ensures key
    ∙ (λ i. list_any (bytes_eq key) (c.as_slice.ensures i) && not (list_any (bytes_eq key) (c.as_slice-in-Ok.ensures i)))
    ∙ ap (λ b. list_any (bytes_eq key) c.args.keys && not b) (sym (ap (λ found. list_any (bytes_eq key) (keys_or_none found)) c.in-Ok.ensures) ∙ ap (yields_key c.args.rule.now c.args.schema.now key) c.in-Some.ensures)

pub returns-in-Err-NullKeyDisallowed : goal.returns-in-Err-NullKeyDisallowed
returns-in-Err-NullKeyDisallowed c = λ key.
    let refused : entries c.args.rule.now c.args.schema.now c.in-Some.row ≡ Err NullKeyDisallowed =
    subst (λ (f : DeriveFault). IsDerived (entries c.args.rule.now c.args.schema.now c.in-Some.row) (Err f)) c.in-Err-NullKeyDisallowed.field-0-is c.in-Err-NullKeyDisallowed.ensures in
    stays (list_any (bytes_eq key) c.args.keys) (yields_key c.args.rule.now c.args.schema.now key (option_map (record_of (table_long_values c.args.trees.now.tables c.args.table.0)) (option_copied c.args.row)))
    (ap (yields_key c.args.rule.now c.args.schema.now key) (sym c.in-Some.ensures) ∙ ap (λ found. list_any (bytes_eq key) (keys_or_none found)) refused)

pub returns-in-Some : goal.returns-in-Some
returns-in-Some c = λ key.
    let refused : entries c.args.rule.now c.args.schema.now c.in-Some.row ≡ Err KeyTruncated =
    subst (λ (f : DeriveFault). IsDerived (entries c.args.rule.now c.args.schema.now c.in-Some.row) (Err f)) c.in-Err-KeyTruncated.field-0-is c.in-Err-KeyTruncated.ensures in
    stays (list_any (bytes_eq key) c.args.keys) (yields_key c.args.rule.now c.args.schema.now key (option_map (record_of (table_long_values c.args.trees.now.tables c.args.table.0)) (option_copied c.args.row)))
    (ap (yields_key c.args.rule.now c.args.schema.now key) (sym c.in-Some.ensures) ∙ ap (λ found. list_any (bytes_eq key) (keys_or_none found)) refused)

pub returns : goal.returns
returns c = λ key.
    stays (list_any (bytes_eq key) c.args.keys) (yields_key c.args.rule.now c.args.schema.now key (option_map (record_of (table_long_values c.args.trees.now.tables c.args.table.0)) (option_copied c.args.row)))
    (ap (yields_key c.args.rule.now c.args.schema.now key) (sym c.in-None.ensures))
