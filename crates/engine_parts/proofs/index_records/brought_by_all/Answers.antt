use Rattle.std.proofs.Common.{◌≡◌, ℕ, ◌<◌, true, List, Option, Some, Result, sym, ap, subst, ◌∙◌}
use Rattle.cursor_nav.specs.Places.{Pair, are_sorted, entry_after, found_pair}
use Rattle.database_state.specs.Table.{Rows, record_in, schema_of, table_with_id}
use Rattle.index_derive.specs.declared.entries.IndexEntry.{IndexEntry}
use Rattle.index_derive.specs.declared.entries.Place.TheVariants.{Before, On}
use Rattle.index_derive.specs.declared.rules.IndexRule.{IndexRule}
use Rattle.index_derive.specs.declared.rules.Schema.{Schema}
use Rattle.index_derive.specs.Derived.{IsDerived}
use Rattle.index_derive.specs.Entries.{KeyRefusal, entries, own_order}
use Rattle.laws_engine.proofs.TableLemmas.Neighbours.{fewer_left, left_from}
use Rattle.laws_engine.specs.HeldRecords.{seen_record}
use Rattle.laws_engine.specs.VersionedTables.{VersionedTables, seen_tables}
use Rattle.engine_parts.specs.CreatingIndexes.{entries_of, rows_shown}
use Rattle.engine_parts.proofs.BroughtRecords.{IsGoneOver, all_begins, all_ends, all_goes_on, standing}
use Rattle.engine_parts.proofs.RecordWalks.{rows_in_order, stands_at_record}
use Rattle.engine_parts.proofs.index_records.brought_by_all.Goals as goal

pub loop-found-init : goal.loop-found-init
loop-found-init c =
    let rows : Rows = rows_shown c.args.reader c.args.tables.now.store c.args.table.now.id in
    let first : found_pair c.walk_records-found.result ≡ entry_after Before (own_order rows) =
    c.walk_records-found.ensures ∙ ap (λ n. entry_after Before (own_order (rows_shown c.args.reader c.args.tables.now.store n))) c.id-id.ensures in
    all_begins c.args.rule.now (schema_of c.args.table.now) rows (found_pair c.walk_records-found.result) c.new-brought.result first
    (c.new-brought.ensures.unique ∙ c.is_unique.ensures) c.new-brought.ensures.null c.new-brought.ensures.cut c.new-brought.ensures.keys

pub loop-found-smaller : goal.loop-found-smaller
loop-found-smaller c =
    let rows : Rows = rows_shown c.args.reader c.args.tables.now.store c.args.table.now.id in
    let entry : Pair = (c.in-Some.entry.key, c.in-Some.entry.bookmark) in
    let next : found_pair c.walk_records-found-in-Some.result ≡ entry_after (On entry.0 entry.1) (own_order rows) =
    c.walk_records-found-in-Some.ensures ∙ ap (λ n. entry_after (On entry.0 entry.1) (own_order (rows_shown c.args.reader c.args.tables.now.store n))) c.id-id.ensures in
    subst (λ (found : Option IndexEntry). left_from (own_order rows) (found_pair c.walk_records-found-in-Some.result) < left_from (own_order rows) (found_pair found)) (sym c.in-Some.is)
    (fewer_left entry (found_pair c.walk_records-found-in-Some.result) (own_order rows) next)

pub loop-found-preserved : goal.loop-found-preserved
loop-found-preserved c =
    let rule : IndexRule = c.args.rule.now in
    let schema : Schema = schema_of c.args.table.now in
    let store : VersionedTables = c.args.tables.now.store in
    let id : ℕ = c.args.table.now.id in
    let rows : Rows = rows_shown c.args.reader store id in
    let entry : Pair = (c.in-Some.entry.key, c.in-Some.entry.bookmark) in
    let sorted : are_sorted (own_order rows) ≡ true = rows_in_order (table_with_id (seen_tables c.args.reader store) id) (λ index. c.seen_entries_are_in_order.ensures.sorted c.args.reader id index) in
    let gone : IsGoneOver rule schema rows (Some entry) c.loop-found.brought = subst (λ (found : Option IndexEntry). IsGoneOver rule schema rows (found_pair found) c.loop-found.brought) c.in-Some.is c.loop-found.invariant in
    let told : List ℕ → Result (List (List ℕ)) KeyRefusal = λ bookmark. entries_of rule schema (seen_record id bookmark c.args.reader (record_in store.tables id bookmark) store.held) in
    let derived : IsDerived (told entry.1) c.entries_under-made.result = subst (λ (bookmark : List ℕ). IsDerived (told bookmark) c.entries_under-made.result) c.as_bytes.ensures.value c.entries_under-made.ensures in
    let is : told entry.1 ≡ entries rule schema (standing rule schema rows entry c.loop-found.brought gone).row.1 =
    ap (entries_of rule schema) (stands_at_record c.a_reader_finds_the_records_that_it_is_shown.ensures c.args.reader store id gone.done entry sorted (standing rule schema rows entry c.loop-found.brought gone)) in
    let next : found_pair c.walk_records-found-in-Some.result ≡ entry_after (On entry.0 entry.1) (own_order rows) =
    c.walk_records-found-in-Some.ensures ∙ ap (λ n. entry_after (On entry.0 entry.1) (own_order (rows_shown c.args.reader store n))) c.id-id.ensures in
    all_goes_on rule schema rows entry (found_pair c.walk_records-found-in-Some.result) c.loop-found.brought c.add.new.self sorted gone (told entry.1) is (c.in_ok-add.ensures (told entry.1) derived) next

pub returns : goal.returns
returns c =
    all_ends c.args.rule.now (schema_of c.args.table.now) (rows_shown c.args.reader c.args.tables.now.store c.args.table.now.id) c.loop-found.brought
    (subst (λ (found : Option IndexEntry). IsGoneOver c.args.rule.now (schema_of c.args.table.now) (rows_shown c.args.reader c.args.tables.now.store c.args.table.now.id) (found_pair found) c.loop-found.brought) c.in_default.is c.loop-found.invariant)
