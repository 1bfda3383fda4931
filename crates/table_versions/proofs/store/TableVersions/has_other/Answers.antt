use Rattle.std.proofs.Common.{◌≡◌, ℕ, true, false, not, ◌&&◌, List, sym, ap, ◌∙◌}
use Rattle.std.specs.Prelude.{is_some, option_copied}
use Rattle.database_state.specs.Puts.{is_replaced}
use Rattle.database_state.specs.Table.{record_in}
use Rattle.laws_engine.specs.HeldRecords.{seen_record}
use Rattle.laws_engine.specs.VersionedTables.{VersionedTables}
use Rattle.table_versions.proofs.PrimaryKeys.{taken_in_primary}
use Rattle.table_versions.proofs.store.TableVersions.has_other.Goals as goal

pub returns-in-Some : goal.returns-in-Some
returns-in-Some c =
    let store : VersionedTables = c.args.self.now.store in
    let table : ℕ = c.args.table.0 in
    let seen : is_some (seen_record table c.args.key.now c.args.reader (record_in store.tables table c.args.key.now) store.held) ≡ true =
    ap (λ (bytes : List ℕ). is_some (seen_record table bytes c.args.reader (record_in store.tables table bytes) store.held)) (sym c.as_bytes-bookmark.ensures.value)
    ∙ ap is_some (sym c.look_up.ensures) ∙ ap is_some c.in-Some.is in
    ap not (c.is_replaced.ensures ∙ ap (is_replaced (option_copied c.args.own)) c.as_bytes-bookmark.ensures.value)
    ∙ sym (taken_in_primary c.a_reader_finds_the_records_that_it_is_shown.ensures c.args.reader store table c.args.schema.now c.requires.named c.args.rule.now c.requires.rule c.requires.primary (option_copied c.args.own) c.args.key.now
    ∙ ap (λ b. b && not (is_replaced (option_copied c.args.own) c.args.key.now)) seen)

pub returns-in-None : goal.returns-in-None
returns-in-None c =
    let store : VersionedTables = c.args.self.now.store in
    let table : ℕ = c.args.table.0 in
    let seen : is_some (seen_record table c.args.key.now c.args.reader (record_in store.tables table c.args.key.now) store.held) ≡ false =
    ap (λ (bytes : List ℕ). is_some (seen_record table bytes c.args.reader (record_in store.tables table bytes) store.held)) (sym c.as_bytes-bookmark.ensures.value)
    ∙ ap is_some (sym c.look_up.ensures) ∙ ap is_some c.in-None.is in
    sym (taken_in_primary c.a_reader_finds_the_records_that_it_is_shown.ensures c.args.reader store table c.args.schema.now c.requires.named c.args.rule.now c.requires.rule c.requires.primary (option_copied c.args.own) c.args.key.now
    ∙ ap (λ b. b && not (is_replaced (option_copied c.args.own) c.args.key.now)) seen)
