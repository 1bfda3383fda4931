use Rattle.std.proofs.Common.{Bool, not, ◌&&◌, Option, sym, ap, ◌∙◌}
use Rattle.column_set.specs.RecordValues.{RecordFields}
use Rattle.database_state.specs.Conflicts.{yields_key}
use Rattle.table_versions.specs.KeyConflicts.{replaced_seen}
use Rattle.std.specs.Prelude.{option_copied}
use Rattle.common_lemmas.proofs.Booleans.{and_false}
use Rattle.table_versions.proofs.PrimaryKeys.{and_true}
use Rattle.table_versions.proofs.store.TableVersions.is_conflict_of_new.Goals as goal

pub returns-then-key_conflict : goal.returns-then-key_conflict
returns-then-key_conflict c =
    let rule = c.args.rule.now in
    let new : Option RecordFields → Bool = λ seen. not (yields_key rule c.args.schema.now c.args.key.now seen) in
    c.lacks_key.ensures ∙ ap new c.replaced_row.ensures
    ∙ sym (ap (λ b. new (replaced_seen c.args.reader c.args.self.now.store c.args.table.0 (option_copied c.args.own)) && b) (sym c.key_conflict.ensures ∙ c.if-key_conflict.true)
    ∙ and_true (new (replaced_seen c.args.reader c.args.self.now.store c.args.table.0 (option_copied c.args.own))))

pub returns-else-key_conflict : goal.returns-else-key_conflict
returns-else-key_conflict c =
    let new : Bool = not (yields_key c.args.rule.now c.args.schema.now c.args.key.now (replaced_seen c.args.reader c.args.self.now.store c.args.table.0 (option_copied c.args.own))) in
    sym (ap (λ b. new && b) (sym c.key_conflict.ensures ∙ c.if-key_conflict.false) ∙ and_false new)
