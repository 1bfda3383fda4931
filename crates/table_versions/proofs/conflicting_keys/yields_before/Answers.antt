use Rattle.std.proofs.Common.{Bool, cond, List, ℕ, Option, option_map, sym, ap, subst, ◌∙◌}
use Rattle.std.specs.Prelude.{IfSome, option_copied}
use Rattle.database_state.specs.Conflicts.{yields_key}
use Rattle.table_trees.specs.StoredTables.{table_long_values}
use Rattle.version_store.specs.HeldChanges.{HeldChange, is_standing}
use Rattle.stored_variants.specs.RecordRows.{IsRecordRow, record_of}
use Rattle.table_versions.proofs.RecordConflicts.{at_place, mapped}
use Rattle.table_versions.proofs.conflicting_keys.yields_before.Goals as goal

pub in_place-before-requires : goal.in_place-before-requires
in_place-before-requires c =
    at_place c.args.versions.now c.args.place c.requires.within
    (λ h at.
    subst (λ (n : ℕ). IfSome (option_copied c.before_at.result) (IsRecordRow (table_long_values c.args.trees.now.tables n))) (c.requires.of h at)
    (subst (λ (o : Option (List ℕ)). IfSome o (IsRecordRow (table_long_values c.args.trees.now.tables h.table))) (mapped (λ (h : HeldChange). h.before) c.args.versions.now c.args.place h (option_copied c.before_at.result) at c.before_at.ensures)
    (c.requires.rows c.args.place h at (mapped is_standing c.args.versions.now c.args.place h c.is_standing_at.result at c.is_standing_at.ensures ∙ c.if-is_standing_at.true))))

pub returns-then-is_standing_at : goal.returns-then-is_standing_at
returns-then-is_standing_at c h at =
    c.has_key.ensures
    ∙ ap (yields_key c.args.rule.now c.args.schema.now c.args.key.now)
    (c.in_place-before.ensures
    ∙ (λ i. option_map (record_of (table_long_values c.args.trees.now.tables (sym (c.requires.of h at) i))) (sym (mapped (λ (h : HeldChange). h.before) c.args.versions.now c.args.place h (option_copied c.before_at.result) at c.before_at.ensures) i)))
    ∙ sym (ap (λ (b : Bool). cond b (yields_key c.args.rule.now c.args.schema.now c.args.key.now (option_map (record_of (table_long_values c.args.trees.now.tables h.table)) h.before)) c.args.after)
    (mapped is_standing c.args.versions.now c.args.place h c.is_standing_at.result at c.is_standing_at.ensures ∙ c.if-is_standing_at.true))

pub returns-else-is_standing_at : goal.returns-else-is_standing_at
returns-else-is_standing_at c h at =
    sym (ap (λ (b : Bool). cond b (yields_key c.args.rule.now c.args.schema.now c.args.key.now (option_map (record_of (table_long_values c.args.trees.now.tables h.table)) h.before)) c.args.after)
    (mapped is_standing c.args.versions.now c.args.place h c.is_standing_at.result at c.is_standing_at.ensures ∙ c.if-is_standing_at.false))
