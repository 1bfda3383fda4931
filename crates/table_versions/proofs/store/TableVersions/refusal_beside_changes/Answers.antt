-- By the one key that the record has in the index.
use Rattle.std.proofs.Common.{[], ◌∷◌, refl, sym, ap, ◌∙◌}
use Rattle.std.specs.Prelude.{option_copied}
use Rattle.jet_base.specs.declared.replies.Jet.TheVariants as jet
use Rattle.column_set.specs.Refusals.{first_refusal}
use Rattle.table_versions.specs.KeyConflicts.{is_taken_for}
use Rattle.table_versions.proofs.OwnKeys.{refused_by_key}
use Rattle.table_versions.proofs.store.TableVersions.refusal_beside_changes.Goals as goal

pub is_conflict_of_new-requires-clause-legal : goal.is_conflict_of_new-requires-clause-legal
is_conflict_of_new-requires-clause-legal c = (c.rules_are_legal.ensures.legal c.args.table.0 c.args.schema.now c.requires.named c.args.rule.now c.requires.rule).0

pub is_conflict_of_new-requires-clause-short : goal.is_conflict_of_new-requires-clause-short
is_conflict_of_new-requires-clause-short c = (c.rules_are_legal.ensures.legal c.args.table.0 c.args.schema.now c.requires.named c.args.rule.now c.requires.rule).1

pub returns-then-is_conflict_of_new : goal.returns-then-is_conflict_of_new
returns-then-is_conflict_of_new c = λ values nothing is.
    sym (ap (λ b. first_refusal ((b, jet.WriteConflict) ∷ (is_taken_for c.args.reader c.args.self.now.store c.args.table.0 c.args.rule.now.id.0 (option_copied c.args.own) c.args.key.now, jet.KeyDuplicate) ∷ [])) c.if-is_conflict_of_new.true)
    ∙ refused_by_key c.a_primary_index_has_one_entry.ensures c.args.reader c.args.self.now.store c.args.table.0 c.args.schema.now c.args.rule.now (option_copied c.args.own) c.args.key.now (c.rules_are_legal.ensures.legal c.args.table.0 c.args.schema.now c.requires.named c.args.rule.now c.requires.rule).0 c.requires.primary c.is_conflict_of_new.result _ c.is_conflict_of_new.ensures refl values nothing is

pub returns-then-has_other : goal.returns-then-has_other
returns-then-has_other c = λ values nothing is.
    sym (λ i. first_refusal ((c.if-is_conflict_of_new.false i, jet.WriteConflict) ∷ (c.if-has_other.true i, jet.KeyDuplicate) ∷ []))
    ∙ refused_by_key c.a_primary_index_has_one_entry.ensures c.args.reader c.args.self.now.store c.args.table.0 c.args.schema.now c.args.rule.now (option_copied c.args.own) c.args.key.now (c.rules_are_legal.ensures.legal c.args.table.0 c.args.schema.now c.requires.named c.args.rule.now c.requires.rule).0 c.requires.primary c.is_conflict_of_new.result c.has_other.result c.is_conflict_of_new.ensures c.has_other.ensures values nothing is

pub returns-else-has_other : goal.returns-else-has_other
returns-else-has_other c = λ values nothing is.
    sym (λ i. first_refusal ((c.if-is_conflict_of_new.false i, jet.WriteConflict) ∷ (c.if-has_other.false i, jet.KeyDuplicate) ∷ []))
    ∙ refused_by_key c.a_primary_index_has_one_entry.ensures c.args.reader c.args.self.now.store c.args.table.0 c.args.schema.now c.args.rule.now (option_copied c.args.own) c.args.key.now (c.rules_are_legal.ensures.legal c.args.table.0 c.args.schema.now c.requires.named c.args.rule.now c.requires.rule).0 c.requires.primary c.is_conflict_of_new.result c.has_other.result c.is_conflict_of_new.ensures c.has_other.ensures values nothing is
