-- By the one key that the record has in the index.
use Rattle.std.proofs.Common.{◌≡◌, ℕ, false, List, [], ◌∷◌, sym, ap, ◌∙◌}
use Rattle.std.specs.Prelude.{option_copied}
use Rattle.std.specs.List.{list_any}
use Rattle.jet_base.specs.declared.replies.Jet.TheVariants as jet
use Rattle.column_set.specs.Refusals.{first_refusal}
use Rattle.laws_engine.specs.HeldRecords.{is_change_at}
use Rattle.table_versions.proofs.OwnKeys.{refused_untouched}
use Rattle.table_versions.proofs.store.TableVersions.primary_refusal.Goals as goal

pub has_newest_other-requires-clause-untouched : goal.has_newest_other-requires-clause-untouched
has_newest_other-requires-clause-untouched c =
    ap (λ (bytes : List ℕ). list_any (is_change_at c.args.table.0 bytes) c.args.self.now.store.held) (sym c.as_bytes.ensures.value) ∙ sym c.has_changes.ensures ∙ c.if-has_changes.false

pub returns-then-has_newest_other : goal.returns-then-has_newest_other
returns-then-has_newest_other c = λ values nothing is.
    let untouched : list_any (is_change_at c.args.table.0 c.args.key.now) c.args.self.now.store.held ≡ false =
    ap (λ (bytes : List ℕ). list_any (is_change_at c.args.table.0 bytes) c.args.self.now.store.held) (sym c.as_bytes.ensures.value) ∙ sym c.has_changes.ensures ∙ c.if-has_changes.false in
    sym (λ i. first_refusal ((false, jet.WriteConflict) ∷ (c.if-has_newest_other.true i, jet.KeyDuplicate) ∷ []))
    ∙ refused_untouched c.a_primary_index_has_one_entry.ensures c.args.reader c.args.self.now.store c.args.table.0 c.args.schema.now c.args.rule.now (option_copied c.args.own) c.args.key.now (c.rules_are_legal.ensures.legal c.args.table.0 c.args.schema.now c.requires.named c.args.rule.now c.requires.rule).0 c.requires.primary untouched
    (c.keys_of_a_primary_index_conflict_by_their_record.ensures c.args.reader c.args.table.0 c.args.schema.now c.args.rule.now c.args.key.now c.requires.named c.requires.rule c.requires.primary) c.has_newest_other.result (c.has_newest_other.ensures c.args.reader) values nothing is

pub returns-else-has_newest_other : goal.returns-else-has_newest_other
returns-else-has_newest_other c = λ values nothing is.
    let untouched : list_any (is_change_at c.args.table.0 c.args.key.now) c.args.self.now.store.held ≡ false =
    ap (λ (bytes : List ℕ). list_any (is_change_at c.args.table.0 bytes) c.args.self.now.store.held) (sym c.as_bytes.ensures.value) ∙ sym c.has_changes.ensures ∙ c.if-has_changes.false in
    sym (λ i. first_refusal ((false, jet.WriteConflict) ∷ (c.if-has_newest_other.false i, jet.KeyDuplicate) ∷ []))
    ∙ refused_untouched c.a_primary_index_has_one_entry.ensures c.args.reader c.args.self.now.store c.args.table.0 c.args.schema.now c.args.rule.now (option_copied c.args.own) c.args.key.now (c.rules_are_legal.ensures.legal c.args.table.0 c.args.schema.now c.requires.named c.args.rule.now c.requires.rule).0 c.requires.primary untouched
    (c.keys_of_a_primary_index_conflict_by_their_record.ensures c.args.reader c.args.table.0 c.args.schema.now c.args.rule.now c.args.key.now c.requires.named c.requires.rule c.requires.primary) c.has_newest_other.result (c.has_newest_other.ensures c.args.reader) values nothing is
