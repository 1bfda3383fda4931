use Rattle.std.proofs.Common.{sym, ap, ◌∙◌}
use Rattle.stored_variants.specs.StoredVersions.{StoredVersions}
use Rattle.soft_recovery.proofs.Placing.{put_placed, put_refused, put_unstorable, rules_legal}
use Rattle.soft_recovery.proofs.next_entries.puts.lawful_put.Goals as goal

pub null_refusal-requires : goal.null_refusal-requires
null_refusal-requires c = record {
  rules = rules_legal c.args.engine.now c.tables.result.now.store c.args.table.0 c.args.schema.now (ap (λ (tables : StoredVersions). tables.store) c.tables.ensures) c.rules_are_legal.ensures.found c.rules_are_legal.ensures.legal c.requires.named;
}

pub has_its_place-requires-clause-rules : goal.has_its_place-requires-clause-rules
has_its_place-requires-clause-rules c =
    rules_legal c.args.engine.now c.tables.result.now.store c.args.table.0 c.args.schema.now (ap (λ (tables : StoredVersions). tables.store) c.tables.ensures) c.rules_are_legal.ensures.found c.rules_are_legal.ensures.legal c.requires.named

pub has_its_place-requires-clause-taken : goal.has_its_place-requires-clause-taken
has_its_place-requires-clause-taken c = sym (rw c.in-Ok-None.field-0-is at c.in-Ok-None.ensures)

pub returns-then-not-is_storable : goal.returns-then-not-is_storable
returns-then-not-is_storable c =
    put_unstorable c.args.engine.now c.args.session.0 c.args.table.0 c.args.schema.now c.args.bookmark.now c.args.copied.now c.args.values.now (sym c.is_storable.ensures ∙ c.if-not-is_storable.true)

pub returns-in-Ok-None : goal.returns-in-Ok-None
returns-in-Ok-None c =
    put_placed c.args.engine.now c.args.session.0 c.args.table.0 c.args.schema.now c.args.bookmark.now c.args.copied.now c.args.values.now c.has_its_place.result (sym c.is_storable.ensures ∙ c.if-not-is_storable.false)
    (rw c.in-Ok-None.field-0-is at c.in-Ok-None.ensures) c.has_its_place.ensures

pub returns-in-Ok-Some : goal.returns-in-Ok-Some
returns-in-Ok-Some c =
    put_refused c.args.engine.now c.args.session.0 c.args.table.0 c.args.schema.now c.args.bookmark.now c.args.copied.now c.args.values.now c.in-Ok-Some.field-0-0 (sym c.is_storable.ensures ∙ c.if-not-is_storable.false)
    (rw c.in-Ok-Some.field-0-is at c.in-Ok-Some.ensures)
