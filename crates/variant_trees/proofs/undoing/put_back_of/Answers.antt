use Rattle.std.proofs.Common.{◌≡◌, Option, Some, sym, ap, subst, ◌∙◌}
use Rattle.std.specs.Prelude.{IfSome, IsSomeAnd, option_copied}
use Rattle.database_state.specs.State.{undone}
use Rattle.database_state.specs.Table.{Table, schema_of, table_with_id}
use Rattle.version_store.specs.HeldChanges.{with_status}
use Rattle.variant_trees.proofs.Forgotten.{distinct_ids}
use Rattle.variant_trees.proofs.OpenUndone.{always_found, can_put_back, place_now, rows_now}
use Rattle.variant_trees.proofs.undoing.put_back_of.Goals as goal

pub put_back_in-requires-clause-can : goal.put_back_in-requires-clause-can
put_back_in-requires-clause-can c =
    let found : Some c.in-Some.named.now ≡ table_with_id c.args.catalog.now.tables c.args.table.0 = sym (ap option_copied c.in-Some.is) ∙ c.by_id.ensures in
    let same : IsSomeAnd (table_with_id c.args.catalog.now.tables c.args.table.0) (λ t. c.schema.result.now ≡ schema_of t) = subst (λ (o : Option Table). IsSomeAnd o (λ t. c.schema.result.now ≡ schema_of t)) found c.schema.ensures in
    let held = c.requires.was.0 in
    let h = c.requires.was.1.0 in
    let was = c.requires.was.1.1 in
    (with_status undone h, can_put_back c.args.catalog.now.tables c.args.trees.now.tables c.args.versions.now c.args.place c.args.table.0 held h was (c.requires.rewrites (with_status undone h) (place_now c.args.catalog.now.tables c.args.trees.now.tables c.args.versions.now c.args.place c.args.table.0 held h was)) c.schema.result.now same)

pub put_back_in-requires-clause-rows : goal.put_back_in-requires-clause-rows
put_back_in-requires-clause-rows c = rows_now c.args.catalog.now.tables c.args.trees.now.tables c.args.versions.now c.args.place c.args.table.0 c.requires.was.0 c.requires.was.1.0 c.requires.was.1.1

pub put_back_in-requires-clause-was : goal.put_back_in-requires-clause-was
put_back_in-requires-clause-was c =
    let found : Some c.in-Some.named.now ≡ table_with_id c.args.catalog.now.tables c.args.table.0 = sym (ap option_copied c.in-Some.is) ∙ c.by_id.ensures in
    let same : IfSome (table_with_id c.args.catalog.now.tables c.args.table.0) (λ t. c.schema.result.now ≡ schema_of t) = subst (λ (o : Option Table). IfSome o (λ t. c.schema.result.now ≡ schema_of t)) found c.schema.ensures in
    let held = c.requires.was.0 in
    let h = c.requires.was.1.0 in
    let was = c.requires.was.1.1 in (
      c.args.catalog.now.tables,
      (
        held,
        (
          h,
          record { ids = distinct_ids c.args.catalog.now c.tables.ensures.numbered; same = same },
          was,
          c.requires.rewrites (with_status undone h) (place_now c.args.catalog.now.tables c.args.trees.now.tables c.args.versions.now c.args.place c.args.table.0 held h was),
        ),
      ),
    )

pub returns-in-Some-clause-back : goal.returns-in-Some-clause-back
returns-in-Some-clause-back c = λ held h was.
    let found : Some c.in-Some.named.now ≡ table_with_id c.args.catalog.now.tables c.args.table.0 = sym (ap option_copied c.in-Some.is) ∙ c.by_id.ensures in
    let same : IfSome (table_with_id c.args.catalog.now.tables c.args.table.0) (λ t. c.schema.result.now ≡ schema_of t) = subst (λ (o : Option Table). IfSome o (λ t. c.schema.result.now ≡ schema_of t)) found c.schema.ensures in
    c.put_back_in.ensures.back c.args.catalog.now.tables held h (record { ids = distinct_ids c.args.catalog.now c.tables.ensures.numbered; same = same }) was
    (c.requires.rewrites (with_status undone h) (place_now c.args.catalog.now.tables c.args.trees.now.tables c.args.versions.now c.args.place c.args.table.0 held h was))

pub returns-in-None-clause-back : goal.returns-in-None-clause-back
returns-in-None-clause-back c = λ held h was. always_found c.args.catalog.now.tables c.args.trees.now.tables c.args.versions.now c.args.place c.args.table.0 held h was (sym (ap option_copied c.in-None.is) ∙ c.by_id.ensures)
