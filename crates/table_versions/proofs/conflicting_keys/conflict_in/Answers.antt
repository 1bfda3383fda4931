use Rattle.std.proofs.Common.{ℕ, Option, Some, sym, subst, ◌∙◌}
use Rattle.table_versions.proofs.RecordConflicts.{own_table, Asked, Walks, falls, walk_begins, walk_ends, walk_finds, walk_goes_on}
use Rattle.table_versions.proofs.conflicting_keys.conflict_in.Goals as goal
use Rattle.table_trees.specs.StoredTables.{table_long_values}

pub loop-found-init : goal.loop-found-init
loop-found-init c =
    let a : Asked = record { reader = c.args.reader; rule = c.args.rule.now; schema = c.args.schema.now; key = c.args.key.now; newest = c.args.newest; table = c.args.table.0; bookmark = c.args.bookmark.now } in
    walk_begins (table_long_values c.args.trees.now.tables) a c.args.versions.now c.newest_change-found.result c.newest_change-found.ensures.place c.newest_change-found.ensures.within

pub yields_before-before-requires-clause-within : goal.yields_before-before-requires-clause-within
yields_before-before-requires-clause-within c =
    let a : Asked = record { reader = c.args.reader; rule = c.args.rule.now; schema = c.args.schema.now; key = c.args.key.now; newest = c.args.newest; table = c.args.table.0; bookmark = c.args.bookmark.now } in
    (subst (λ (o : Option ℕ). Walks (table_long_values c.args.trees.now.tables) a c.args.versions.now o c.loop-found.after) c.in-Some.is c.loop-found.invariant).within

pub is_concurrent_at-concurrent-requires : goal.is_concurrent_at-concurrent-requires
is_concurrent_at-concurrent-requires c =
    let a : Asked = record { reader = c.args.reader; rule = c.args.rule.now; schema = c.args.schema.now; key = c.args.key.now; newest = c.args.newest; table = c.args.table.0; bookmark = c.args.bookmark.now } in
    (subst (λ (o : Option ℕ). Walks (table_long_values c.args.trees.now.tables) a c.args.versions.now o c.loop-found.after) c.in-Some.is c.loop-found.invariant).within

pub returns-then-is_met : goal.returns-then-is_met
returns-then-is_met c =
    let a : Asked = record { reader = c.args.reader; rule = c.args.rule.now; schema = c.args.schema.now; key = c.args.key.now; newest = c.args.newest; table = c.args.table.0; bookmark = c.args.bookmark.now } in
    let walk : Walks (table_long_values c.args.trees.now.tables) a c.args.versions.now (Some c.in-Some.place) c.loop-found.after = subst (λ (o : Option ℕ). Walks (table_long_values c.args.trees.now.tables) a c.args.versions.now o c.loop-found.after) c.in-Some.is c.loop-found.invariant in
    sym (walk_finds (table_long_values c.args.trees.now.tables) a c.args.versions.now c.in-Some.place c.yields_before-before.result c.loop-found.after c.is_concurrent_at-concurrent.result walk c.yields_before-before.ensures c.is_concurrent_at-concurrent.ensures (sym c.is_met.ensures ∙ c.if-is_met.true))

pub older_change-found-requires : goal.older_change-found-requires
older_change-found-requires c =
    let a : Asked = record { reader = c.args.reader; rule = c.args.rule.now; schema = c.args.schema.now; key = c.args.key.now; newest = c.args.newest; table = c.args.table.0; bookmark = c.args.bookmark.now } in
    (subst (λ (o : Option ℕ). Walks (table_long_values c.args.trees.now.tables) a c.args.versions.now o c.loop-found.after) c.in-Some.is c.loop-found.invariant).within

pub loop-found-smaller : goal.loop-found-smaller
loop-found-smaller c = falls c.loop-found.found c.older_change-found.result c.in-Some.place c.in-Some.is c.older_change-found.ensures.within

pub loop-found-preserved : goal.loop-found-preserved
loop-found-preserved c =
    let a : Asked = record { reader = c.args.reader; rule = c.args.rule.now; schema = c.args.schema.now; key = c.args.key.now; newest = c.args.newest; table = c.args.table.0; bookmark = c.args.bookmark.now } in
    let walk : Walks (table_long_values c.args.trees.now.tables) a c.args.versions.now (Some c.in-Some.place) c.loop-found.after = subst (λ (o : Option ℕ). Walks (table_long_values c.args.trees.now.tables) a c.args.versions.now o c.loop-found.after) c.in-Some.is c.loop-found.invariant in
    walk_goes_on (table_long_values c.args.trees.now.tables) a c.args.versions.now c.in-Some.place c.yields_before-before.result c.loop-found.after c.is_concurrent_at-concurrent.result walk c.yields_before-before.ensures c.is_concurrent_at-concurrent.ensures (sym c.is_met.ensures ∙ c.if-is_met.false)
    c.older_change-found.result c.older_change-found.ensures.place c.older_change-found.ensures.within

pub returns : goal.returns
returns c =
    let a : Asked = record { reader = c.args.reader; rule = c.args.rule.now; schema = c.args.schema.now; key = c.args.key.now; newest = c.args.newest; table = c.args.table.0; bookmark = c.args.bookmark.now } in
    sym (walk_ends (table_long_values c.args.trees.now.tables) a c.args.versions.now c.loop-found.found c.loop-found.after c.loop-found.invariant c.in_default.is)

pub yields_before-before-requires-clause-of : goal.yields_before-before-requires-clause-of
yields_before-before-requires-clause-of c h at =
    let a : Asked = record { reader = c.args.reader; rule = c.args.rule.now; schema = c.args.schema.now; key = c.args.key.now; newest = c.args.newest; table = c.args.table.0; bookmark = c.args.bookmark.now } in
    own_table a h (c.loop-found.invariant.own c.in-Some.place h c.in-Some.is at)
