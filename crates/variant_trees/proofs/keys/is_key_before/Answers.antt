use Rattle.std.proofs.Common.{sym, ◌∙◌}
use Rattle.std.specs.Prelude.{option_copied}
use Rattle.database_state.specs.Conflicts.{yields_key}
use Rattle.version_store.specs.HeldChanges.{is_standing_rewrite}
use Rattle.variant_trees.proofs.StandingChanges.{fewer_places, place_within, row_before, walk_at, walk_begins, walk_done, walk_ends, walk_finds, walk_goes_on}
use Rattle.table_trees.specs.StoredTables.{table_long_values}
use Rattle.variant_trees.proofs.keys.is_key_before.Goals as goal

pub loop-at-init : goal.loop-at-init
loop-at-init c = walk_begins (table_long_values c.args.trees.now.tables) (yields_key c.args.rule.now c.args.schema.now c.args.key.now) c.args.table.0 c.args.bookmark.now c.args.from c.args.versions.now c.newest_rewrite-at.result c.newest_rewrite-at.ensures.place

pub returns-then-place-from : goal.returns-then-place-from
returns-then-place-from c =
    let walk = walk_at (table_long_values c.args.trees.now.tables) (yields_key c.args.rule.now c.args.schema.now c.args.key.now) c.args.table.0 c.args.bookmark.now c.args.from c.args.versions.now c.loop-at.at c.in-Some.place c.loop-at.invariant c.in-Some.is in
    sym (walk_ends (table_long_values c.args.trees.now.tables) (yields_key c.args.rule.now c.args.schema.now c.args.key.now) c.args.table.0 c.args.bookmark.now c.args.from c.args.versions.now c.in-Some.place walk c.if-place-from.true)

pub before_at-requires : goal.before_at-requires
before_at-requires c =
    let walk = walk_at (table_long_values c.args.trees.now.tables) (yields_key c.args.rule.now c.args.schema.now c.args.key.now) c.args.table.0 c.args.bookmark.now c.args.from c.args.versions.now c.loop-at.at c.in-Some.place c.loop-at.invariant c.in-Some.is in
    place_within (is_standing_rewrite c.args.table.0 c.args.bookmark.now) c.args.versions.now c.in-Some.place walk.stands

pub has_key-requires-clause-row : goal.has_key-requires-clause-row
has_key-requires-clause-row c =
    let walk = walk_at (table_long_values c.args.trees.now.tables) (yields_key c.args.rule.now c.args.schema.now c.args.key.now) c.args.table.0 c.args.bookmark.now c.args.from c.args.versions.now c.loop-at.at c.in-Some.place c.loop-at.invariant c.in-Some.is in
    row_before (table_long_values c.args.trees.now.tables) c.args.table.0 c.args.bookmark.now c.args.versions.now c.in-Some.place (option_copied c.before_at.result) c.requires.rows walk.stands c.before_at.ensures

pub returns-then-has_key : goal.returns-then-has_key
returns-then-has_key c =
    let walk = walk_at (table_long_values c.args.trees.now.tables) (yields_key c.args.rule.now c.args.schema.now c.args.key.now) c.args.table.0 c.args.bookmark.now c.args.from c.args.versions.now c.loop-at.at c.in-Some.place c.loop-at.invariant c.in-Some.is in
    sym (walk_finds (table_long_values c.args.trees.now.tables) (yields_key c.args.rule.now c.args.schema.now c.args.key.now) c.args.table.0 c.args.bookmark.now c.args.from c.args.versions.now c.in-Some.place (option_copied c.before_at.result) walk c.if-place-from.false c.before_at.ensures (sym c.has_key.ensures ∙ c.if-has_key.true))

pub older_rewrite-at-requires : goal.older_rewrite-at-requires
older_rewrite-at-requires c =
    let walk = walk_at (table_long_values c.args.trees.now.tables) (yields_key c.args.rule.now c.args.schema.now c.args.key.now) c.args.table.0 c.args.bookmark.now c.args.from c.args.versions.now c.loop-at.at c.in-Some.place c.loop-at.invariant c.in-Some.is in
    place_within (is_standing_rewrite c.args.table.0 c.args.bookmark.now) c.args.versions.now c.in-Some.place walk.stands

pub loop-at-smaller : goal.loop-at-smaller
loop-at-smaller c = fewer_places c.in-Some.place c.loop-at.at c.older_rewrite-at.result c.in-Some.is c.older_rewrite-at.ensures.within

pub loop-at-preserved : goal.loop-at-preserved
loop-at-preserved c =
    let walk = walk_at (table_long_values c.args.trees.now.tables) (yields_key c.args.rule.now c.args.schema.now c.args.key.now) c.args.table.0 c.args.bookmark.now c.args.from c.args.versions.now c.loop-at.at c.in-Some.place c.loop-at.invariant c.in-Some.is in
    walk_goes_on (table_long_values c.args.trees.now.tables) (yields_key c.args.rule.now c.args.schema.now c.args.key.now) c.args.table.0 c.args.bookmark.now c.args.from c.args.versions.now c.in-Some.place (option_copied c.before_at.result) c.older_rewrite-at.result walk c.if-place-from.false c.before_at.ensures (sym c.has_key.ensures ∙ c.if-has_key.false) c.older_rewrite-at.ensures.place

pub returns : goal.returns
returns c = sym (walk_done (table_long_values c.args.trees.now.tables) (yields_key c.args.rule.now c.args.schema.now c.args.key.now) c.args.table.0 c.args.bookmark.now c.args.from c.args.versions.now c.loop-at.at c.loop-at.invariant c.in_default.is)
