use Rattle.std.proofs.Common.{List, ℕ, sym, ◌∙◌}
use Rattle.std.specs.Prelude.{option_copied}
use Rattle.database_state.specs.Conflicts.{yields_key}
use Rattle.version_store.specs.HeldChanges.{is_standing_rewrite}
use Rattle.table_trees.specs.StoredTables.{table_long_values}
use Rattle.variant_trees.proofs.KeysLeft.{left_at, left_begins, left_empty, left_ends, left_goes_on, nothing_in}
use Rattle.variant_trees.proofs.StandingChanges.{fewer_places, place_within, row_before, walk_done, walk_ends}
use Rattle.variant_trees.proofs.derived.without_keys_before.Goals as goal

pub loop-at-init : goal.loop-at-init
loop-at-init c = left_begins (table_long_values c.args.trees.now.tables) (λ (key : List ℕ). yields_key c.args.rule.now c.args.schema.now key) c.args.table.0 c.args.bookmark.now c.args.from c.args.versions.now c.args.keys c.newest_rewrite-at.result c.newest_rewrite-at.ensures.place

pub returns-then-place-from : goal.returns-then-place-from
returns-then-place-from c =
    let so_far = left_at (table_long_values c.args.trees.now.tables) (λ (key : List ℕ). yields_key c.args.rule.now c.args.schema.now key) c.args.table.0 c.args.bookmark.now c.args.from c.args.versions.now c.args.keys c.loop-at.left c.loop-at.at c.in-Some.place c.loop-at.invariant c.in-Some.is in
    left_ends (table_long_values c.args.trees.now.tables) (λ (key : List ℕ). yields_key c.args.rule.now c.args.schema.now key) c.args.table.0 c.args.bookmark.now c.args.from c.args.versions.now c.args.keys c.loop-at.left _ so_far
    (λ key walk. walk_ends (table_long_values c.args.trees.now.tables) (yields_key c.args.rule.now c.args.schema.now key) c.args.table.0 c.args.bookmark.now c.args.from c.args.versions.now c.in-Some.place walk c.if-place-from.true)

pub returns-then-is_empty : goal.returns-then-is_empty
returns-then-is_empty c = left_empty (table_long_values c.args.trees.now.tables) (λ (key : List ℕ). yields_key c.args.rule.now c.args.schema.now key) c.args.table.0 c.args.bookmark.now c.args.from c.args.versions.now c.args.keys c.loop-at.left c.loop-at.at c.loop-at.invariant (sym c.as_slice.ensures ∙ nothing_in c.as_slice.result.now (sym c.is_empty.ensures ∙ c.if-is_empty.true))

pub before_at-requires : goal.before_at-requires
before_at-requires c =
    let so_far = left_at (table_long_values c.args.trees.now.tables) (λ (key : List ℕ). yields_key c.args.rule.now c.args.schema.now key) c.args.table.0 c.args.bookmark.now c.args.from c.args.versions.now c.args.keys c.loop-at.left c.loop-at.at c.in-Some.place c.loop-at.invariant c.in-Some.is in
    place_within (is_standing_rewrite c.args.table.0 c.args.bookmark.now) c.args.versions.now c.in-Some.place so_far.walk.stands

pub without_keys_of-requires-clause-row : goal.without_keys_of-requires-clause-row
without_keys_of-requires-clause-row c =
    let so_far = left_at (table_long_values c.args.trees.now.tables) (λ (key : List ℕ). yields_key c.args.rule.now c.args.schema.now key) c.args.table.0 c.args.bookmark.now c.args.from c.args.versions.now c.args.keys c.loop-at.left c.loop-at.at c.in-Some.place c.loop-at.invariant c.in-Some.is in
    row_before (table_long_values c.args.trees.now.tables) c.args.table.0 c.args.bookmark.now c.args.versions.now c.in-Some.place (option_copied c.before_at.result) c.requires.rows so_far.walk.stands c.before_at.ensures

pub older_rewrite-at-requires : goal.older_rewrite-at-requires
older_rewrite-at-requires c =
    let so_far = left_at (table_long_values c.args.trees.now.tables) (λ (key : List ℕ). yields_key c.args.rule.now c.args.schema.now key) c.args.table.0 c.args.bookmark.now c.args.from c.args.versions.now c.args.keys c.loop-at.left c.loop-at.at c.in-Some.place c.loop-at.invariant c.in-Some.is in
    place_within (is_standing_rewrite c.args.table.0 c.args.bookmark.now) c.args.versions.now c.in-Some.place so_far.walk.stands

pub loop-at-smaller : goal.loop-at-smaller
loop-at-smaller c = fewer_places c.in-Some.place c.loop-at.at c.older_rewrite-at.result c.in-Some.is c.older_rewrite-at.ensures.within

pub loop-at-preserved : goal.loop-at-preserved
loop-at-preserved c =
    let so_far = left_at (table_long_values c.args.trees.now.tables) (λ (key : List ℕ). yields_key c.args.rule.now c.args.schema.now key) c.args.table.0 c.args.bookmark.now c.args.from c.args.versions.now c.args.keys c.loop-at.left c.loop-at.at c.in-Some.place c.loop-at.invariant c.in-Some.is in
    left_goes_on (table_long_values c.args.trees.now.tables) (λ (key : List ℕ). yields_key c.args.rule.now c.args.schema.now key) c.args.table.0 c.args.bookmark.now c.args.from c.args.versions.now c.args.keys c.loop-at.left c.in-Ok.fewer c.in-Some.place (option_copied c.before_at.result) c.older_rewrite-at.result so_far c.if-place-from.false c.before_at.ensures c.in-Ok.ensures c.older_rewrite-at.ensures.place

pub returns : goal.returns
returns c =
    left_ends (table_long_values c.args.trees.now.tables) (λ (key : List ℕ). yields_key c.args.rule.now c.args.schema.now key) c.args.table.0 c.args.bookmark.now c.args.from c.args.versions.now c.args.keys c.loop-at.left c.loop-at.at c.loop-at.invariant
    (λ key walk. walk_done (table_long_values c.args.trees.now.tables) (yields_key c.args.rule.now c.args.schema.now key) c.args.table.0 c.args.bookmark.now c.args.from c.args.versions.now c.loop-at.at walk c.in_default.is)
