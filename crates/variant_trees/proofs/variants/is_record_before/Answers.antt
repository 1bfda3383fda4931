use Rattle.std.proofs.Common.{[], sym, ◌∙◌}
use Rattle.std.specs.Prelude.{is_some, option_copied}
use Rattle.stored_variants.specs.RecordRows.{TableValues}
use Rattle.version_store.specs.HeldChanges.{is_standing_rewrite}
use Rattle.variant_trees.proofs.StandingChanges.{fewer_places, place_within, some_mapped, walk_at, walk_begins, walk_done, walk_ends, walk_finds, walk_goes_on}
use Rattle.variant_trees.proofs.variants.is_record_before.Goals as goal

-- long values that no table has: a place does not depend on them
none : TableValues
none = λ table. []

pub loop-at-init : goal.loop-at-init
loop-at-init c = λ longs. walk_begins longs is_some c.args.table.0 c.args.bookmark.now c.args.from c.args.versions.now c.newest_rewrite-at.result c.newest_rewrite-at.ensures.place

pub returns-then-place-from : goal.returns-then-place-from
returns-then-place-from c = λ longs.
    let walk = walk_at longs is_some c.args.table.0 c.args.bookmark.now c.args.from c.args.versions.now c.loop-at.at c.in-Some.place (c.loop-at.invariant longs) c.in-Some.is in
    sym (walk_ends longs is_some c.args.table.0 c.args.bookmark.now c.args.from c.args.versions.now c.in-Some.place walk c.if-place-from.true)

pub before_at-requires : goal.before_at-requires
before_at-requires c =
    let walk = walk_at none is_some c.args.table.0 c.args.bookmark.now c.args.from c.args.versions.now c.loop-at.at c.in-Some.place (c.loop-at.invariant none) c.in-Some.is in
    place_within (is_standing_rewrite c.args.table.0 c.args.bookmark.now) c.args.versions.now c.in-Some.place walk.stands

pub returns-then-is_record : goal.returns-then-is_record
returns-then-is_record c = λ longs.
    let walk = walk_at longs is_some c.args.table.0 c.args.bookmark.now c.args.from c.args.versions.now c.loop-at.at c.in-Some.place (c.loop-at.invariant longs) c.in-Some.is in
    sym (walk_finds longs is_some c.args.table.0 c.args.bookmark.now c.args.from c.args.versions.now c.in-Some.place (option_copied c.before_at.result) walk c.if-place-from.false c.before_at.ensures (some_mapped (longs c.args.table.0) (option_copied c.before_at.result) ∙ sym c.is_record.ensures ∙ c.if-is_record.true))

pub older_rewrite-at-requires : goal.older_rewrite-at-requires
older_rewrite-at-requires c =
    let walk = walk_at none is_some c.args.table.0 c.args.bookmark.now c.args.from c.args.versions.now c.loop-at.at c.in-Some.place (c.loop-at.invariant none) c.in-Some.is in
    place_within (is_standing_rewrite c.args.table.0 c.args.bookmark.now) c.args.versions.now c.in-Some.place walk.stands

pub loop-at-smaller : goal.loop-at-smaller
loop-at-smaller c = fewer_places c.in-Some.place c.loop-at.at c.older_rewrite-at.result c.in-Some.is c.older_rewrite-at.ensures.within

pub loop-at-preserved : goal.loop-at-preserved
loop-at-preserved c = λ longs.
    let walk = walk_at longs is_some c.args.table.0 c.args.bookmark.now c.args.from c.args.versions.now c.loop-at.at c.in-Some.place (c.loop-at.invariant longs) c.in-Some.is in
    walk_goes_on longs is_some c.args.table.0 c.args.bookmark.now c.args.from c.args.versions.now c.in-Some.place (option_copied c.before_at.result) c.older_rewrite-at.result walk c.if-place-from.false c.before_at.ensures (some_mapped (longs c.args.table.0) (option_copied c.before_at.result) ∙ sym c.is_record.ensures ∙ c.if-is_record.false) c.older_rewrite-at.ensures.place

pub returns : goal.returns
returns c = λ longs. sym (walk_done longs is_some c.args.table.0 c.args.bookmark.now c.args.from c.args.versions.now c.loop-at.at (c.loop-at.invariant longs) c.in_default.is)
