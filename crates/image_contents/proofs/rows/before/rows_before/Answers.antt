use Rattle.std.proofs.Common.{refl, sym, subst, ◌∙◌}
use Rattle.version_store.specs.Answers.{told_change}
use Rattle.image_contents.proofs.ChangesBack.{WalksBack, before_is, fewer_places, had_row, outgrew, place_within, room_is, walk_begins, walk_done, walk_goes_on}
use Rattle.image_contents.proofs.rows.before.rows_before.Goals as goal

pub loop-at-init : goal.loop-at-init
loop-at-init c =
    (walk_begins had_row c.args.table.0 c.args.bookmark.now c.args.versions.now c.newest_rewrite-at.result c.newest_rewrite-at.ensures.place, walk_begins (outgrew c.args.extent) c.args.table.0 c.args.bookmark.now c.args.versions.now c.newest_rewrite-at.result c.newest_rewrite-at.ensures.place)

pub change_at-requires : goal.change_at-requires
change_at-requires c = place_within had_row c.args.table.0 c.args.bookmark.now c.args.versions.now c.loop-at.told.has_row c.loop-at.at c.in-Some.place c.loop-at.invariant.0 c.in-Some.is

pub older_rewrite-at-requires : goal.older_rewrite-at-requires
older_rewrite-at-requires c = place_within had_row c.args.table.0 c.args.bookmark.now c.args.versions.now c.loop-at.told.has_row c.loop-at.at c.in-Some.place c.loop-at.invariant.0 c.in-Some.is

pub loop-at-smaller : goal.loop-at-smaller
loop-at-smaller c = fewer_places c.in-Some.place c.loop-at.at c.older_rewrite-at.result c.in-Some.is c.older_rewrite-at.ensures.within

pub loop-at-preserved : goal.loop-at-preserved
loop-at-preserved c =
    let change = told_change c.change_at.result in (
      subst (λ found. WalksBack had_row c.args.table.0 c.args.bookmark.now c.args.versions.now found c.older_rewrite-at.result) (sym c.with-told.ensures.row)
          (walk_goes_on had_row c.args.table.0 c.args.bookmark.now c.args.versions.now c.loop-at.told.has_row (had_row change) c.loop-at.at c.older_rewrite-at.result c.in-Some.place change c.in-Some.is c.change_at.ensures refl c.older_rewrite-at.ensures.place c.older_rewrite-at.ensures.within c.loop-at.invariant.0),
      subst (λ found. WalksBack (outgrew c.args.extent) c.args.table.0 c.args.bookmark.now c.args.versions.now found c.older_rewrite-at.result) (sym c.with-told.ensures.room)
          (walk_goes_on (outgrew c.args.extent) c.args.table.0 c.args.bookmark.now c.args.versions.now c.loop-at.told.lacks_room (outgrew c.args.extent change) c.loop-at.at c.older_rewrite-at.result c.in-Some.place change c.in-Some.is c.change_at.ensures refl c.older_rewrite-at.ensures.place c.older_rewrite-at.ensures.within c.loop-at.invariant.1),
    )

pub returns : goal.returns
returns c = record {
  row = walk_done had_row c.args.table.0 c.args.bookmark.now c.args.versions.now c.loop-at.told.has_row c.loop-at.at c.loop-at.invariant.0 c.in_default.is ∙ before_is c.args.table.0 c.args.bookmark.now c.args.versions.now;
  room = walk_done (outgrew c.args.extent) c.args.table.0 c.args.bookmark.now c.args.versions.now c.loop-at.told.lacks_room c.loop-at.at c.loop-at.invariant.1 c.in_default.is ∙ room_is c.args.extent c.args.table.0 c.args.bookmark.now c.args.versions.now;
}
