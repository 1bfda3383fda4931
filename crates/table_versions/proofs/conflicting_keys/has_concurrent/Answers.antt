use Rattle.std.proofs.Common.{ℕ, ◌<◌, Option, Some, length, ap, subst, ◌∙◌}
use Rattle.std.specs.Prelude.{IfSome}
use Rattle.table_versions.proofs.RecordConflicts.{falls, older_within, walk_begins, walk_ends, walk_passes}
use Rattle.table_versions.proofs.conflicting_keys.has_concurrent.Goals as goal

pub loop-found-init : goal.loop-found-init
loop-found-init c = (
  c.newest_change-found.ensures.within,
  λ longs rule schema key newest. (newest, walk_begins longs (record { reader = c.args.reader; rule = rule; schema = schema; key = key; newest = newest; table = c.args.table.0; bookmark = c.args.bookmark.now }) c.args.versions.now c.newest_change-found.result c.newest_change-found.ensures.place c.newest_change-found.ensures.within),
)

pub is_concurrent_at-requires : goal.is_concurrent_at-requires
is_concurrent_at-requires c = subst (λ (o : Option ℕ). IfSome o (λ place. place < length c.args.versions.now)) c.in-Some.is c.loop-found.invariant.0

pub older_change-found-requires : goal.older_change-found-requires
older_change-found-requires c = subst (λ (o : Option ℕ). IfSome o (λ place. place < length c.args.versions.now)) c.in-Some.is c.loop-found.invariant.0

pub loop-found-smaller : goal.loop-found-smaller
loop-found-smaller c = falls c.loop-found.found c.older_change-found.result c.in-Some.place c.in-Some.is c.older_change-found.ensures.within

pub loop-found-preserved : goal.loop-found-preserved
loop-found-preserved c = (
  older_within c.older_change-found.result c.in-Some.place (length c.args.versions.now) c.older_change-found.ensures.within
      (subst (λ (o : Option ℕ). IfSome o (λ place. place < length c.args.versions.now)) c.in-Some.is c.loop-found.invariant.0),
  λ longs rule schema key newest.
      walk_passes longs (record { reader = c.args.reader; rule = rule; schema = schema; key = key; newest = newest; table = c.args.table.0; bookmark = c.args.bookmark.now }) c.args.versions.now c.loop-found.found c.in-Some.place c.in-Some.is (c.loop-found.invariant.1 longs rule schema key newest)
      (c.is_concurrent_at.ensures ∙ ap Some c.if-is_concurrent_at.false) c.older_change-found.result c.older_change-found.ensures.place c.older_change-found.ensures.within,
)

pub returns : goal.returns
returns c = λ none longs rule schema key newest.
    let (after, walk) = c.loop-found.invariant.1 longs rule schema key newest in
    walk_ends longs (record { reader = c.args.reader; rule = rule; schema = schema; key = key; newest = newest; table = c.args.table.0; bookmark = c.args.bookmark.now }) c.args.versions.now c.loop-found.found after walk c.in_default.is
