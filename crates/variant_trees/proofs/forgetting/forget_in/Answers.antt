use Rattle.std.proofs.Common.{ℕ, Bool, List, Option, Some, drop, sym, ap, subst, ◌∙◌}
use Rattle.std.specs.Prelude.{IsSome, option_copied}
use Rattle.column_set.specs.RowReading.{row_in}
use Rattle.long_rows.specs.RowReferences.{identifiers}
use Rattle.long_rows.proofs.Taken.{ValueLaws}
use Rattle.long_value.specs.Values.{Values, value_of}
use Rattle.stored_variants.proofs.Dropped.{has_trees}
use Rattle.stored_variants.proofs.Tables.{newest_is_row}
use Rattle.table_trees.specs.StoredTables.{table_long_values}
use Rattle.variant_trees.proofs.UndoneThere.{spelled_row}
use Rattle.variant_trees.proofs.Forgotten.{IsOldest, IsTaken, are_rows, first_empty, first_fallen, first_within, nothing_forgotten, oldest_counted, oldest_is, oldest_leaves, oldest_named, oldest_taken, oldest_there}
use Rattle.variant_trees.proofs.Released.{Releases, no_value_came, still_held, still_kept, still_shown}
use Rattle.variant_trees.proofs.forgetting.forget_in.Goals as goal

pub is_standing_at-requires : goal.is_standing_at-requires
is_standing_at-requires c = first_within c.args.versions.now c.args.table.0 c.requires.first

pub before_at-requires : goal.before_at-requires
before_at-requires c = first_within c.args.versions.now c.args.table.0 c.requires.first

pub bookmark_at-bookmark-requires : goal.bookmark_at-bookmark-requires
bookmark_at-bookmark-requires c = first_within c.args.versions.now c.args.table.0 c.requires.first

pub take_variant-requires-clause-rules : goal.take_variant-requires-clause-rules
take_variant-requires-clause-rules c =
    let oldest : IsOldest c.args.versions.now c.args.table.0 c.bookmark_at-bookmark.result.now c.in-Some.row.now = oldest_is c.args.versions.now c.args.table.0 c.bookmark_at-bookmark.result.now c.in-Some.row.now c.requires.first (c.is_standing_at.ensures ∙ ap (λ (b : Bool). Some b) c.if-is_standing_at.true)
    (c.before_at.ensures ∙ ap (λ (o : Option (List ℕ)). Some o) (ap option_copied c.in-Some.is)) c.bookmark_at-bookmark.ensures in
    let taken : IsTaken (table_long_values c.args.trees.now.tables c.args.table.0) c.args.schema.now c.bookmark_at-bookmark.result.now c.in-Some.row.now = oldest_taken (table_long_values c.args.trees.now.tables) c.requires.was.0 c.args.trees.now.tables c.args.versions.now c.args.table.0 c.bookmark_at-bookmark.result.now c.in-Some.row.now oldest c.requires.was.2 c.args.schema.now c.requires.was.1.same in
    taken.1

pub take_variant-requires-clause-gone : goal.take_variant-requires-clause-gone
take_variant-requires-clause-gone c =
    let oldest : IsOldest c.args.versions.now c.args.table.0 c.bookmark_at-bookmark.result.now c.in-Some.row.now = oldest_is c.args.versions.now c.args.table.0 c.bookmark_at-bookmark.result.now c.in-Some.row.now c.requires.first (c.is_standing_at.ensures ∙ ap (λ (b : Bool). Some b) c.if-is_standing_at.true)
    (c.before_at.ensures ∙ ap (λ (o : Option (List ℕ)). Some o) (ap option_copied c.in-Some.is)) c.bookmark_at-bookmark.ensures in
    let taken : IsTaken (table_long_values c.args.trees.now.tables c.args.table.0) c.args.schema.now c.bookmark_at-bookmark.result.now c.in-Some.row.now = oldest_taken (table_long_values c.args.trees.now.tables) c.requires.was.0 c.args.trees.now.tables c.args.versions.now c.args.table.0 c.bookmark_at-bookmark.result.now c.in-Some.row.now oldest c.requires.was.2 c.args.schema.now c.requires.was.1.same in
    (spelled_row (table_long_values c.args.trees.now.tables c.args.table.0) c.in-Some.row.now taken.0, taken.0.whole)

pub take_variant-requires-clause-newest : goal.take_variant-requires-clause-newest
take_variant-requires-clause-newest c = newest_is_row (table_long_values c.args.trees.now.tables) c.requires.was.0 c.args.trees.now.tables c.args.versions.now c.requires.was.2 c.args.table.0 c.bookmark_at-bookmark.result.now

pub take_variant-requires-clause-rows : goal.take_variant-requires-clause-rows
take_variant-requires-clause-rows c = are_rows (table_long_values c.args.trees.now.tables) c.requires.was.0 c.args.trees.now.tables c.args.versions.now c.requires.was.2

pub take_variant-requires-clause-bookmark : goal.take_variant-requires-clause-bookmark
take_variant-requires-clause-bookmark c =
    let oldest : IsOldest c.args.versions.now c.args.table.0 c.bookmark_at-bookmark.result.now c.in-Some.row.now = oldest_is c.args.versions.now c.args.table.0 c.bookmark_at-bookmark.result.now c.in-Some.row.now c.requires.first (c.is_standing_at.ensures ∙ ap (λ (b : Bool). Some b) c.if-is_standing_at.true)
    (c.before_at.ensures ∙ ap (λ (o : Option (List ℕ)). Some o) (ap option_copied c.in-Some.is)) c.bookmark_at-bookmark.ensures in
    let taken : IsTaken (table_long_values c.args.trees.now.tables c.args.table.0) c.args.schema.now c.bookmark_at-bookmark.result.now c.in-Some.row.now = oldest_taken (table_long_values c.args.trees.now.tables) c.requires.was.0 c.args.trees.now.tables c.args.versions.now c.args.table.0 c.bookmark_at-bookmark.result.now c.in-Some.row.now oldest c.requires.was.2 c.args.schema.now c.requires.was.1.same in
    taken.2

pub release_row-requires-clause-table : goal.release_row-requires-clause-table
release_row-requires-clause-table c =
    let oldest : IsOldest c.args.versions.now c.args.table.0 c.bookmark_at-bookmark.result.now c.in-Some.row.now = oldest_is c.args.versions.now c.args.table.0 c.bookmark_at-bookmark.result.now c.in-Some.row.now c.requires.first (c.is_standing_at.ensures ∙ ap (λ (b : Bool). Some b) c.if-is_standing_at.true)
    (c.before_at.ensures ∙ ap (λ (o : Option (List ℕ)). Some o) (ap option_copied c.in-Some.is)) c.bookmark_at-bookmark.ensures in
    has_trees c.take_variant.new.trees.tables c.requires.was.0 c.args.table.0 (c.take_variant.ensures.kept c.requires.was.0 c.requires.was.1.ids c.requires.was.1.same (oldest_leaves (table_long_values c.args.trees.now.tables) c.requires.was.0 c.args.trees.now.tables c.args.versions.now c.args.table.0 c.bookmark_at-bookmark.result.now c.in-Some.row.now oldest c.requires.was.2)).numbers
    ∙ oldest_named (table_long_values c.args.trees.now.tables) c.requires.was.0 c.args.trees.now.tables c.args.versions.now c.args.table.0 c.bookmark_at-bookmark.result.now c.in-Some.row.now oldest c.requires.was.2

pub release_row-requires-clause-row : goal.release_row-requires-clause-row
release_row-requires-clause-row c =
    let oldest : IsOldest c.args.versions.now c.args.table.0 c.bookmark_at-bookmark.result.now c.in-Some.row.now = oldest_is c.args.versions.now c.args.table.0 c.bookmark_at-bookmark.result.now c.in-Some.row.now c.requires.first (c.is_standing_at.ensures ∙ ap (λ (b : Bool). Some b) c.if-is_standing_at.true)
    (c.before_at.ensures ∙ ap (λ (o : Option (List ℕ)). Some o) (ap option_copied c.in-Some.is)) c.bookmark_at-bookmark.ensures in
    let taken : IsTaken (table_long_values c.args.trees.now.tables c.args.table.0) c.args.schema.now c.bookmark_at-bookmark.result.now c.in-Some.row.now = oldest_taken (table_long_values c.args.trees.now.tables) c.requires.was.0 c.args.trees.now.tables c.args.versions.now c.args.table.0 c.bookmark_at-bookmark.result.now c.in-Some.row.now oldest c.requires.was.2 c.args.schema.now c.requires.was.1.same in
    spelled_row (table_long_values c.args.trees.now.tables c.args.table.0) c.in-Some.row.now taken.0

pub release_row-requires-clause-there : goal.release_row-requires-clause-there
release_row-requires-clause-there c = λ id some.
    let oldest : IsOldest c.args.versions.now c.args.table.0 c.bookmark_at-bookmark.result.now c.in-Some.row.now = oldest_is c.args.versions.now c.args.table.0 c.bookmark_at-bookmark.result.now c.in-Some.row.now c.requires.first (c.is_standing_at.ensures ∙ ap (λ (b : Bool). Some b) c.if-is_standing_at.true)
    (c.before_at.ensures ∙ ap (λ (o : Option (List ℕ)). Some o) (ap option_copied c.in-Some.is)) c.bookmark_at-bookmark.ensures in
    subst (λ (v : Values). IsSome (value_of id v)) (sym (c.take_variant.ensures.values c.args.table.0)) (oldest_there c.args.trees.now.tables c.args.versions.now c.args.table.0 c.bookmark_at-bookmark.result.now c.in-Some.row.now oldest c.requires.counts id some)

pub returns-in-Some-clause-forgotten : goal.returns-in-Some-clause-forgotten
returns-in-Some-clause-forgotten c = λ tables schema kept.
    let oldest : IsOldest c.args.versions.now c.args.table.0 c.bookmark_at-bookmark.result.now c.in-Some.row.now = oldest_is c.args.versions.now c.args.table.0 c.bookmark_at-bookmark.result.now c.in-Some.row.now c.requires.first (c.is_standing_at.ensures ∙ ap (λ (b : Bool). Some b) c.if-is_standing_at.true)
    (c.before_at.ensures ∙ ap (λ (o : Option (List ℕ)). Some o) (ap option_copied c.in-Some.is)) c.bookmark_at-bookmark.ensures in
    let laws : ValueLaws = record {
      put = c.values_after_a_change.ensures.put;
      beside = c.values_after_a_change.ensures.beside;
      more = c.references_after_a_change.ensures.more;
      more_beside = c.references_after_a_change.ensures.more_beside;
      less = c.references_after_a_change.ensures.less;
      less_beside = c.references_after_a_change.ensures.less_beside;
    } in
    let ids : List (List ℕ) = identifiers (Some (row_in c.in-Some.row.now)) in
    let r : Releases laws tables c.args.trees.now.tables c.take_variant.new.trees.tables c.release_row.new.trees.tables c.args.table.0 ids (drop 1 c.args.versions.now) = record {
      distinct = schema.ids;
      values = c.take_variant.ensures.values;
      kept = c.take_variant.ensures.kept tables schema.ids schema.same (oldest_leaves (table_long_values c.args.trees.now.tables) tables c.args.trees.now.tables c.args.versions.now c.args.table.0 c.bookmark_at-bookmark.result.now c.in-Some.row.now oldest kept);
      sorted = c.nodes_are_in_order.ensures.sorted;
      released = c.release_row.ensures.tables;
      counts = oldest_counted c.values_keep_their_counts.ensures.cleaned c.args.trees.now.tables c.take_variant.new.trees.tables c.release_row.new.trees.tables c.args.versions.now c.args.table.0 c.bookmark_at-bookmark.result.now c.in-Some.row.now oldest c.take_variant.ensures.values
          c.take_variant.ensures.rows c.release_row.ensures.tables c.requires.counts;
    } in record {
      kept = still_kept laws tables c.args.trees.now.tables c.take_variant.new.trees.tables c.release_row.new.trees.tables c.args.table.0 ids (drop 1 c.args.versions.now) r;
      counts = r.counts;
      newest = still_shown laws tables c.args.trees.now.tables c.take_variant.new.trees.tables c.release_row.new.trees.tables c.args.table.0 ids (drop 1 c.args.versions.now) r ∙ c.take_variant.ensures.newest tables;
      held_records = still_held laws tables c.args.trees.now.tables c.take_variant.new.trees.tables c.release_row.new.trees.tables c.args.table.0 ids (drop 1 c.args.versions.now) r;
      values = no_value_came laws tables c.args.trees.now.tables c.take_variant.new.trees.tables c.release_row.new.trees.tables c.args.table.0 ids (drop 1 c.args.versions.now) r;
    }

pub returns-in-None-clause-forgotten : goal.returns-in-None-clause-forgotten
returns-in-None-clause-forgotten c = λ tables schema kept.
    nothing_forgotten tables c.args.trees.now.tables c.args.versions.now (λ h. first_empty c.args.versions.now h (c.before_at.ensures ∙ ap (λ (o : Option (List ℕ)). Some o) (ap option_copied c.in-None.is))) (first_within c.args.versions.now c.args.table.0 c.requires.first) kept c.requires.counts

pub returns-else-is_standing_at-clause-forgotten : goal.returns-else-is_standing_at-clause-forgotten
returns-else-is_standing_at-clause-forgotten c = λ tables schema kept.
    nothing_forgotten tables c.args.trees.now.tables c.args.versions.now (λ h. first_fallen c.args.versions.now h (c.is_standing_at.ensures ∙ ap (λ (b : Bool). Some b) c.if-is_standing_at.false)) (first_within c.args.versions.now c.args.table.0 c.requires.first) kept c.requires.counts
