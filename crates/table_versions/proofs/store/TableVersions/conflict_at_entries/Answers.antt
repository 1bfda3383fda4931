use Rattle.std.proofs.Common.{ℕ, Bool, false, not, List, Option, sym, ap, subst, ◌∙◌, bytes_eq}
use Rattle.std.specs.Prelude.{◌<◌, IfSome}
use Rattle.std.proofs.lemmas.Bool.{not-false, not-true}
use Rattle.cursor_nav.specs.Places.{Pair, entry_after}
use Rattle.index_derive.specs.declared.entries.Place.TheVariants.{Gap}
use Rattle.table_trees.specs.StoredTables.{index_entries}
use Rattle.laws_engine.proofs.TableLemmas.Neighbours.{fewer_left, left_from}
use Rattle.table_versions.proofs.EntriesShown.{IsShortPair, short_pairs}
use Rattle.table_versions.proofs.NodesShown.{parts_of}
use Rattle.table_versions.proofs.StoredConflicts.{OfRecord, conflict_in_tree, rule_in_store}
use Rattle.table_versions.proofs.WithKey.{KeyWalk, walk_begins, walk_ends, walk_finds, walk_goes_on, walk_passes}
use Rattle.table_versions.proofs.store.TableVersions.conflict_at_entries.Goals as goal

pub loop-found-init : goal.loop-found-init
loop-found-init c =
    let entries : List Pair = index_entries c.self.inside.trees.tables c.args.table.0 c.args.rule.now.id.0 in
    let test : List ℕ → Bool = OfRecord c.args.reader c.args.self.now c.args.table.0 c.args.rule.now c.args.schema.now c.args.key.now in (
      walk_begins test c.args.key.now entries (parts_of c.entry_after-found.result) (c.entries_are_in_order.ensures.sorted c.args.table.0 c.args.rule.now.id.0)
          (c.entry_after-found.ensures.entry ∙ ap (λ (k : List ℕ). entry_after (Gap k false) entries) c.copy.ensures),
      short_pairs c.entry_after-found.result c.entry_after-found.ensures.short,
    )

pub returns-then-ne : goal.returns-then-ne
returns-then-ne c =
    let entries : List Pair = index_entries c.self.inside.trees.tables c.args.table.0 c.args.rule.now.id.0 in
    let test : List ℕ → Bool = OfRecord c.args.reader c.args.self.now c.args.table.0 c.args.rule.now c.args.schema.now c.args.key.now in
    let entry : Pair = (c.in-Some.found_key.now, c.in-Some.bookmark.now) in
    sym (walk_passes test c.args.key.now entries entry (subst (λ (o : Option Pair). KeyWalk test c.args.key.now entries o) (ap parts_of c.in-Some.is) c.loop-found.invariant.0)
    (not-true (bytes_eq entry.0 c.args.key.now) (ap (λ (k : List ℕ). not (bytes_eq entry.0 k)) (sym c.as_bytes.ensures.value) ∙ sym c.ne.ensures ∙ c.if-ne.true)))
    ∙ conflict_in_tree c.args.reader c.args.key.now c.self.inside.newest_put c.self.inside.catalog c.self.inside.trees.tables c.self.inside.versions c.self.invariant.kept c.args.self.now c.self.view_is c.args.table.0 c.args.schema.now c.requires.named c.args.rule.now c.requires.rule c.requires.secondary

pub conflict_under-requires-clause-legal : goal.conflict_under-requires-clause-legal
conflict_under-requires-clause-legal c =
    (rule_in_store c.self.inside.newest_put c.self.inside.catalog c.self.inside.trees.tables c.self.inside.versions c.self.invariant.kept c.args.self.now c.self.view_is c.args.table.0 c.args.schema.now c.requires.named c.args.rule.now c.requires.rule).0

pub conflict_under-requires-clause-short : goal.conflict_under-requires-clause-short
conflict_under-requires-clause-short c =
    (rule_in_store c.self.inside.newest_put c.self.inside.catalog c.self.inside.trees.tables c.self.inside.versions c.self.invariant.kept c.args.self.now c.self.view_is c.args.table.0 c.args.schema.now c.requires.named c.args.rule.now c.requires.rule).1

pub returns-then-conflict_under : goal.returns-then-conflict_under
returns-then-conflict_under c =
    let entries : List Pair = index_entries c.self.inside.trees.tables c.args.table.0 c.args.rule.now.id.0 in
    let test : List ℕ → Bool = OfRecord c.args.reader c.args.self.now c.args.table.0 c.args.rule.now c.args.schema.now c.args.key.now in
    let entry : Pair = (c.in-Some.found_key.now, c.in-Some.bookmark.now) in
    sym (walk_finds test c.args.key.now entries entry (subst (λ (o : Option Pair). KeyWalk test c.args.key.now entries o) (ap parts_of c.in-Some.is) c.loop-found.invariant.0)
    (not-false (bytes_eq entry.0 c.args.key.now) (ap (λ (k : List ℕ). not (bytes_eq entry.0 k)) (sym c.as_bytes.ensures.value) ∙ sym c.ne.ensures ∙ c.if-ne.false))
    (sym c.conflict_under.ensures ∙ c.if-conflict_under.true))
    ∙ conflict_in_tree c.args.reader c.args.key.now c.self.inside.newest_put c.self.inside.catalog c.self.inside.trees.tables c.self.inside.versions c.self.invariant.kept c.args.self.now c.self.view_is c.args.table.0 c.args.schema.now c.requires.named c.args.rule.now c.requires.rule c.requires.secondary

pub loop-found-smaller : goal.loop-found-smaller
loop-found-smaller c =
    let entries : List Pair = index_entries c.self.inside.trees.tables c.args.table.0 c.args.rule.now.id.0 in
    let entry : Pair = (c.in-Some.found_key.now, c.in-Some.bookmark.now) in
    subst (λ (o : Option Pair). left_from entries (parts_of c.entry_behind-found.result) < left_from entries o) (sym (ap parts_of c.in-Some.is))
    (fewer_left entry (parts_of c.entry_behind-found.result) entries c.entry_behind-found.ensures.entry)

pub entry_behind-found-requires : goal.entry_behind-found-requires
entry_behind-found-requires c =
    let short = subst (λ (o : Option Pair). IfSome o IsShortPair) (ap parts_of c.in-Some.is) c.loop-found.invariant.1 in
    record { key = short.0; bookmark = short.1 }

pub loop-found-preserved : goal.loop-found-preserved
loop-found-preserved c =
    let entries : List Pair = index_entries c.self.inside.trees.tables c.args.table.0 c.args.rule.now.id.0 in
    let test : List ℕ → Bool = OfRecord c.args.reader c.args.self.now c.args.table.0 c.args.rule.now c.args.schema.now c.args.key.now in
    let entry : Pair = (c.in-Some.found_key.now, c.in-Some.bookmark.now) in (
      walk_goes_on test c.args.key.now entries entry (parts_of c.entry_behind-found.result) (c.entries_are_in_order.ensures.sorted c.args.table.0 c.args.rule.now.id.0)
          (subst (λ (o : Option Pair). KeyWalk test c.args.key.now entries o) (ap parts_of c.in-Some.is) c.loop-found.invariant.0)
          (sym c.conflict_under.ensures ∙ c.if-conflict_under.false)
          c.entry_behind-found.ensures.entry,
      short_pairs c.entry_behind-found.result c.entry_behind-found.ensures.short,
    )

pub returns : goal.returns
returns c =
    let entries : List Pair = index_entries c.self.inside.trees.tables c.args.table.0 c.args.rule.now.id.0 in
    let test : List ℕ → Bool = OfRecord c.args.reader c.args.self.now c.args.table.0 c.args.rule.now c.args.schema.now c.args.key.now in
    sym (walk_ends test c.args.key.now entries (parts_of c.loop-found.found) c.loop-found.invariant.0 (ap parts_of c.in_default.is))
    ∙ conflict_in_tree c.args.reader c.args.key.now c.self.inside.newest_put c.self.inside.catalog c.self.inside.trees.tables c.self.inside.versions c.self.invariant.kept c.args.self.now c.self.view_is c.args.table.0 c.args.schema.now c.requires.named c.args.rule.now c.requires.rule c.requires.secondary
