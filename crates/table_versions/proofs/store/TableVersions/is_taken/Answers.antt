use Rattle.std.proofs.Common.{ℕ, Bool, false, not, List, Option, sym, ap, subst, ◌∙◌, bytes_eq}
use Rattle.std.specs.Prelude.{◌<◌, option_copied}
use Rattle.std.proofs.lemmas.Bool.{not-true}
use Rattle.cursor_nav.specs.Places.{Pair, entry_after, found_pair}
use Rattle.database_state.specs.Puts.{is_replaced}
use Rattle.index_derive.specs.declared.entries.IndexEntry.{IndexEntry}
use Rattle.index_derive.specs.declared.entries.Place.TheVariants.{Gap}
use Rattle.stored_variants.specs.StoredVersions.{seen_entries}
use Rattle.laws_engine.proofs.TableLemmas.Neighbours.{fewer_left, left_from}
use Rattle.table_versions.proofs.WithKey.{KeyWalk, walk_begins, walk_goes_on, walk_passes}
use Rattle.table_versions.proofs.store.TableVersions.is_taken.Goals as goal

pub loop-found-init : goal.loop-found-init
loop-found-init c =
    let entries : List Pair = seen_entries c.args.reader c.args.self.now.store c.args.table.0 c.args.index.0 in
    walk_begins (λ (bookmark : List ℕ). not (is_replaced (option_copied c.args.own) bookmark)) c.args.key.now entries (found_pair c.walk-found.result)
    (c.seen_entries_are_in_order.ensures.sorted c.args.reader c.args.table.0 c.args.index.0)
    (c.walk-found.ensures ∙ ap (λ (k : List ℕ). entry_after (Gap k false) entries) c.copy.ensures)

pub returns-then-ne : goal.returns-then-ne
returns-then-ne c =
    let entries : List Pair = seen_entries c.args.reader c.args.self.now.store c.args.table.0 c.args.index.0 in
    let test : List ℕ → Bool = λ bookmark. not (is_replaced (option_copied c.args.own) bookmark) in
    let entry : Pair = (c.in-Some.entry.key, c.in-Some.entry.bookmark) in
    sym (walk_passes test c.args.key.now entries entry (subst (λ (o : Option IndexEntry). KeyWalk test c.args.key.now entries (found_pair o)) c.in-Some.is c.loop-found.invariant)
    (not-true (bytes_eq entry.0 c.args.key.now) (sym c.ne.ensures ∙ c.if-ne.true)))

pub loop-found-smaller : goal.loop-found-smaller
loop-found-smaller c =
    let entries : List Pair = seen_entries c.args.reader c.args.self.now.store c.args.table.0 c.args.index.0 in
    let entry : Pair = (c.in-Some.entry.key, c.in-Some.entry.bookmark) in
    subst (λ (found : Option IndexEntry). left_from entries (found_pair c.walk-found-in-Some.result) < left_from entries (found_pair found)) (sym c.in-Some.is)
    (fewer_left entry (found_pair c.walk-found-in-Some.result) entries c.walk-found-in-Some.ensures)

pub loop-found-preserved : goal.loop-found-preserved
loop-found-preserved c =
    let entries : List Pair = seen_entries c.args.reader c.args.self.now.store c.args.table.0 c.args.index.0 in
    let test : List ℕ → Bool = λ bookmark. not (is_replaced (option_copied c.args.own) bookmark) in
    let entry : Pair = (c.in-Some.entry.key, c.in-Some.entry.bookmark) in
    walk_goes_on test c.args.key.now entries entry (found_pair c.walk-found-in-Some.result)
    (c.seen_entries_are_in_order.ensures.sorted c.args.reader c.args.table.0 c.args.index.0)
    (subst (λ (o : Option IndexEntry). KeyWalk test c.args.key.now entries (found_pair o)) c.in-Some.is c.loop-found.invariant)
    (ap not (sym (c.is_replaced.ensures ∙ ap (is_replaced (option_copied c.args.own)) c.as_bytes.ensures.value) ∙ c.if-not-is_replaced.false))
    c.walk-found-in-Some.ensures
