-- The entries that are left, and those with one more, have keys that tell their length.
use Rattle.std.proofs.Common.{◌≡◌, ◌+◌, ◌&&◌, ℕ, List, length, not, slice_index, bytes_eq, subst, sym}
use Rattle.std.specs.Prelude.{All}
use Rattle.std.proofs.lemmas.List.Elements.{All-filter}
use Rattle.common_lemmas.proofs.Results.{either_way}
use Rattle.cursor_nav.specs.Places.{Pair}
use Rattle.index_derive.specs.Entries.{insert_entry}
use Rattle.index_tree.specs.Entries.{insert_entry_if_absent}
use Rattle.index_tree.specs.IndexTrees.{entries_of}
use Rattle.tests_trees.proofs.EntryLemmas.{insert_all, insert_all_if_absent}
use Rattle.tests_trees.proofs.indexes.change_one.Goals as goal

IsSized : Pair → Type 0
IsSized entry = slice_index entry.0 0 + 1 ≡ length entry.0

pub returns-then-has-clause-sized : goal.returns-then-has-clause-sized
unfolding IsSized
returns-then-has-clause-sized c =
    let key = c.as_bytes-key.result.now in
    let bookmark = c.as_bytes-bookmark.result.now in
    subst (All IsSized) (sym c.remove.ensures.entries) (All-filter (λ (x : Pair). not (bytes_eq x.0 key && bytes_eq x.1 bookmark)) IsSized (entries_of c.args.space.now c.args.index.now) c.requires.sized)

pub returns-then-puts-3-clause-sized : goal.returns-then-puts-3-clause-sized
unfolding IsSized
returns-then-puts-3-clause-sized c =
    let e : Pair = (c.as_bytes-key.result.now, c.as_bytes-bookmark.result.now) in
    let es = entries_of c.args.space.now c.args.index.now in
    let sized : IsSized e = subst (λ (k : List ℕ). slice_index k 0 + 1 ≡ length k) (sym c.as_bytes-key.ensures.value) c.key_of-key.ensures in
    either_way c.insert.result
    (λ (h : entries_of c.insert.new.space c.insert.new.self ≡ insert_entry e es). subst (All IsSized) (sym h) (insert_all IsSized e es sized c.requires.sized))
    (λ (h : entries_of c.insert.new.space c.insert.new.self ≡ es). subst (All IsSized) (sym h) c.requires.sized)
    c.insert.ensures.ok c.insert.ensures.err

pub returns-then-number-eq1-clause-sized : goal.returns-then-number-eq1-clause-sized
unfolding IsSized
returns-then-number-eq1-clause-sized c =
    let e : Pair = (c.as_bytes-key.result.now, c.as_bytes-bookmark.result.now) in
    let es = entries_of c.args.space.now c.args.index.now in
    let sized : IsSized e = subst (λ (k : List ℕ). slice_index k 0 + 1 ≡ length k) (sym c.as_bytes-key.ensures.value) c.key_of-key.ensures in
    either_way c.insert_if_absent.result
    (λ (h : entries_of c.insert_if_absent.new.space c.insert_if_absent.new.self ≡ insert_entry_if_absent e es). subst (All IsSized) (sym h) (insert_all_if_absent IsSized e es sized c.requires.sized))
    (λ (h : entries_of c.insert_if_absent.new.space c.insert_if_absent.new.self ≡ es). subst (All IsSized) (sym h) c.requires.sized)
    c.insert_if_absent.ensures.ok c.insert_if_absent.ensures.err
