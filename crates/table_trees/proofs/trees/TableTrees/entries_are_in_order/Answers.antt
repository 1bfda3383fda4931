use Rattle.std.proofs.Common.{◌≡◌, true, refl, arith}
use Rattle.std.specs.Prelude.{All}
use Rattle.std.proofs.lemmas.List.Elements.{All-nil}
use Rattle.cursor_nav.specs.Places.{are_sorted}
use Rattle.index_tree.specs.Entries.{AreApart, IsShort}
use Rattle.table_trees.proofs.StoreChanges.{each_entries}
use Rattle.table_trees.proofs.trees.TableTrees.entries_are_in_order.Goals as goal

pub returns-clause-sorted : goal.returns-clause-sorted
returns-clause-sorted c table index =
    each_entries (λ entries. are_sorted entries ≡ true) c.self.inside.space c.self.inside.tables.items c.args.self.now table index c.self.invariant c.self.view_is refl (λ tree is. is.in_order)

pub returns-clause-short : goal.returns-clause-short
returns-clause-short c table index =
    each_entries (All IsShort) c.self.inside.space c.self.inside.tables.items c.args.self.now table index c.self.invariant c.self.view_is (All-nil IsShort) (λ tree is. is.short)

pub returns-clause-apart : goal.returns-clause-apart
returns-clause-apart c table index =
    each_entries AreApart c.self.inside.space c.self.inside.tables.items c.args.self.now table index c.self.invariant c.self.view_is (λ i j d lt le. absurd (omega arith)) (λ tree is. is.apart)
