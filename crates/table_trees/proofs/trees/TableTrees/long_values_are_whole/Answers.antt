use Rattle.std.proofs.Common.{refl}
use Rattle.std.proofs.lemmas.List.Elements.{All-nil}
use Rattle.long_value.specs.Values.{AreLong, IsLong}
use Rattle.table_trees.proofs.StoreChanges.{each_long}
use Rattle.table_trees.proofs.trees.TableTrees.long_values_are_whole.Goals as goal

pub returns : goal.returns
returns c table = each_long AreLong c.self.inside.space c.self.inside.tables.items c.args.self.now table c.self.invariant c.self.view_is (record { in_order = refl; whole = All-nil IsLong }) (λ long is. is.whole)
