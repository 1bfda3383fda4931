use Rattle.std.proofs.Common.{map, ap, ◌∙◌}
use Rattle.std.specs.Prelude.{not}
use Rattle.std.proofs.lemmas.List.{take_all}
use Rattle.column_set.specs.declared.columns.Column.{Column}
use Rattle.index_derive.specs.Entries.{has_double}
use Rattle.image_opening.proofs.SoundParts.{names_differ}
use Rattle.image_opening.proofs.rules.column_names_differ.Goals as goal

pub returns : goal.returns
returns c =
    ap not (c.has_double.ensures ∙ ap has_double (c.loop-column.invariant ∙ ap (map (λ (column : Column). column.name)) (take_all c.loop-column.column-index c.args.columns.now c.loop-column-test.false)))
    ∙ names_differ c.args.columns.now
