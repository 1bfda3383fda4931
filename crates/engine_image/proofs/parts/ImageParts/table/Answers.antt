use Rattle.std.proofs.Common.{List, length, get_or, ◌<◌, refl, sym, ap, subst, ◌∙◌}
use Rattle.database_state.specs.Table.{Table}
use Rattle.image_opening.specs.declared.opened.OpenedTable.{OpenedTable}
use Rattle.engine_image.proofs.TablesShown.{as_many, shown_at}
use Rattle.engine_image.proofs.parts.ImageParts.table.Goals as goal

pub bounds-tables-place : goal.bounds-tables-place
bounds-tables-place c = subst (λ (l : List Table). c.args.place < length l) (sym c.tables.ensures.tables) (as_many c.requires.parts.0 c.args.self.now c.args.place c.requires.parts.1 c.requires.place)

pub bounds-self-place : goal.bounds-self-place
bounds-self-place c = c.requires.place

pub returns : goal.returns
returns c image is =
    let trees = c.args.self.now.trees.now in
    shown_at c.tables_of_a_sound_catalog_have_legal_rules.ensures c.indexes_of_a_sound_catalog_have_their_own_rules.ensures image c.args.self.now c.args.place
    (record {
      space = c.args.self.now.space;
      table = record { ref_ptr = _; now = c.index-tables-place.result };
      opened = record { ref_ptr = _; now = get_or trees c.args.place c.index-self-place.result };
      versions = c.versions.result;
    })
    is c.requires.place refl (c.index-tables-place.is ∙ ap (λ (l : List Table). get_or l c.args.place c.index-tables-place.result) c.tables.ensures.tables)
    (ap (λ (opened : OpenedTable). get_or trees c.args.place opened) c.index-self-place.is) c.versions.ensures
