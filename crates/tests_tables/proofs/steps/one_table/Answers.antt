-- The catalog is empty, and takes the table.
use Rattle.std.proofs.Common.{◌≡◌, List, [], ℕ, refl, sym, subst, codes}
use Rattle.jet_base.specs.Ids.{table_id}
use Rattle.index_derive.specs.declared.schema_calls.SchemaStep.TheVariants as step
use Rattle.jet_catalog.specs.Catalog.{CatalogState, catalog_after}
use Rattle.catalog_record.specs.CatalogsKept.{HoldsCatalog, TakesTable}
use Rattle.tests_tables.specs.OneTable.{no_table, roots}
use Rattle.tests_tables.proofs.steps.one_table.Goals as goal

takes : (name : List ℕ) → name ≡ codes "t" → TakesTable roots no_table (table_id 1) name 5 6
takes name e = subst (λ (n : List ℕ). TakesTable roots no_table (table_id 1) n 5 6) (sym e) (record { numbered = refl; new = refl; fits = refl; records_root = refl; long_values_root = refl })

pub create_table-requires : goal.create_table-requires
create_table-requires c = (roots, no_table, record { tree = c.in_ok-catalog.ensures.ok.0; nodes = c.in_ok-catalog.ensures.ok.1; writable = refl }, takes c.in_ok-name.name c.in_ok-name.ensures)

pub returns : goal.returns
returns c =
    subst (λ (n : List ℕ). HoldsCatalog c.create_table.new.space c.create_table.new.self roots (catalog_after no_table (step.CreateTable (table_id 1) n))) c.in_ok-name.ensures
    (c.in_ok-create_table.ensures.ok roots no_table (record { tree = c.in_ok-catalog.ensures.ok.0; nodes = c.in_ok-catalog.ensures.ok.1; writable = refl }) (takes c.in_ok-name.name c.in_ok-name.ensures)).1
