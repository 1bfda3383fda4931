use Rattle.std.proofs.Common.{length, ap, ◌∙◌}
use Rattle.std.proofs.lemmas.List.{length-map}
use Rattle.stored_variants.specs.StoredVersions.{StoredVersions}
use Rattle.esentutl.proofs.inspections.table_count.Goals as goal

pub returns : goal.returns
returns c = ap length c.tables-2.ensures ∙ length-map _ _ ∙ ap (λ (all : StoredVersions). length all.store.tables) c.tables.ensures
