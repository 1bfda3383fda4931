use Rattle.image_contents.proofs.ReadableVariants.{variants_readable}
use Rattle.image_contents.proofs.entries.laws.variants_of_a_table_without_a_finding_are_readable.Goals as goal

pub returns : goal.returns
returns c v t number tables live is rules there held values live_sound rows =
    let read = c.tables_without_broken_or_missing_values_have_readable_rows.ensures.finding v.space.now v.opened.now t number v.versions.now is.contents rules values in
    let sound = c.rows_without_a_finding_are_sound.ensures number v.versions.now t values rows in
    variants_readable c.rows_before_changes_without_missing_values_are_whole.ensures number tables live v t is rules read.parts sound.rows there held values live_sound
