use Rattle.std.proofs.Common.{◌≡◌, None}
use Rattle.common_lemmas.proofs.Lists.{all_weaker}
use Rattle.image_findings.specs.Findings.{contents_in, told_in}
use Rattle.image_findings.specs.TreeFindings.{nodes_below}
use Rattle.image_findings.specs.ValueFindings.{value_finding}
use Rattle.own_images.specs.StoredContents.{HasWholeValues, held_of}
use Rattle.own_images.proofs.stores.each_part_of_a_consistent_image_is_stored.Goals as goal

pub returns : goal.returns
returns c image bytes h =
    let n = c.each_check_of_a_consistent_image_passes.ensures image h in
    let nodes = nodes_below image.pages image.catalog_root in
    record {
      none = n;
      ids = c.tables_of_a_consistent_image_are_sound.ensures.ids 0 image h;
      rise = c.records_of_a_consistent_image_rise.ensures 0 image bytes h;
      rules = c.indexes_of_a_sound_catalog_are_stored.ensures image.pages nodes (told_in image) n.told n.catalog;
      trees = c.indexes_that_a_catalog_tells_have_their_trees.ensures image.pages nodes (told_in image) n.told;
      own = c.indexes_of_a_sound_catalog_have_their_own_rules.ensures image.pages nodes (told_in image) n.told n.catalog;
      values = all_weaker (λ t. value_finding image.number (held_of image) t ≡ None) (HasWholeValues image.number (held_of image))
          (λ t e. let both = c.values_without_a_finding_are_whole.ensures image.number (held_of image) t e in record { broken = both.0; missing = both.1 }) (contents_in image) n.values;
      rows = c.rows_of_a_consistent_image_are_sound.ensures image h;
      under = c.rows_of_a_consistent_image_are_stored.ensures image bytes h;
      records = c.newest_records_of_a_consistent_image_are_of_their_rows.ensures image bytes h;
      changes = c.held_changes_of_a_consistent_image_are_sound.ensures image bytes h;
    }
