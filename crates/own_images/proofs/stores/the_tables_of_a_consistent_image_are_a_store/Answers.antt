use Rattle.std.proofs.Common.{◌≡◌, List, None, sym, subst}
use Rattle.std.specs.Prelude.{map}
use Rattle.common_lemmas.proofs.Lists.{all_weaker}
use Rattle.database_state.specs.Table.{Table}
use Rattle.image_findings.specs.Findings.{contents_in, told_in}
use Rattle.image_findings.specs.ValueFindings.{value_finding}
use Rattle.stored_variants.specs.VersionsKept.{AreKept}
use Rattle.own_images.specs.StoredContents.{HasWholeValues, held_of, stored_of}
use Rattle.own_images.proofs.StoreLemmas.Consistent.{counted, kept, made, tables_are}
use Rattle.own_images.proofs.stores.the_tables_of_a_consistent_image_are_a_store.Goals as goal

pub returns-clause-kept : goal.returns-clause-kept
returns-clause-kept c image bytes h =
    subst (λ (tables : List Table). AreKept tables (map stored_of (contents_in image)) (held_of image)) (sym (tables_are image.pages (told_in image).tables)) (kept image (c.each_part_of_a_consistent_image_is_stored.ensures image bytes h))

pub returns-clause-counts : goal.returns-clause-counts
returns-clause-counts c image bytes h = counted image (c.each_part_of_a_consistent_image_is_stored.ensures image bytes h)

pub returns-clause-entries : goal.returns-clause-entries
returns-clause-entries c image h =
    made image
    (all_weaker (λ t. value_finding image.number (held_of image) t ≡ None) (HasWholeValues image.number (held_of image))
    (λ t e. let both = c.values_without_a_finding_are_whole.ensures image.number (held_of image) t e in record { broken = both.0; missing = both.1 }) (contents_in image) (c.each_check_of_a_consistent_image_passes.ensures image h).values)
