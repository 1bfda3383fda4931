-- That no check of a consistent image finds anything.
use Rattle.std.proofs.Common.{◌≡◌, ℕ, Bool, true, false, List, [], ◌∷◌, Option, Some, None, refl, subst}
use Rattle.std.specs.Prelude.{map, unwrap_or, if◌then◌else◌}
use Rattle.std.specs.List.{AllByRecursion}
use Rattle.std.specs.Option.{option_or}
use Rattle.common_lemmas.proofs.Options.{some_apart}
use Rattle.live_part.specs.LiveBytes.{LivePart, without_undone}
use Rattle.live_part.specs.LiveReading.{whole_in}
use Rattle.image_findings.specs.CatalogFindings.{CatalogTold, catalog_told, is_sound_catalog, table_of}
use Rattle.image_findings.specs.CountFindings.{count_finding}
use Rattle.image_findings.specs.EntryFindings.{entry_finding}
use Rattle.image_findings.specs.Findings.{IsConsistent, catalog_finding, catalog_marks, contents_in, engine_of_parts, finding, held_in, history_of, live_finding, live_of, records_finding, roots_told, tables_finding, told_in}
use Rattle.image_findings.specs.Images.{Finding, ImageContents, first_of}
use Rattle.image_findings.specs.KeyFindings.{key_finding}
use Rattle.image_findings.specs.LiveFindings.{is_sound_live}
use Rattle.image_findings.specs.NoFindings.{HasNoFinding}
use Rattle.image_findings.specs.RowFindings.{row_finding}
use Rattle.image_findings.specs.TableContents.{TableContents}
use Rattle.image_findings.specs.TreeFindings.{marks_after, no_marks, nodes_below, trees_finding, unowned_from}
use Rattle.image_findings.specs.ValueFindings.{value_finding}

-- ---- single checks

pub or_none : {X : Type 0} (a b : Option X) → option_or a b ≡ None → (a ≡ None) × (b ≡ None)
or_none None b h = (refl, h)
or_none (Some x) b h = absurd (some_apart x h)

passed : {X : Type 0} (b : Bool) (x : X) → (if b then None else Some x) ≡ None → b ≡ true
passed true x h = refl
passed false x h = absurd (some_apart x h)

pub each_none : {X : Type 0} (f : X → Option Finding) (xs : List X) → first_of (map f xs) ≡ None → AllByRecursion (λ x. f x ≡ None) xs
each_none f [] h = tt
each_none f (x ∷ xs) h = let a = or_none (f x) (first_of (map f xs)) h in (a.0, each_none f xs a.1)

-- ---- one behind the other

record RecordChecks (number : ℕ) (tables : List TableContents) (live : LivePart) : Type 0 where
  rows : AllByRecursion (λ t. row_finding number live.held t ≡ None) tables
  entries : AllByRecursion (λ t. entry_finding live.held t ≡ None) tables
  keys : AllByRecursion (λ t. key_finding (history_of (engine_of_parts 0 number 0 tables live)) live.held t ≡ None) tables
  counts : AllByRecursion (λ t. count_finding live.held t ≡ None) tables

record_checks : (number : ℕ) (tables : List TableContents) (live : LivePart) → records_finding number tables live ≡ None → RecordChecks number tables live
record_checks number tables live h =
    let a = or_none (first_of (map (row_finding number live.held) tables)) _ h in
    let b = or_none (first_of (map (entry_finding live.held) tables)) _ a.1 in
    let c = or_none (first_of (map (key_finding (history_of (engine_of_parts 0 number 0 tables live)) live.held) tables)) (first_of (map (count_finding live.held) tables)) b.1 in
    record {
      rows = each_none (row_finding number live.held) tables a.0;
      entries = each_none (entry_finding live.held) tables b.0;
      keys = each_none (key_finding (history_of (engine_of_parts 0 number 0 tables live)) live.held) tables c.0;
      counts = each_none (count_finding live.held) tables c.1;
    }

record LiveChecks (number : ℕ) (tables : List TableContents) (found : Option LivePart) (whole : LivePart) : Type 0 where
  there : found ≡ Some whole
  sound : is_sound_live number tables whole ≡ true
  records : records_finding number tables (without_undone whole) ≡ None

live_checks : (number : ℕ) (tables : List TableContents) (found : Option LivePart) (other : LivePart) → live_finding number tables found ≡ None → LiveChecks number tables found (unwrap_or found other)
live_checks number tables None other h = absurd (some_apart _ h)
live_checks number tables (Some whole) other h =
    let a = or_none _ (records_finding number tables (without_undone whole)) h in
    record { there = refl; sound = passed (is_sound_live number tables whole) _ a.0; records = a.1 }

told_there : (image : ImageContents) (found : Option CatalogTold) (other : CatalogTold) → catalog_finding image found ≡ None → (found ≡ Some (unwrap_or found other)) × (tables_finding image (unwrap_or found other) ≡ None)
told_there image None other h = absurd (some_apart _ h)
told_there image (Some told) other h = (refl, h)

-- ---- all checks

pub no_finding : (image : ImageContents) → IsConsistent image → HasNoFinding image
unfolding finding
no_finding image h =
    let a = or_none (trees_finding image.pages (image.catalog_root ∷ []) (no_marks image.pages)) _ h in
    let t = told_there image (catalog_told (nodes_below image.pages image.catalog_root)) (record { greatest = 0; tables = [] }) a.1 in
    let b = or_none _ _ t.1 in
    let c = or_none (trees_finding image.pages (roots_told (told_in image)) (catalog_marks image)) _ b.1 in
    let d = or_none (unowned_from 0 image.pages (marks_after image.pages (roots_told (told_in image)) (catalog_marks image))) _ c.1 in
    let e = or_none (first_of (map (value_finding image.number (held_in (whole_in image.live))) (contents_in image))) (live_finding image.number (contents_in image) (whole_in image.live)) d.1 in
    let l = live_checks image.number (contents_in image) (whole_in image.live) (record { sessions = []; held = [] }) e.1 in
    let r = record_checks image.number (contents_in image) (live_of image) l.records in
    record {
      catalog_tree = a.0;
      told = t.0;
      catalog = passed (is_sound_catalog (told_in image).greatest (map table_of (told_in image).tables)) _ b.0;
      trees = c.0;
      pages = d.0;
      values = subst (λ o. AllByRecursion (λ t. value_finding image.number (held_in o) t ≡ None) (contents_in image)) l.there (each_none (value_finding image.number (held_in (whole_in image.live))) (contents_in image) e.0);
      whole = l.there;
      live = l.sound;
      rows = r.rows;
      entries = r.entries;
      keys = r.keys;
      counts = r.counts;
    }
