-- The check of the live part of an opened image.
use Rattle.std.proofs.Common.{◌≡◌, ◌++◌, ℕ, Bool, true, false, List, [], ◌∷◌, cond, Option, Some, None, refl, sym, ap, subst, ◌∙◌}
use Rattle.std.specs.Prelude.{◌==◌, slice_get, unwrap_or, if◌then◌else◌, IfSome}
use Rattle.std.specs.List.{AllByRecursion}
use Rattle.column_set.specs.RowReading.{row_in}
use Rattle.common_lemmas.proofs.Booleans.{impossible}
use Rattle.common_lemmas.proofs.Found.{found_passes, of_found}
use Rattle.common_lemmas.proofs.Numbers.{equal_turned}
use Rattle.common_lemmas.proofs.Options.{none_some}
use Rattle.database_state.specs.State.{is_undone}
use Rattle.database_state.specs.Table.{schema_of}
use Rattle.image_contents.specs.LegalRules.{HasLegalRules}
use Rattle.image_findings.specs.Findings.{contents_in, told_in, whole_of}
use Rattle.image_findings.specs.Images.{ImageContents}
use Rattle.image_findings.specs.Images.Finding.{Live}
use Rattle.image_findings.specs.LiveFindings.{is_sound_live}
use Rattle.image_findings.specs.TableContents.{TableContents, contents_with_id, long_values}
use Rattle.image_findings.specs.TreeFindings.{nodes_below}
use Rattle.image_findings.specs.ValueFindings.{broken_values, found_value, missing_values, value_finding}
use Rattle.image_live.specs.LoadedParts.{CanBeChecked, IsLoaded}
use Rattle.image_live.specs.Orders.{HasSpelling}
use Rattle.image_live.specs.TablesRead.{AreTablesOf, HasWholeBefore, IsReadable, NamesWholeValues}
use Rattle.image_live.specs.declared.tables.ImageTables.{ImageTables}
use Rattle.image_opening.specs.OpenedTrees.{EachWith, HasContents}
use Rattle.image_opening.specs.declared.opened.OpenedTable.{OpenedTable}
use Rattle.live_part.specs.LiveBytes.{LivePart}
use Rattle.live_part.specs.LiveReading.{undone_of, whole_in}
use Rattle.long_rows.specs.WholeRows.{is_whole}
use Rattle.page_space.specs.Frames.{Frames}
use Rattle.version_store.specs.HeldChanges.{HeldChange}
use Rattle.engine_image.specs.Checks.{HasSoundLive, check_finding, live_part_finding}
use Rattle.engine_image.specs.OpenedImages.{AreParts, IsReadLive, held_of}
use Rattle.engine_image.specs.declared.checks.TableCheck.TheVariants as check
use Rattle.engine_image.specs.declared.contents.ReadLive.{ReadLive}
use Rattle.engine_image.specs.declared.parts.ImageParts.{ImageParts}
use Rattle.engine_image.proofs.TableChecks.{RowsLaw}
use Rattle.engine_image.proofs.NoFindings.{each_none, no_keys, right_empty}
use Rattle.engine_image.proofs.TablesShown.{LegalLaw, all_at, held_is, legal_in, tables_are}

-- a long value that the row before a held change names is there
abbrev pub BeforesLaw : Type 0
BeforesLaw = (held : List HeldChange) (t : TableContents) → missing_values held t ≡ [] → AllByRecursion (λ (h : HeldChange). (h.table == t.table.id) ≡ true → IfSome h.before (λ bytes. is_whole (long_values t) (row_in bytes) ≡ true)) held

-- ---- the tables

readable : RowsLaw → (frames : Frames) (number : ℕ) (held : List HeldChange) (trees : List OpenedTable) (tables : List TableContents) → EachWith (HasContents frames) trees tables
    → AllByRecursion (λ (t : TableContents). HasLegalRules (schema_of t.table)) tables → AllByRecursion (λ t. value_finding number held t ≡ None) tables → AllByRecursion IsReadable tables
readable law frames number held [] [] each legal none = tt
readable law frames number held [] (t ∷ tables) each legal none = absurd each
readable law frames number held (x ∷ trees) [] each legal none = absurd each
readable law frames number held (x ∷ trees) (t ∷ tables) each legal none =
    (record { parts = (law frames x t number held each.0 legal.0 none.0).parts; rules = legal.0 }, readable law frames number held trees tables each.1 legal.1 none.1)

pub tables_of : RowsLaw → LegalLaw → (image : ImageContents) (parts : ImageParts) (tables : ImageTables) → AreParts image parts → check_finding check.Values image ≡ None → tables.space.now ≡ parts.space.now → tables.catalog.now ≡ parts.catalog.now
    → tables.trees.now ≡ parts.trees.now → AreTablesOf tables (contents_in image)
tables_of law legal image parts tables is none space catalog trees = record {
  catalog = ap (λ c. c.tables) catalog ∙ is.tables ∙ tables_are image.pages (told_in image).tables;
  trees = subst (λ (f : Frames). EachWith (HasContents f) tables.trees.now (contents_in image)) (sym space) (subst (λ (l : List OpenedTable). EachWith (HasContents parts.space.now) l (contents_in image)) (sym trees) is.contents);
  readable = readable law parts.space.now image.number (held_of image) parts.trees.now (contents_in image) is.contents (legal_in legal image.pages (nodes_below image.pages image.catalog_root) (told_in image) is.telling is.sound)
      (each_none (λ t. value_finding image.number (held_of image) t) (contents_in image) none);
}

-- ---- the changes

nothing_missing : (number : ℕ) (held : List HeldChange) (t : TableContents) → value_finding number held t ≡ None → missing_values held t ≡ []
nothing_missing number held t e = right_empty (broken_values number t) (missing_values held t) (no_keys (found_value held t 0) (broken_values number t ++ missing_values held t) e)

whole_of_some : (tables : List TableContents) (h : HeldChange) → AllByRecursion (λ (t : TableContents). (h.table == t.table.id) ≡ true → IfSome h.before (λ bytes. is_whole (long_values t) (row_in bytes) ≡ true)) tables → NamesWholeValues tables h
whole_of_some tables h all = by (contents_with_id tables h.table) refl
  where
    by : (o : Option TableContents) → contents_with_id tables h.table ≡ o → IfSome o (λ t. HasWholeBefore (long_values t) h)
    by None e = tt
    by (Some t) e = λ stands.
        of_found (λ (t : TableContents). (h.table == t.table.id) ≡ true → IfSome h.before (λ bytes. is_whole (long_values t) (row_in bytes) ≡ true)) (λ (u : TableContents). u.table.id == h.table) tables t e all
        (equal_turned h.table t.table.id ∙ found_passes (λ (u : TableContents). u.table.id == h.table) tables t e)

each_whole : BeforesLaw → (number : ℕ) (held : List HeldChange) (place : ℕ) (h : HeldChange) → slice_get held place ≡ Some h → (tables : List TableContents) → AllByRecursion (λ t. value_finding number held t ≡ None) tables
    → AllByRecursion (λ (t : TableContents). (h.table == t.table.id) ≡ true → IfSome h.before (λ bytes. is_whole (long_values t) (row_in bytes) ≡ true)) tables
each_whole law number held place h at [] none = tt
each_whole law number held place h at (t ∷ tables) none = (
  all_at (λ (g : HeldChange). (g.table == t.table.id) ≡ true → IfSome g.before (λ bytes. is_whole (long_values t) (row_in bytes) ≡ true)) held place h (law held t (nothing_missing number held t none.0)) at,
  each_whole law number held place h at tables none.1,
)

all_undone : (held : List HeldChange) → AllByRecursion (λ (h : HeldChange). is_undone h.status ≡ true) (undone_of held)
all_undone [] = tt
all_undone (h ∷ held) = by (is_undone h.status) refl (all_undone held)
  where
    by : (b : Bool) → is_undone h.status ≡ b → AllByRecursion (λ (g : HeldChange). is_undone g.status ≡ true) (undone_of held) → AllByRecursion (λ (g : HeldChange). is_undone g.status ≡ true) (cond b (h ∷ undone_of held) (undone_of held))
    by true e rest = (e, rest)
    by false e rest = rest

-- ---- a live part that has its form

pub record IsFormed (image : ImageContents) (live : ReadLive) : Type 0 where
  pub is_whole_in : whole_in image.live ≡ Some (whole_of image)
  pub loaded : IsLoaded (whole_of image) live.part
  pub spelled : HasSpelling live.part

pub formed : (image : ImageContents) (live : ReadLive) → IsReadLive (whole_in image.live) live → live.is_formed ≡ true → IsFormed image live
formed image live read form = by (whole_in image.live) refl read
  where
    by : (o : Option LivePart) → whole_in image.live ≡ o → IsReadLive o live → IsFormed image live
    by None e r = impossible (sym r.0 ∙ form)
    by (Some whole) e r =
        let same : whole_of image ≡ whole = ap (λ (o : Option LivePart). unwrap_or o (record { sessions = []; held = [] })) e in
        record {
          is_whole_in = e ∙ ap Some (sym same);
          loaded = subst (λ (l : LivePart). IsLoaded l live.part) (sym same) r.1;
          spelled = record { live = whole; fits = r.2; loaded = r.1 };
        }

pub can_check : BeforesLaw → RowsLaw → LegalLaw → (image : ImageContents) (parts : ImageParts) (tables : ImageTables) → AreParts image parts → check_finding check.Values image ≡ None → tables.space.now ≡ parts.space.now → tables.catalog.now ≡ parts.catalog.now
    → tables.trees.now ≡ parts.trees.now → parts.live.now.is_formed ≡ true → CanBeChecked tables parts.live.now.part
can_check befores rows legal image parts tables is none space catalog trees form =
    let f = formed image parts.live.now is.live form in
    record {
      tables = contents_in image;
      are_tables = tables_of rows legal image parts tables is none space catalog trees;
      whole = λ place h at.
          whole_of_some (contents_in image) h
          (each_whole befores image.number (held_of image) place h (ap (λ (l : List HeldChange). slice_get l place) (sym (held_is (whole_in image.live) parts.live.now is.live)) ∙ at) (contents_in image)
          (each_none (λ t. value_finding image.number (held_of image) t) (contents_in image) none));
      undone = λ place h at.
          all_at (λ (g : HeldChange). is_undone g.status ≡ true) (undone_of (whole_of image).held) place h (all_undone (whole_of image).held) (ap (λ (l : List HeldChange). slice_get l place) f.loaded.undone ∙ at);
    }

pub spelled : (image : ImageContents) (live : ReadLive) → IsReadLive (whole_in image.live) live → live.is_formed ≡ true → HasSpelling live.part
spelled image live read form = (formed image live read form).spelled

-- ---- what is found

pub unformed : (image : ImageContents) (live : ReadLive) → IsReadLive (whole_in image.live) live → live.is_formed ≡ false → live_part_finding image (whole_in image.live) ≡ Some Live
unformed image live read none = by (whole_in image.live) read
  where
    by : (o : Option LivePart) → IsReadLive o live → live_part_finding image o ≡ Some Live
    by None r = refl
    by (Some whole) r = impossible (sym none ∙ r.0)

pub live_told : RowsLaw → LegalLaw → (image : ImageContents) (parts : ImageParts) (tables : ImageTables) (sound : Bool) → AreParts image parts → check_finding check.Values image ≡ None → tables.space.now ≡ parts.space.now → tables.catalog.now ≡ parts.catalog.now
    → tables.trees.now ≡ parts.trees.now → tables.number ≡ parts.number → parts.live.now.is_formed ≡ true
    → ((shown : List TableContents) (live : LivePart) → AreTablesOf tables shown → IsLoaded live parts.live.now.part → sound ≡ is_sound_live tables.number shown live)
    → live_part_finding image (whole_in image.live) ≡ (if sound then None else Some Live)
live_told rows legal image parts tables sound is none space catalog trees number form h =
    let f = formed image parts.live.now is.live form in
    ap (live_part_finding image) f.is_whole_in
    ∙ ap (λ (n : ℕ). if is_sound_live n (contents_in image) (whole_of image) then None else Some Live) (sym (number ∙ is.number))
    ∙ ap (λ (b : Bool). if b then None else Some Live) (sym (h (contents_in image) (whole_of image) (tables_of rows legal image parts tables is none space catalog trees) f.loaded))

-- nothing is found: it has its form and is sound
pub sound_live : (image : ImageContents) → live_part_finding image (whole_in image.live) ≡ None → HasSoundLive image
sound_live image none = by (whole_in image.live) refl none
  where
    passed : (b : Bool) → (if b then None else Some Live) ≡ None → b ≡ true
    passed true e = refl
    passed false e = none_some Live (sym e)

    by : (o : Option LivePart) → whole_in image.live ≡ o → live_part_finding image o ≡ None → HasSoundLive image
    by None e found = none_some Live (sym found)
    by (Some whole) e found =
        let same : whole_of image ≡ whole = ap (λ (o : Option LivePart). unwrap_or o (record { sessions = []; held = [] })) e in
        record {
          formed = e ∙ ap Some (sym same);
          sound = ap (is_sound_live image.number (contents_in image)) same ∙ passed (is_sound_live image.number (contents_in image) whole) found;
        }
