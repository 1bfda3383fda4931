-- Whether a change of a table is sound, as its rows are read.
use Rattle.std.proofs.Common.{◌≡◌, ℕ, List, [], Option, Some, None, refl, sym, ap, subst, ◌∙◌}
use Rattle.std.specs.Prelude.{◌&&◌}
use Rattle.database_state.specs.Table.{Table}
use Rattle.image_contents.specs.RowsRead.{contents_read, values_read}
use Rattle.image_contents.specs.declared.rows.table.TableRows.{TableRows}
use Rattle.image_findings.specs.LiveFindings.{adds_to_sum, is_sound_before, is_sound_of}
use Rattle.image_findings.specs.TableContents.{TableContents, long_values}
use Rattle.long_value.specs.Shown.{shown_values}
use Rattle.page_image.specs.Page.{Node}
use Rattle.version_store.specs.HeldChanges.{HeldChange}
use Rattle.image_live.specs.TablesRead.{AreRowsOf, HasWholeBefore}

-- a table with these nodes of its long values
abbrev with_values : Table → List Node → TableContents
with_values table nodes = record { table = table; nodes = []; value_nodes = nodes; indexes = [] }

before_is : (number : ℕ) (t : TableContents) (h : HeldChange) (before : Option (List ℕ)) → is_sound_before number (with_values t.table t.value_nodes) h before ≡ is_sound_before number t h before
before_is number t h None = refl
before_is number t h (Some bytes) = refl

pub sound_of_is : (number : ℕ) (t : TableContents) (h : HeldChange) (rows : TableRows) → AreRowsOf number t rows → is_sound_of rows.number h (Some (contents_read rows [])) ≡ is_sound_of number h (Some t)
sound_of_is number t h rows of =
    ap (λ (n : ℕ). is_sound_of n h (Some (contents_read rows []))) of.number_is
    ∙ ap (λ (table : Table). is_sound_of number h (Some (with_values table (contents_read rows []).value_nodes))) of.table_is
    ∙ ap (λ (nodes : List Node). is_sound_of number h (Some (with_values t.table nodes))) of.values_are
    ∙ ap (λ b. adds_to_sum t.table h.kind && b) (before_is number t h h.before)

pub values_are : (number : ℕ) (t : TableContents) (h : HeldChange) (rows : TableRows) → AreRowsOf number t rows → HasWholeBefore (long_values t) h → HasWholeBefore (values_read rows) h
values_are number t h rows of whole = subst (λ (nodes : List Node). HasWholeBefore (shown_values nodes) h) (sym of.values_are) whole
