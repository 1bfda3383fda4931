-- Whether a held change is sound by itself, test by test.
use Rattle.std.proofs.Common.{◌≡◌, ℕ, ◌<◌, ◌≤◌, Bool, true, false, List, [], Some, None, sym, ap, ◌∙◌, arith}
use Rattle.std.specs.Prelude.{◌&&◌, nat_le, Result, Ok, Err, IfOk}
use Rattle.std.proofs.lemmas.Bool.Decides.{nat_tests}
use Rattle.common_lemmas.proofs.Booleans.{and_false}
use Rattle.image_contents.specs.RowsRead.{contents_read}
use Rattle.image_contents.specs.declared.rows.table.TableRows.{TableRows}
use Rattle.image_findings.specs.LiveFindings.{is_placed, is_sound_change, is_sound_of}
use Rattle.image_findings.specs.TableContents.{TableContents, contents_with_id}
use Rattle.version_cleanup.specs.LiveSessions.{LiveState}
use Rattle.version_store.specs.HeldChanges.{HeldChange}
use Rattle.image_live.proofs.RowsFound.{none_sound, sound_found}
use Rattle.image_live.specs.TablesRead.{AreTablesOf, FindsRows}
use Rattle.image_live.specs.declared.tables.ImageTables.{ImageTables}

not_made : (number entry : ℕ) → number < entry → nat_le entry number ≡ false
not_made number entry lt = grind (arith, nat_tests)

made : (number entry : ℕ) → entry ≤ number → nat_le entry number ≡ true
made number entry le = grind (arith, nat_tests)

pub above : (number : ℕ) (tables : List TableContents) (sessions : List LiveState) (h : HeldChange) → number < h.number → false ≡ is_sound_change number tables sessions h
above number tables sessions h lt = sym (ap (λ b. b && (is_placed number sessions h h.status && is_sound_of number h (contents_with_id tables h.table))) (not_made number h.number lt))

pub misplaced : (number : ℕ) (tables : List TableContents) (sessions : List LiveState) (h : HeldChange) → is_placed number sessions h h.status ≡ false → false ≡ is_sound_change number tables sessions h
misplaced number tables sessions h refused = sym (ap (λ b. nat_le h.number number && (b && is_sound_of number h (contents_with_id tables h.table))) refused ∙ and_false (nat_le h.number number))

left : (number : ℕ) (tables : List TableContents) (sessions : List LiveState) (h : HeldChange) → h.number ≤ number → is_placed number sessions h h.status ≡ true → is_sound_change number tables sessions h ≡ is_sound_of number h (contents_with_id tables h.table)
left number tables sessions h le placed =
    ap (λ b. b && (is_placed number sessions h h.status && is_sound_of number h (contents_with_id tables h.table))) (made number h.number le)
    ∙ ap (λ b. b && is_sound_of number h (contents_with_id tables h.table)) placed

pub of_none : (number : ℕ) (tables : List TableContents) (sessions : List LiveState) (h : HeldChange) → h.number ≤ number → is_placed number sessions h h.status ≡ true → FindsRows number (contents_with_id tables h.table) None → false ≡ is_sound_change number tables sessions h
of_none number tables sessions h le placed of = none_sound number (contents_with_id tables h.table) h of ∙ sym (left number tables sessions h le placed)

pub of_rows : {E : Type 0} (image : ImageTables) (sessions : List LiveState) (h : HeldChange) (rows : TableRows) (r : Result Bool E) → h.number ≤ image.number → is_placed image.number sessions h h.status ≡ true
    → ((tables : List TableContents) → AreTablesOf image tables → FindsRows image.number (contents_with_id tables h.table) (Some rows)) → IfOk r (λ sound. sound ≡ is_sound_of rows.number h (Some (contents_read rows [])))
    → IfOk r (λ sound. (tables : List TableContents) → AreTablesOf image tables → sound ≡ is_sound_change image.number tables sessions h)
of_rows image sessions h rows (Ok sound) le placed of is =
    λ tables are. is ∙ sound_found image.number (contents_with_id tables h.table) rows h (of tables are) ∙ sym (left image.number tables sessions h le placed)
of_rows image sessions h rows (Err fault) le placed of is = is
