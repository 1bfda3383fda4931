-- Entries field by field and as they are written, and which bytes are a front of one.
use Rattle.std.proofs.Common.{◌≡◌, ℕ, zero, suc, ◌+◌, ◌-◌, ◌^◌, ◌<◌, ◌≤◌, Bool, true, false, ltb, leb, eqb, ◌&&◌, List, [], ◌∷◌, ◌++◌, length, take, drop, Option, Some, None, refl, sym, ap, subst, ◌∙◌, arith, ◌⊎◌}
use Rattle.std.specs.Prelude.{not}
use Rattle.std.specs.Int.{w16, w32, to_le_bytes, from_le_bytes, cast_signed, cast_unsigned}
use Rattle.std.specs.List.{list_all}
use Rattle.std.proofs.lemmas.Bool.{and_parts, and_from, leb-true, ltb-true, lt-ltb}
use Rattle.std.proofs.lemmas.Int.{of_z-to_z}
use Rattle.std.proofs.lemmas.List.{append-nil, length-append}
use Rattle.jet_base.specs.Ids.{column_id, index_id, session_id, table_id}
use Rattle.column_set.specs.declared.changes.Change.TheVariants as change
use Rattle.column_set.specs.NumberReading.{number_at, IsBytes}
use Rattle.index_derive.specs.declared.log.Entry.{Entry}
use Rattle.index_derive.specs.declared.log.EntryKind.{EntryKind}
use Rattle.index_derive.specs.declared.log.EntryKind.TheVariants as kind
use Rattle.index_derive.specs.declared.schema_calls.SchemaStep.{SchemaStep}
use Rattle.index_derive.specs.declared.schema_calls.SchemaStep.TheVariants as schema
use Rattle.log_grammar.specs.EntryBytes.{IsCut, amount_fits, bookmark_bytes, bookmark_fits, column_bytes, column_fits, copied_bytes, copied_fits, entry_rest, entry_tag, has_spelling, index_bytes, index_fits, kind_bytes, kind_fits, name_bytes, name_fits, record_bytes, record_fits, schema_bytes, schema_fits, schema_kind}
use Rattle.log_record.specs.EntryCuts.{after, within, rest_cut, front_cut}
use Rattle.log_record.proofs.CutChanges.{CopiedThen, Number16, Number32, Nothing}
use Rattle.log_record.proofs.CutEntries.{IsRest, cut_by_length, cut_from_length}
use Rattle.log_record.proofs.CutFields.{BookmarkThen}
use Rattle.log_record.proofs.CutKinds.{here, other, KindSpelled, RestSpelled, SchemaSpelled, StepSpelled, decides_rest}
use Rattle.log_record.proofs.CutLaws.{Ends}
use Rattle.log_record.proofs.CutPuts.{Bookmark, bookmark_of, bookmark_then, copied_of, copied_then}
use Rattle.log_record.proofs.CutRules.{column_from, column_then, index_from, index_then, name_of, name_then, small_of, small_then}
use Rattle.log_record.proofs.CutSchemas.{ColumnSpelled, IndexSpelled, NameSpelled, within_is, within_from}
use Rattle.log_record.proofs.CutShort.{short_is_cut}
use Rattle.log_record.proofs.CutSteps.{too_short}
use Rattle.log_grammar.proofs.KindLaws.{amount_is}
use Rattle.log_grammar.proofs.Laws.{laws32}
use Rattle.log_grammar.proofs.Fits.{amount_small}

-- ---- numbers at the end

pub table_then : (n : ℕ) (bytes behind : List ℕ) (Rest : List ℕ → Type 0) → ltb n (2 ^ 32) ≡ true → bytes ≡ to_le_bytes w32 n ++ behind → Rest behind → Number32 Rest bytes
table_then n bytes behind Rest small written rest = record { first = n; behind = behind; first_fits = small; parts = written; goes_on = rest }

id_then : (n : ℕ) (bytes behind : List ℕ) (Rest : List ℕ → Type 0) → ltb n (2 ^ 16) ≡ true → bytes ≡ to_le_bytes w16 n ++ behind → Rest behind → Number16 Rest bytes
id_then n bytes behind Rest small written rest = record { first = n; behind = behind; first_fits = small; parts = written; goes_on = rest }

-- a number with nothing behind it
alone32 : (bytes : List ℕ) (c : Number32 Nothing bytes) → bytes ≡ to_le_bytes w32 c.first
alone32 bytes c = c.parts ∙ ap (λ (t : List ℕ). to_le_bytes w32 c.first ++ t) c.goes_on ∙ append-nil (to_le_bytes w32 c.first)

alone16 : (bytes : List ℕ) (c : Number16 Nothing bytes) → bytes ≡ to_le_bytes w16 c.first
alone16 bytes c = c.parts ∙ ap (λ (t : List ℕ). to_le_bytes w16 c.first ++ t) c.goes_on ∙ append-nil (to_le_bytes w16 c.first)

-- a bookmark with nothing behind it
alone_bookmark : (bytes : List ℕ) (c : Bookmark Nothing bytes) → bytes ≡ bookmark_bytes c.first
alone_bookmark bytes c = c.parts ∙ ap (λ (t : List ℕ). bookmark_bytes c.first ++ t) c.goes_on ∙ append-nil (bookmark_bytes c.first)

-- ---- schema changes

record IsStep (number : ℕ) (bytes : List ℕ) : Type 0 where
  step : SchemaStep
  kind_is : schema_kind step ≡ number
  fits : schema_fits step ≡ true
  written : bytes ≡ schema_bytes step

step_of : (number : ℕ) (bytes : List ℕ) → StepSpelled number bytes → IsStep number bytes
step_of number bytes (here is h) =
    let n = name_of h.behind h.goes_on in
    record { step = schema.CreateTable (table_id h.first) n.name; kind_is = sym is; fits = and_from (ltb h.first (2 ^ 32)) (name_fits n.name) h.first_fits n.fits; written = h.parts ∙ ap (λ (t : List ℕ). to_le_bytes w32 h.first ++ t) n.written }
step_of number bytes (other n1 (here is h)) = record { step = schema.DeleteTable (table_id h.first); kind_is = sym is; fits = h.first_fits; written = alone32 bytes h }
step_of number bytes (other n1 (other n2 (here is h))) =
    let i = h.goes_on in
    let c = column_from i.first i.behind i.first_fits i.goes_on in
    record {
      step = schema.AddColumn (table_id h.first) c.column;
      kind_is = sym is;
      fits = and_from (ltb h.first (2 ^ 32)) (column_fits c.column) h.first_fits c.fits;
      written = h.parts ∙ ap (λ (t : List ℕ). to_le_bytes w32 h.first ++ t) (i.parts ∙ (λ k. to_le_bytes w16 (sym c.id_is k) ++ c.written k));
    }
step_of number bytes (other n1 (other n2 (other n3 (here is h)))) =
    record { step = schema.DeleteColumn (table_id h.first) (column_id h.goes_on.first); kind_is = sym is; fits = and_from (ltb h.first (2 ^ 32)) (ltb h.goes_on.first (2 ^ 16)) h.first_fits h.goes_on.first_fits; written = h.parts ∙ ap (λ (t : List ℕ). to_le_bytes w32 h.first ++ t) (alone16 h.behind h.goes_on) }
step_of number bytes (other n1 (other n2 (other n3 (other n4 (here is h))))) =
    let i = h.goes_on in
    let c = index_from i.first i.behind i.first_fits i.goes_on in
    record {
      step = schema.CreateIndex (table_id h.first) c.index;
      kind_is = sym is;
      fits = and_from (ltb h.first (2 ^ 32)) (index_fits c.index) h.first_fits c.fits;
      written = h.parts ∙ ap (λ (t : List ℕ). to_le_bytes w32 h.first ++ t) (i.parts ∙ (λ k. to_le_bytes w16 (sym c.id_is k) ++ c.written k));
    }
step_of number bytes (other n1 (other n2 (other n3 (other n4 (other n5 (here is h)))))) =
    record { step = schema.DeleteIndex (table_id h.first) (index_id h.goes_on.first); kind_is = sym is; fits = and_from (ltb h.first (2 ^ 32)) (ltb h.goes_on.first (2 ^ 16)) h.first_fits h.goes_on.first_fits; written = h.parts ∙ ap (λ (t : List ℕ). to_le_bytes w32 h.first ++ t) (alone16 h.behind h.goes_on) }
step_of number bytes (other n1 (other n2 (other n3 (other n4 (other n5 (other n6 none)))))) = absurd none

step_then : (step : SchemaStep) (bytes : List ℕ) → schema_fits step ≡ true → bytes ≡ schema_bytes step → StepSpelled (schema_kind step) bytes
step_then (schema.CreateTable table name) bytes fits written =
    let p = and_parts (ltb table.0 (2 ^ 32)) (name_fits name) fits in
    here refl (table_then table.0 bytes (name_bytes name) NameSpelled p.0 written (name_then name (name_bytes name) p.1 refl))
step_then (schema.DeleteTable table) bytes fits written =
    other (λ e. absurd (omega (arith, e))) (here refl (table_then table.0 bytes [] Nothing fits (written ∙ sym (append-nil (to_le_bytes w32 table.0))) refl))
step_then (schema.AddColumn table column) bytes fits written =
    let p = and_parts (ltb table.0 (2 ^ 32)) (column_fits column) fits in
    let small = (and_parts (ltb column.id.0 (2 ^ 16)) (name_fits column.name && (not column.version && not column.auto)) p.1).0 in
    let behind = to_le_bytes w16 column.id.0 ++ column_bytes column in
    other (λ e. absurd (omega (arith, e))) (other (λ e. absurd (omega (arith, e))) (here refl
    (table_then table.0 bytes behind (Number16 ColumnSpelled) p.0 written (id_then column.id.0 behind (column_bytes column) ColumnSpelled small refl (column_then column (column_bytes column) p.1 refl)))))
step_then (schema.DeleteColumn table column) bytes fits written =
    let p = and_parts (ltb table.0 (2 ^ 32)) (ltb column.0 (2 ^ 16)) fits in
    other (λ e. absurd (omega (arith, e))) (other (λ e. absurd (omega (arith, e))) (other (λ e. absurd (omega (arith, e))) (here refl
    (table_then table.0 bytes (to_le_bytes w16 column.0) (Number16 Nothing) p.0 written (id_then column.0 (to_le_bytes w16 column.0) [] Nothing p.1 (sym (append-nil (to_le_bytes w16 column.0))) refl)))))
step_then (schema.CreateIndex table index) bytes fits written =
    let p = and_parts (ltb table.0 (2 ^ 32)) (index_fits index) fits in
    let small = (and_parts (ltb index.id.0 (2 ^ 16)) _ p.1).0 in
    let behind = to_le_bytes w16 index.id.0 ++ index_bytes index in
    other (λ e. absurd (omega (arith, e))) (other (λ e. absurd (omega (arith, e))) (other (λ e. absurd (omega (arith, e))) (other (λ e. absurd (omega (arith, e))) (here refl
    (table_then table.0 bytes behind (Number16 IndexSpelled) p.0 written (id_then index.id.0 behind (index_bytes index) IndexSpelled small refl (index_then index (index_bytes index) p.1 refl)))))))
step_then (schema.DeleteIndex table index) bytes fits written =
    let p = and_parts (ltb table.0 (2 ^ 32)) (ltb index.0 (2 ^ 16)) fits in
    other (λ e. absurd (omega (arith, e))) (other (λ e. absurd (omega (arith, e))) (other (λ e. absurd (omega (arith, e))) (other (λ e. absurd (omega (arith, e))) (other (λ e. absurd (omega (arith, e))) (here refl
    (table_then table.0 bytes (to_le_bytes w16 index.0) (Number16 Nothing) p.0 written (id_then index.0 (to_le_bytes w16 index.0) [] Nothing p.1 (sym (append-nil (to_le_bytes w16 index.0))) refl)))))))

-- ---- kinds

record IsKind (tag : ℕ) (bytes : List ℕ) : Type 0 where
  kind : EntryKind
  tagged : entry_tag kind ≡ tag
  fits : kind_fits kind ≡ true
  written : bytes ≡ kind_bytes kind

-- the tags of entries with fields
has_fields : ℕ → Bool
has_fields tag = not (list_all (λ n. not (eqb tag n)) (3 ∷ 4 ∷ 7 ∷ 8 ∷ 9 ∷ 10 ∷ 15 ∷ []))

record Bare (tag : ℕ) : Type 0 where
  kind : EntryKind
  tagged : entry_tag kind ≡ tag
  fits : kind_fits kind ≡ true
  none : kind_bytes kind ≡ []

bare : (tag : ℕ) → 1 ≤ tag → tag ≤ 14 → (tag ≡ 3 → ⊥) → (tag ≡ 4 → ⊥) → (tag ≡ 7 → ⊥) → (tag ≡ 8 → ⊥) → (tag ≡ 9 → ⊥) → (tag ≡ 10 → ⊥) → Bare tag
bare zero l h n3 n4 n7 n8 n9 n10 = absurd (omega (arith, l))
bare (suc zero) l h n3 n4 n7 n8 n9 n10 = record { kind = kind.Enter; tagged = refl; fits = refl; none = refl }
bare (suc (suc zero)) l h n3 n4 n7 n8 n9 n10 = record { kind = kind.Leave; tagged = refl; fits = refl; none = refl }
bare (suc (suc (suc zero))) l h n3 n4 n7 n8 n9 n10 = absurd (n3 refl)
bare (suc (suc (suc (suc zero)))) l h n3 n4 n7 n8 n9 n10 = absurd (n4 refl)
bare (suc (suc (suc (suc (suc zero))))) l h n3 n4 n7 n8 n9 n10 = record { kind = kind.Begin; tagged = refl; fits = refl; none = refl }
bare (suc (suc (suc (suc (suc (suc zero)))))) l h n3 n4 n7 n8 n9 n10 = record { kind = kind.Save; tagged = refl; fits = refl; none = refl }
bare (suc (suc (suc (suc (suc (suc (suc zero))))))) l h n3 n4 n7 n8 n9 n10 = absurd (n7 refl)
bare (suc (suc (suc (suc (suc (suc (suc (suc zero)))))))) l h n3 n4 n7 n8 n9 n10 = absurd (n8 refl)
bare (suc (suc (suc (suc (suc (suc (suc (suc (suc zero))))))))) l h n3 n4 n7 n8 n9 n10 = absurd (n9 refl)
bare (suc (suc (suc (suc (suc (suc (suc (suc (suc (suc zero)))))))))) l h n3 n4 n7 n8 n9 n10 = absurd (n10 refl)
bare (suc (suc (suc (suc (suc (suc (suc (suc (suc (suc (suc zero))))))))))) l h n3 n4 n7 n8 n9 n10 = record { kind = kind.Release; tagged = refl; fits = refl; none = refl }
bare (suc (suc (suc (suc (suc (suc (suc (suc (suc (suc (suc (suc zero)))))))))))) l h n3 n4 n7 n8 n9 n10 = record { kind = kind.Undo; tagged = refl; fits = refl; none = refl }
bare (suc (suc (suc (suc (suc (suc (suc (suc (suc (suc (suc (suc (suc zero))))))))))))) l h n3 n4 n7 n8 n9 n10 = record { kind = kind.UndoAll; tagged = refl; fits = refl; none = refl }
bare (suc (suc (suc (suc (suc (suc (suc (suc (suc (suc (suc (suc (suc (suc zero)))))))))))))) l h n3 n4 n7 n8 n9 n10 = record { kind = kind.Commit; tagged = refl; fits = refl; none = refl }
bare (suc (suc (suc (suc (suc (suc (suc (suc (suc (suc (suc (suc (suc (suc (suc n))))))))))))))) l h n3 n4 n7 n8 n9 n10 = absurd (omega (arith, h))

kind_of : (tag : ℕ) (bytes : List ℕ) → KindSpelled tag bytes → IsKind tag bytes
kind_of tag bytes (here is h) = record { kind = kind.Open (table_id h.first); tagged = sym is; fits = h.first_fits; written = alone32 bytes h }
kind_of tag bytes (other n3 (here is h)) = record { kind = kind.Shut (table_id h.first); tagged = sym is; fits = h.first_fits; written = alone32 bytes h }
kind_of tag bytes (other n3 (other n4 (here is h))) =
    let b = bookmark_of CopiedThen h.behind h.goes_on in
    let c = copied_of b.behind b.goes_on in
    record {
      kind = kind.Change (change.Put (table_id h.first) b.first c.copied c.fields);
      tagged = sym is;
      fits = and_from (ltb h.first (2 ^ 32)) (bookmark_fits b.first && (copied_fits c.copied && record_fits c.fields)) h.first_fits
          (and_from (bookmark_fits b.first) (copied_fits c.copied && record_fits c.fields) b.first_fits (and_from (copied_fits c.copied) (record_fits c.fields) c.copied_fits_true c.fits));
      written = h.parts ∙ ap (λ (t : List ℕ). to_le_bytes w32 h.first ++ t) (b.parts ∙ ap (λ (t : List ℕ). bookmark_bytes b.first ++ t) c.written);
    }
kind_of tag bytes (other n3 (other n4 (other n7 (here is h)))) =
    let b = bookmark_of Nothing h.behind h.goes_on in
    record { kind = kind.Change (change.Drop (table_id h.first) b.first); tagged = sym is; fits = and_from (ltb h.first (2 ^ 32)) (bookmark_fits b.first) h.first_fits b.first_fits; written = h.parts ∙ ap (λ (t : List ℕ). to_le_bytes w32 h.first ++ t) (alone_bookmark h.behind b) }
kind_of tag bytes (other n3 (other n4 (other n7 (other n8 (here is h))))) =
    let b = bookmark_of (Number16 (Number32 Nothing)) h.behind h.goes_on in
    let c = b.goes_on in
    let a = c.goes_on in
    let lt : a.first < 2 ^ 32 = ltb-true _ _ a.first_fits in
    let amount = cast_signed w32 a.first in
    record {
      kind = kind.Change (change.Add (table_id h.first) b.first (column_id c.first) amount);
      tagged = sym is;
      fits = and_from (ltb h.first (2 ^ 32)) (bookmark_fits b.first && (ltb c.first (2 ^ 16) && amount_fits amount)) h.first_fits
          (and_from (bookmark_fits b.first) (ltb c.first (2 ^ 16) && amount_fits amount) b.first_fits (and_from (ltb c.first (2 ^ 16)) (amount_fits amount) c.first_fits (amount_is a.first lt)));
      written = h.parts ∙ ap (λ (t : List ℕ). to_le_bytes w32 h.first ++ t) (b.parts ∙ ap (λ (t : List ℕ). bookmark_bytes b.first ++ t) (c.parts ∙ ap (λ (t : List ℕ). to_le_bytes w16 c.first ++ t) (alone32 c.behind a ∙ ap (to_le_bytes w32) (sym (of_z-to_z w32 a.first lt)))));
    }
kind_of tag bytes (other n3 (other n4 (other n7 (other n8 (other n9 (here is h)))))) =
    let b = bookmark_of Nothing h.behind h.goes_on in
    record { kind = kind.Change (change.Hold (table_id h.first) b.first); tagged = sym is; fits = and_from (ltb h.first (2 ^ 32)) (bookmark_fits b.first) h.first_fits b.first_fits; written = h.parts ∙ ap (λ (t : List ℕ). to_le_bytes w32 h.first ++ t) (alone_bookmark h.behind b) }
kind_of tag bytes (other n3 (other n4 (other n7 (other n8 (other n9 (other n10 (here is h))))))) =
    let s = step_of h.first h.behind h.goes_on in
    record { kind = kind.Schema s.step; tagged = sym is; fits = s.fits; written = h.parts ∙ (λ k. sym s.kind_is k ∷ s.written k) }
kind_of tag bytes (other n3 (other n4 (other n7 (other n8 (other n9 (other n10 (other n15 w))))))) =
    let p = within_is 1 14 tag w.holds_true in
    let b = bare tag p.0 p.1 n3 n4 n7 n8 n9 n10 in
    record { kind = b.kind; tagged = b.tagged; fits = b.fits; written = w.rest ∙ sym b.none }

differs : (tag n : ℕ) → has_fields tag ≡ false → has_fields n ≡ true → tag ≡ n → ⊥
differs tag n bare_tag full is = true_false (sym full ∙ sym (ap has_fields is) ∙ bare_tag) where
  true_false : true ≡ false → ⊥
  true_false h = absurd cc

bare_then : (tag : ℕ) (bytes : List ℕ) → within 1 14 tag ≡ true → has_fields tag ≡ false → bytes ≡ [] → KindSpelled tag bytes
unfolding has_fields
bare_then tag bytes w f none =
    other (differs tag 3 f refl) (other (differs tag 4 f refl) (other (differs tag 7 f refl) (other (differs tag 8 f refl) (other (differs tag 9 f refl) (other (differs tag 10 f refl) (other (differs tag 15 f refl) (record { holds_true = w; rest = none })))))))

bookmark_alone : (bookmark : List ℕ) → bookmark_fits bookmark ≡ true → BookmarkThen Nothing (bookmark_bytes bookmark)
bookmark_alone bookmark fits = bookmark_then Nothing (bookmark_bytes bookmark) (record { first = bookmark; behind = []; first_fits = fits; parts = sym (append-nil (bookmark_bytes bookmark)); goes_on = refl })

kind_then : (k : EntryKind) (bytes : List ℕ) → kind_fits k ≡ true → bytes ≡ kind_bytes k → KindSpelled (entry_tag k) bytes
unfolding has_fields
kind_then kind.Enter bytes fits written = bare_then 1 bytes refl refl written
kind_then kind.Leave bytes fits written = bare_then 2 bytes refl refl written
kind_then (kind.Open table) bytes fits written = here refl (table_then table.0 bytes [] Nothing fits (written ∙ sym (append-nil (to_le_bytes w32 table.0))) refl)
kind_then (kind.Shut table) bytes fits written = other (λ e. absurd (omega (arith, e))) (here refl (table_then table.0 bytes [] Nothing fits (written ∙ sym (append-nil (to_le_bytes w32 table.0))) refl))
kind_then kind.Begin bytes fits written = bare_then 5 bytes refl refl written
kind_then kind.Save bytes fits written = bare_then 6 bytes refl refl written
kind_then (kind.Change (change.Put table bookmark copied values)) bytes fits written =
    let a = and_parts (ltb table.0 (2 ^ 32)) (bookmark_fits bookmark && (copied_fits copied && record_fits values)) fits in
    let b = and_parts (bookmark_fits bookmark) (copied_fits copied && record_fits values) a.1 in
    let c = and_parts (copied_fits copied) (record_fits values) b.1 in
    let rest = copied_bytes copied ++ record_bytes values in
    let behind = bookmark_bytes bookmark ++ rest in
    other (λ e. absurd (omega (arith, e))) (other (λ e. absurd (omega (arith, e))) (here refl (table_then table.0 bytes behind (BookmarkThen CopiedThen) a.0 written
    (bookmark_then CopiedThen behind (record { first = bookmark; behind = rest; first_fits = b.0; parts = refl; goes_on = copied_then copied values rest c.0 c.1 refl })))))
kind_then (kind.Change (change.Drop table bookmark)) bytes fits written =
    let a = and_parts (ltb table.0 (2 ^ 32)) (bookmark_fits bookmark) fits in
    other (λ e. absurd (omega (arith, e))) (other (λ e. absurd (omega (arith, e))) (other (λ e. absurd (omega (arith, e))) (here refl (table_then table.0 bytes (bookmark_bytes bookmark) (BookmarkThen Nothing) a.0 written (bookmark_alone bookmark a.1)))))
kind_then (kind.Change (change.Add table bookmark column amount)) bytes fits written =
    let a = and_parts (ltb table.0 (2 ^ 32)) (bookmark_fits bookmark && (ltb column.0 (2 ^ 16) && amount_fits amount)) fits in
    let b = and_parts (bookmark_fits bookmark) (ltb column.0 (2 ^ 16) && amount_fits amount) a.1 in
    let c = and_parts (ltb column.0 (2 ^ 16)) (amount_fits amount) b.1 in
    let n = cast_unsigned w32 amount in
    let last = to_le_bytes w32 n in
    let rest = to_le_bytes w16 column.0 ++ last in
    let behind = bookmark_bytes bookmark ++ rest in
    let Last = Number16 (Number32 Nothing) in
    let amount_alone : Number32 Nothing last = table_then n last [] Nothing (lt-ltb n (2 ^ 32) (amount_small amount c.1)) (sym (append-nil last)) refl in
    other (λ e. absurd (omega (arith, e))) (other (λ e. absurd (omega (arith, e))) (other (λ e. absurd (omega (arith, e))) (other (λ e. absurd (omega (arith, e))) (here refl (table_then table.0 bytes behind (BookmarkThen Last) a.0 written
    (bookmark_then Last behind (record { first = bookmark; behind = rest; first_fits = b.0; parts = refl; goes_on = id_then column.0 rest last (Number32 Nothing) c.0 refl amount_alone })))))))
kind_then (kind.Change (change.Hold table bookmark)) bytes fits written =
    let a = and_parts (ltb table.0 (2 ^ 32)) (bookmark_fits bookmark) fits in
    other (λ e. absurd (omega (arith, e))) (other (λ e. absurd (omega (arith, e))) (other (λ e. absurd (omega (arith, e))) (other (λ e. absurd (omega (arith, e))) (other (λ e. absurd (omega (arith, e))) (here refl (table_then table.0 bytes (bookmark_bytes bookmark) (BookmarkThen Nothing) a.0 written (bookmark_alone bookmark a.1)))))))
kind_then kind.Release bytes fits written = bare_then 11 bytes refl refl written
kind_then kind.Undo bytes fits written = bare_then 12 bytes refl refl written
kind_then kind.UndoAll bytes fits written = bare_then 13 bytes refl refl written
kind_then kind.Commit bytes fits written = bare_then 14 bytes refl refl written
kind_then (kind.Schema step) bytes fits written =
    let s : SchemaSpelled bytes = record { first = schema_kind step; behind = schema_bytes step; first_fits = step_small step; parts = written; goes_on = step_then step (schema_bytes step) fits refl } in
    other (λ e. absurd (omega (arith, e))) (other (λ e. absurd (omega (arith, e))) (other (λ e. absurd (omega (arith, e))) (other (λ e. absurd (omega (arith, e))) (other (λ e. absurd (omega (arith, e))) (other (λ e. absurd (omega (arith, e))) (here refl s))))))
  where
    step_small : (x : SchemaStep) → ltb (schema_kind x) 256 ≡ true
    step_small (schema.CreateTable t n) = refl
    step_small (schema.DeleteTable t) = refl
    step_small (schema.AddColumn t c) = refl
    step_small (schema.DeleteColumn t c) = refl
    step_small (schema.CreateIndex t i) = refl
    step_small (schema.DeleteIndex t i) = refl

-- ---- entries

tag_small : (k : EntryKind) → ltb (entry_tag k) 256 ≡ true
tag_small kind.Enter = refl
tag_small kind.Leave = refl
tag_small (kind.Open table) = refl
tag_small (kind.Shut table) = refl
tag_small kind.Begin = refl
tag_small kind.Save = refl
tag_small (kind.Change (change.Put table bookmark copied values)) = refl
tag_small (kind.Change (change.Drop table bookmark)) = refl
tag_small (kind.Change (change.Add table bookmark column amount)) = refl
tag_small (kind.Change (change.Hold table bookmark)) = refl
tag_small kind.Release = refl
tag_small kind.Undo = refl
tag_small kind.UndoAll = refl
tag_small kind.Commit = refl
tag_small (kind.Schema step) = refl

rest_then : (bytes : List ℕ) → IsRest bytes → RestSpelled bytes
unfolding has_spelling
rest_then bytes r =
    let session = r.entry.session.0 in
    let k = r.entry.kind in
    let a = and_parts (leb 1 session && leb session 99) (kind_fits k && ltb (length (entry_rest r.entry)) (2 ^ 32)) r.spelled in
    let l = and_parts (leb 1 session) (leb session 99) a.0 in
    let b = and_parts (kind_fits k) (ltb (length (entry_rest r.entry)) (2 ^ 32)) a.1 in
    let behind = to_le_bytes w32 session ++ kind_bytes k in
    record {
      first = entry_tag k;
      behind = behind;
      first_fits = tag_small k;
      parts = r.rest;
      goes_on = small_then 1 99 (KindSpelled (entry_tag k)) behind (omega arith) session (kind_bytes k) (leb-true _ _ l.0) (leb-true _ _ l.1) refl (kind_then k (kind_bytes k) b.0 refl);
    }

rest_of : (bytes : List ℕ) → length bytes < 2 ^ 32 → RestSpelled bytes → IsRest bytes
unfolding has_spelling
rest_of bytes short r =
    let s = small_of 1 99 (KindSpelled r.first) r.behind r.goes_on in
    let k = kind_of r.first s.behind s.rest in
    let entry : Entry = record { session = session_id s.number; kind = k.kind } in
    let rest : bytes ≡ entry_rest entry = r.parts ∙ (λ j. sym k.tagged j ∷ (s.written ∙ ap (λ (t : List ℕ). to_le_bytes w32 s.number ++ t) k.written) j) in
    record {
      entry = entry;
      spelled = and_from (leb 1 s.number && leb s.number 99) (kind_fits k.kind && ltb (length (entry_rest entry)) (2 ^ 32)) (within_from 1 99 s.number s.least s.most)
          (and_from (kind_fits k.kind) (ltb (length (entry_rest entry)) (2 ^ 32)) k.fits (lt-ltb _ _ (subst (λ b. length b < 2 ^ 32) rest short)));
      rest = rest;
    }

-- ---- fronts

from_test : (bytes : List ℕ) → IsBytes bytes → (o : Option (ℕ × List ℕ)) → number_at w32 bytes ≡ o → after o (λ count rest none. ltb (length rest) count && rest_cut rest (count - length rest)) 0 true ≡ true → IsCut bytes
from_test bytes b None is h = short_is_cut bytes b (too_short (length bytes) 4 (from_le_bytes w32 (take 4 bytes), drop 4 bytes) is)
from_test bytes b (Some x) is h =
    let count = x.0 in
    let rest = x.1 in
    let missing = count - length rest in
    let p = and_parts (ltb (length rest) count) (rest_cut rest missing) h in
    let lt : length rest < count = ltb-true _ _ p.0 in
    let t = laws32.takes bytes x b is in
    let few : count < 2 ^ 32 = ltb-true _ _ t.1 in
    let e = decides_rest.sound rest missing t.0.rest_fits (omega (arith, few)) p.1 in
    let size : length (rest ++ e.more) ≡ count = length-append rest e.more ∙ omega (arith, e.many, lt) in
    cut_from_length bytes rest count b is (record {
      missing = missing - 1;
      counted = omega (arith, lt);
      ends = record { more = e.more; many = e.many ∙ omega (arith, lt); whole = rest_of (rest ++ e.more) (omega (arith, size, few)) e.whole };
    })

pub cut_from_test : (bytes : List ℕ) → IsBytes bytes → front_cut bytes ≡ true → IsCut bytes
cut_from_test bytes b h = from_test bytes b (number_at w32 bytes) refl h

to_test : (bytes : List ℕ) → IsBytes bytes → (o : Option (ℕ × List ℕ)) → number_at w32 bytes ≡ o → IsCut bytes → after o (λ count rest none. ltb (length rest) count && rest_cut rest (count - length rest)) 0 true ≡ true
to_test bytes b None is c = refl
to_test bytes b (Some x) is c =
    let count = x.0 in
    let rest = x.1 in
    let r = cut_by_length bytes rest count b is c in
    let t = laws32.takes bytes x b is in
    let few : count < 2 ^ 32 = ltb-true _ _ t.1 in
    let missing : suc r.missing ≡ count - length rest = omega (arith, r.counted) in
    let e : Ends RestSpelled rest (suc r.missing) = record { more = r.ends.more; many = r.ends.many; whole = rest_then (rest ++ r.ends.more) r.ends.whole } in
    and_from (ltb (length rest) count) (rest_cut rest (count - length rest)) (lt-ltb _ _ (omega (arith, r.counted)))
    (subst (λ n. rest_cut rest n ≡ true) missing (decides_rest.complete rest (suc r.missing) t.0.rest_fits (omega (arith, r.counted, few)) e))

pub test_from_cut : (bytes : List ℕ) → IsBytes bytes → IsCut bytes → front_cut bytes ≡ true
test_from_cut bytes b c = to_test bytes b (number_at w32 bytes) refl c
