-- Changes of records, field by field and as they are written.
use Rattle.std.proofs.Common.{◌≡◌, ℕ, zero, suc, ◌+◌, ◌^◌, ◌<◌, ◌≤◌, true, ltb, leb, ◌&&◌, List, [], ◌∷◌, ◌++◌, length, Option, Some, None, refl, sym, ap, subst, ◌∙◌, append_assoc, arith}
use Rattle.std.specs.Int.{w16, w32, to_le_bytes}
use Rattle.std.specs.List.{flat_map, list_all}
use Rattle.std.proofs.lemmas.Bool.{and_parts, and_from, eqb-true, eq-eqb, lt-ltb}
use Rattle.std.proofs.lemmas.List.Concat.{flat_map-cons}
use Rattle.column_set.specs.Record.{is_record}
use Rattle.column_set.specs.RecordValues.{RecordFields}
use Rattle.column_set.specs.Rows.{record_values_in_order}
use Rattle.log_grammar.specs.EntryBytes.{bookmark_bytes, bookmark_fits, copied_bytes, copied_fits, record_bytes, record_fits, value_bytes, value_fits}
use Rattle.log_record.specs.EntryCuts.{bookmark_size}
use Rattle.log_grammar.specs.EntryReading.{grouped}
use Rattle.log_record.proofs.CutLaws.{Then}
use Rattle.log_record.proofs.CutFields.{BookmarkThen, bookmark_size_parts}
use Rattle.log_record.proofs.CutValues.{Values}
use Rattle.log_record.proofs.CutChanges.{CopiedAfter, CopiedThen, RecordSpelled}
use Rattle.log_grammar.proofs.Grouping.{do_not_fall, in_order-grouped, is_record-grouped, values_in_order}
use Rattle.log_grammar.proofs.Values.{record_parts}

-- ---- bookmarks

abbrev pub Bookmark : (List ℕ → Type 0) → List ℕ → Type 0
Bookmark Rest bytes = Then bookmark_bytes bookmark_fits (λ bookmark. Rest) bytes

pub bookmark_of : (Rest : List ℕ → Type 0) (bytes : List ℕ) → BookmarkThen Rest bytes → Bookmark Rest bytes
bookmark_of Rest bytes b =
    let t = b.goes_on.rest in
    let size : length t.first ≡ b.first = eqb-true _ _ t.first_fits in
    record {
      first = t.first;
      behind = t.behind;
      first_fits = ap bookmark_size size ∙ b.goes_on.holds_true;
      parts = b.parts ∙ (λ k. to_le_bytes w16 (sym size k) ++ t.parts k) ∙ sym (append_assoc (to_le_bytes w16 (length t.first)) t.first t.behind);
      goes_on = t.goes_on;
    }

pub bookmark_then : (Rest : List ℕ → Type 0) (bytes : List ℕ) → Bookmark Rest bytes → BookmarkThen Rest bytes
bookmark_then Rest bytes b =
    let p = bookmark_size_parts (length b.first) b.first_fits in
    record {
      first = length b.first;
      behind = b.first ++ b.behind;
      first_fits = lt-ltb (length b.first) (2 ^ 16) (omega (arith, p.1));
      parts = b.parts ∙ append_assoc (to_le_bytes w16 (length b.first)) b.first b.behind;
      goes_on = record { holds_true = b.first_fits; rest = record { first = b.first; behind = b.behind; first_fits = eq-eqb (length b.first) (length b.first) refl; parts = refl; goes_on = b.goes_on } };
    }

-- ---- records

record IsValues (n least : ℕ) (bytes : List ℕ) : Type 0 where
  values : List (ℕ × List ℕ)
  count : length values ≡ n
  order : do_not_fall least values ≡ true
  fits : list_all value_fits values ≡ true
  written : bytes ≡ flat_map value_bytes values

values_of : (n least : ℕ) (bytes : List ℕ) → Values n least bytes → IsValues n least bytes
values_of zero least bytes v = record { values = []; count = refl; order = refl; fits = refl; written = v }
values_of (suc n) least bytes v =
    let column = v.first in
    let s = v.goes_on.rest in
    let t = s.goes_on in
    let r = values_of n column t.behind t.goes_on in
    let size : length t.first ≡ s.first = eqb-true _ _ t.first_fits in
    let value : ℕ × List ℕ = (column, t.first) in
    let short : ltb (length t.first) (2 ^ 32) ≡ true = ap (λ k. ltb k (2 ^ 32)) size ∙ s.first_fits in
    let own : to_le_bytes w16 column ++ (to_le_bytes w32 (length t.first) ++ (t.first ++ flat_map value_bytes r.values)) ≡ flat_map value_bytes (value ∷ r.values) =
    sym (ap (λ (b : List ℕ). to_le_bytes w16 column ++ b) (append_assoc (to_le_bytes w32 (length t.first)) t.first (flat_map value_bytes r.values)))
    ∙ sym (append_assoc (to_le_bytes w16 column) (to_le_bytes w32 (length t.first) ++ t.first) (flat_map value_bytes r.values))
    ∙ sym (flat_map-cons value_bytes value r.values) in
    record {
      values = value ∷ r.values;
      count = ap suc r.count;
      order = and_from (leb least column) (do_not_fall column r.values) v.goes_on.holds_true r.order;
      fits = and_from (value_fits value) (list_all value_fits r.values) (and_from (ltb column (2 ^ 16)) (ltb (length t.first) (2 ^ 32)) v.first_fits short) r.fits;
      written = v.parts ∙ ap (λ (b : List ℕ). to_le_bytes w16 column ++ b) (s.parts ∙ (λ k. to_le_bytes w32 (sym size k) ++ (t.parts ∙ ap (λ (b : List ℕ). t.first ++ b) r.written) k)) ∙ own;
    }

values_then : (values : List (ℕ × List ℕ)) (least : ℕ) (bytes : List ℕ) → do_not_fall least values ≡ true → list_all value_fits values ≡ true → bytes ≡ flat_map value_bytes values → Values (length values) least bytes
values_then [] least bytes order fits written = written
values_then (value ∷ values) least bytes order fits written =
    let o = and_parts (leb least value.0) (do_not_fall value.0 values) order in
    let f = and_parts (value_fits value) (list_all value_fits values) fits in
    let g = and_parts (ltb value.0 (2 ^ 16)) (ltb (length value.1) (2 ^ 32)) f.0 in
    let rest = flat_map value_bytes values in
    record {
      first = value.0;
      behind = to_le_bytes w32 (length value.1) ++ (value.1 ++ rest);
      first_fits = g.0;
      parts = written ∙ flat_map-cons value_bytes value values ∙ append_assoc (to_le_bytes w16 value.0) (to_le_bytes w32 (length value.1) ++ value.1) rest ∙ ap (λ (b : List ℕ). to_le_bytes w16 value.0 ++ b) (append_assoc (to_le_bytes w32 (length value.1)) value.1 rest);
      goes_on = record {
        holds_true = o.0;
        rest = record {
          first = length value.1;
          behind = value.1 ++ rest;
          first_fits = g.1;
          parts = refl;
          goes_on = record { first = value.1; behind = rest; first_fits = eq-eqb (length value.1) (length value.1) refl; parts = refl; goes_on = values_then values value.0 rest o.1 f.1 refl };
        };
      };
    }

pub record IsRecord (bytes : List ℕ) : Type 0 where
  pub fields : RecordFields
  pub fits : record_fits fields ≡ true
  pub written : bytes ≡ record_bytes fields

pub record_of : (bytes : List ℕ) → RecordSpelled bytes → IsRecord bytes
record_of bytes r =
    let v = values_of r.first 0 r.behind r.goes_on in
    let same = in_order-grouped v.values in
    let count : ltb (length v.values) (2 ^ 16) ≡ true = ap (λ k. ltb k (2 ^ 16)) v.count ∙ r.first_fits in
    record {
      fields = grouped v.values;
      fits = and_from (is_record (grouped v.values)) (ltb (length (record_values_in_order (grouped v.values))) (2 ^ 16) && list_all value_fits (record_values_in_order (grouped v.values))) (is_record-grouped v.values v.order)
          (subst (λ (x : List (ℕ × List ℕ)). (ltb (length x) (2 ^ 16) && list_all value_fits x) ≡ true) (sym same) (and_from (ltb (length v.values) (2 ^ 16)) (list_all value_fits v.values) count v.fits));
      written = r.parts ∙ (λ k. to_le_bytes w16 (sym v.count k) ++ v.written k) ∙ ap (λ (x : List (ℕ × List ℕ)). to_le_bytes w16 (length x) ++ flat_map value_bytes x) (sym same);
    }

pub record_then : (fields : RecordFields) (bytes : List ℕ) → record_fits fields ≡ true → bytes ≡ record_bytes fields → RecordSpelled bytes
record_then fields bytes fits written =
    let p = record_parts fields fits in
    let values = record_values_in_order fields in
    record { first = length values; behind = flat_map value_bytes values; first_fits = lt-ltb _ _ p.count; parts = written; goes_on = values_then values 0 (flat_map value_bytes values) (values_in_order fields p.formed) p.values refl }

-- ---- copied records

pub record IsCopied (bytes : List ℕ) : Type 0 where
  pub copied : Option (List ℕ)
  pub fields : RecordFields
  pub copied_fits_true : copied_fits copied ≡ true
  pub fits : record_fits fields ≡ true
  pub written : bytes ≡ copied_bytes copied ++ record_bytes fields

copied_after_of : (n : ℕ) (behind bytes : List ℕ) → CopiedAfter n behind → bytes ≡ n ∷ behind → IsCopied bytes
copied_after_of zero behind bytes c is =
    let r = record_of behind c in
    record { copied = None; fields = r.fields; copied_fits_true = refl; fits = r.fits; written = is ∙ ap (λ (b : List ℕ). 0 ∷ b) r.written }
copied_after_of (suc zero) behind bytes c is =
    let b = bookmark_of RecordSpelled behind c in
    let r = record_of b.behind b.goes_on in
    record { copied = Some b.first; fields = r.fields; copied_fits_true = b.first_fits; fits = r.fits; written = is ∙ ap (λ (x : List ℕ). 1 ∷ x) (b.parts ∙ ap (λ (x : List ℕ). bookmark_bytes b.first ++ x) r.written) }
copied_after_of (suc (suc n)) behind bytes c is = absurd c

pub copied_of : (bytes : List ℕ) → CopiedThen bytes → IsCopied bytes
copied_of bytes c = copied_after_of c.first c.behind bytes c.goes_on c.parts

pub copied_then : (copied : Option (List ℕ)) (fields : RecordFields) (bytes : List ℕ) → copied_fits copied ≡ true → record_fits fields ≡ true → bytes ≡ copied_bytes copied ++ record_bytes fields → CopiedThen bytes
copied_then None fields bytes c f written = record { first = 0; behind = record_bytes fields; first_fits = refl; parts = written; goes_on = record_then fields (record_bytes fields) f refl }
copied_then (Some bookmark) fields bytes c f written =
    let behind = bookmark_bytes bookmark ++ record_bytes fields in
    let b : Bookmark RecordSpelled behind = record { first = bookmark; behind = record_bytes fields; first_fits = c; parts = refl; goes_on = record_then fields (record_bytes fields) f refl } in
    record { first = 1; behind = behind; first_fits = refl; parts = written; goes_on = bookmark_then RecordSpelled behind b }
