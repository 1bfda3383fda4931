-- A key conflict is one with the changes of a record that has an entry under the key.
use Rattle.std.proofs.Common.{◌≡◌, ℕ, Bool, true, false, ◌&&◌, ◌||◌, cond, List, [], ◌∷◌, Option, Some, None, find, refl, sym, ap, ◌∙◌}
use Rattle.std.specs.Prelude.{◌==◌, bytes_eq}
use Rattle.std.specs.List.{list_any}
use Rattle.std.proofs.lemmas.Bool.{and_from, eqb-true, or_left, or_right}
use Rattle.common_lemmas.proofs.Booleans.{and_left, and_right, impossible, same_tests}
use Rattle.common_lemmas.proofs.Numbers.{equal_bytes, same_bytes}
use Rattle.column_set.specs.RecordValues.{RecordFields}
use Rattle.cursor_nav.specs.Places.{Pair}
use Rattle.database_state.specs.Conflicts.{yields_key}
use Rattle.laws_versions.specs.KeptEntries.{has_entry}
use Rattle.index_derive.specs.declared.rules.IndexRule.{IndexRule}
use Rattle.index_derive.specs.declared.rules.Schema.{Schema}
use Rattle.version_store.specs.declared.calls.Reader.{Reader}
use Rattle.laws_engine.specs.HeldRecords.{HeldRecord, before_or, has_key_conflict, is_change_at, is_concurrent, is_standing_rewrite, next_variant}
use Rattle.laws_engine.specs.Variants.{is_variant_key}
use Rattle.table_versions.specs.KeyConflicts.{conflicts_under, next_yields, yields_before}
use Rattle.table_versions.proofs.WithKey.{has_key_and}

-- ---- tests

-- what follows of each of two follows of one of them
either : {P : Type 0} (a b : Bool) → (a || b) ≡ true → (a ≡ true → P) → (b ≡ true → P) → P
either true b h f g = f refl
either false b h f g = g h

any_then : {P : Type 0} (test : Pair → Bool) (xs : List Pair) → list_any test xs ≡ true → ((y : Pair) → test y ≡ true → P) → P
any_then test [] h f = impossible h
any_then test (x ∷ xs) h f = either (test x) (list_any test xs) h (f x) (λ later. any_then test xs later f)

any_more : (p q : Pair → Bool) → ((y : Pair) → p y ≡ true → q y ≡ true) → (xs : List Pair) → list_any p xs ≡ true → list_any q xs ≡ true
any_more p q sub [] h = h
any_more p q sub (x ∷ xs) h = either (p x) (list_any p xs) h (λ here. or_left (q x) _ (sub x here)) (λ later. or_right (q x) _ (any_more p q sub xs later))

-- ---- the variants of one record

variant_yields : (rule : IndexRule) (schema : Schema) (key : List ℕ) (newest : Option RecordFields) (o : Option HeldRecord) → yields_key rule schema key (before_or newest o) ≡ yields_before rule schema key (yields_key rule schema key newest) o
variant_yields rule schema key newest None = refl
variant_yields rule schema key newest (Some h) = refl

one_more : (a b c : Bool) → (a || c) ≡ true → (a || (b || c)) ≡ true
one_more true b c e = refl
one_more false true c e = refl
one_more false false c e = e

-- the key of the next variant is one of a variant
next_is_variant : (rule : IndexRule) (schema : Schema) (key : List ℕ) (newest : Option RecordFields) (table : ℕ) (bookmark : List ℕ) (held : List HeldRecord)
    → next_yields rule schema key (yields_key rule schema key newest) table bookmark held ≡ true → is_variant_key newest held rule schema table key bookmark ≡ true
next_is_variant rule schema key newest table bookmark [] e = or_left (yields_key rule schema key newest) false e
next_is_variant rule schema key newest table bookmark (h ∷ held) e = by (is_standing_rewrite table bookmark h) refl e (next_is_variant rule schema key newest table bookmark held)
  where
    own : Bool
    own = yields_key rule schema key newest

    by : (b : Bool) → is_standing_rewrite table bookmark h ≡ b → yields_before rule schema key own (cond b (Some h) (find (is_standing_rewrite table bookmark) held)) ≡ true
        → (next_yields rule schema key own table bookmark held ≡ true → is_variant_key newest held rule schema table key bookmark ≡ true)
        → is_variant_key newest (h ∷ held) rule schema table key bookmark ≡ true
    by true s e rest = or_right own _ (or_left (is_standing_rewrite table bookmark h && yields_key rule schema key h.before) _ (and_from _ _ s e))
    by false s e rest = one_more own (is_standing_rewrite table bookmark h && yields_key rule schema key h.before) _ (rest e)

-- a conflict with the changes of a record is one over a key of a variant
conflict_is_variant : (reader : Reader) (rule : IndexRule) (schema : Schema) (key : List ℕ) (newest : Option RecordFields) (table : ℕ) (bookmark : List ℕ) (held : List HeldRecord)
    → conflicts_under reader rule schema key (yields_key rule schema key newest) table bookmark held ≡ true → is_variant_key newest held rule schema table key bookmark ≡ true
conflict_is_variant reader rule schema key newest table bookmark [] e = impossible e
conflict_is_variant reader rule schema key newest table bookmark (h ∷ held) e =
    either (is_concurrent reader h && (is_change_at table bookmark h && (here || behind))) _ e
    (λ own. either here behind (and_right (is_change_at table bookmark h) _ (and_right (is_concurrent reader h) _ own))
    (next_is_variant rule schema key newest table bookmark (h ∷ held))
    (λ next. later (next_is_variant rule schema key newest table bookmark held next)))
    (λ rest. later (conflict_is_variant reader rule schema key newest table bookmark held rest))
  where
    here : Bool
    here = next_yields rule schema key (yields_key rule schema key newest) table bookmark (h ∷ held)

    behind : Bool
    behind = next_yields rule schema key (yields_key rule schema key newest) table bookmark held

    later : is_variant_key newest held rule schema table key bookmark ≡ true → is_variant_key newest (h ∷ held) rule schema table key bookmark ≡ true
    later = one_more (yields_key rule schema key newest) (is_standing_rewrite table bookmark h && yields_key rule schema key h.before) _

-- ---- conflicts of all records and of one

abbrev pub of_record : Reader → (ℕ → List ℕ → Option RecordFields) → ℕ → IndexRule → Schema → List ℕ → List HeldRecord → List ℕ → Bool
of_record reader newest table rule schema key held bookmark = conflicts_under reader rule schema key (yields_key rule schema key (newest table bookmark)) table bookmark held

same_next : (newest : ℕ → List ℕ → Option RecordFields) (rule : IndexRule) (schema : Schema) (key : List ℕ) (table : ℕ) (bookmark : List ℕ) (changes : List HeldRecord)
    → yields_key rule schema key (next_variant newest table bookmark changes) ≡ next_yields rule schema key (yields_key rule schema key (newest table bookmark)) table bookmark changes
same_next newest rule schema key table bookmark changes = variant_yields rule schema key (newest table bookmark) (find (is_standing_rewrite table bookmark) changes)

-- whatever follows of a conflict with the changes of some record follows of a conflict
of_some_record : {P : Type 0} (reader : Reader) (newest : ℕ → List ℕ → Option RecordFields) (table : ℕ) (rule : IndexRule) (schema : Schema) (key : List ℕ) (held : List HeldRecord)
    → has_key_conflict reader newest table rule schema key held ≡ true → ((bookmark : List ℕ) → of_record reader newest table rule schema key held bookmark ≡ true → P) → P
of_some_record reader newest table rule schema key [] e f = impossible e
of_some_record reader newest table rule schema key (h ∷ held) e f =
    either (is_concurrent reader h && ((h.table == table) && variants h.table)) _ e
    (λ own.
    let at : ((h.table == table) && variants h.table) ≡ true = and_right (is_concurrent reader h) _ own in
    let number : h.table ≡ table = eqb-true h.table table (and_left (h.table == table) _ at) in
    f h.bookmark
    (or_left _ _
    (and_from (is_concurrent reader h) _ (and_left (is_concurrent reader h) _ own)
    (and_from (is_change_at table h.bookmark h) _ (and_from (h.table == table) _ (and_left (h.table == table) _ at) (equal_bytes h.bookmark h.bookmark refl))
    (sym (λ i. same_next newest rule schema key table h.bookmark (h ∷ held) i || same_next newest rule schema key table h.bookmark held i)
    ∙ ap variants (sym number) ∙ and_right (h.table == table) _ at)))))
    (λ rest. of_some_record reader newest table rule schema key held rest (λ bookmark under. f bookmark (or_right _ _ under)))
  where
    variants : ℕ → Bool
    variants t = yields_key rule schema key (next_variant newest t h.bookmark (h ∷ held)) || yields_key rule schema key (next_variant newest t h.bookmark held)

-- a conflict with the changes of a record is a conflict
of_one_record : (reader : Reader) (newest : ℕ → List ℕ → Option RecordFields) (table : ℕ) (rule : IndexRule) (schema : Schema) (key : List ℕ) (held : List HeldRecord) (bookmark : List ℕ)
    → of_record reader newest table rule schema key held bookmark ≡ true → has_key_conflict reader newest table rule schema key held ≡ true
of_one_record reader newest table rule schema key [] bookmark e = e
of_one_record reader newest table rule schema key (h ∷ held) bookmark e =
    either (is_concurrent reader h && (is_change_at table bookmark h && yielding)) _ e
    (λ own.
    let at : (is_change_at table bookmark h && yielding) ≡ true = and_right (is_concurrent reader h) _ own in
    let named : is_change_at table bookmark h ≡ true = and_left (is_change_at table bookmark h) _ at in
    let number : h.table ≡ table = eqb-true h.table table (and_left (h.table == table) _ named) in
    let place : h.bookmark ≡ bookmark = same_bytes h.bookmark bookmark (and_right (h.table == table) _ named) in
    or_left _ _
    (and_from (is_concurrent reader h) _ (and_left (is_concurrent reader h) _ own)
    (and_from (h.table == table) _ (and_left (h.table == table) _ named)
    ((λ i. variants (number i) (place i))
    ∙ (λ i. same_next newest rule schema key table bookmark (h ∷ held) i || same_next newest rule schema key table bookmark held i)
    ∙ and_right (is_change_at table bookmark h) _ at))))
    (λ rest. or_right _ _ (of_one_record reader newest table rule schema key held bookmark rest))
  where
    yielding : Bool
    yielding = next_yields rule schema key (yields_key rule schema key (newest table bookmark)) table bookmark (h ∷ held) || next_yields rule schema key (yields_key rule schema key (newest table bookmark)) table bookmark held

    variants : ℕ → List ℕ → Bool
    variants t b = yields_key rule schema key (next_variant newest t b (h ∷ held)) || yields_key rule schema key (next_variant newest t b held)

-- ---- the entries of the key

-- whether the record under a bookmark has the key in a variant
abbrev pub has_variant_with : (ℕ → List ℕ → Option RecordFields) → ℕ → IndexRule → Schema → List ℕ → List HeldRecord → List ℕ → Bool
has_variant_with newest table rule schema key held bookmark = is_variant_key (newest table bookmark) held rule schema table key bookmark

-- Where each record with the key in a variant has an entry, the records with an entry under the key tell whether there is a
-- conflict.
pub conflict_at_entries : (reader : Reader) (newest : ℕ → List ℕ → Option RecordFields) (table : ℕ) (rule : IndexRule) (schema : Schema) (key : List ℕ) (held : List HeldRecord) (entries : List Pair)
    → ((bookmark : List ℕ) → has_variant_with newest table rule schema key held bookmark ≡ true → has_entry key bookmark entries ≡ true)
    → list_any (has_key_and (of_record reader newest table rule schema key held) key) entries ≡ has_key_conflict reader newest table rule schema key held
conflict_at_entries reader newest table rule schema key held entries known =
    same_tests _ _
    (λ some. any_then (has_key_and under key) entries some (λ e passes. of_one_record reader newest table rule schema key held e.1 (and_right (bytes_eq e.0 key) _ passes)))
    (λ conflict. of_some_record reader newest table rule schema key held conflict (λ bookmark here.
    any_more (λ e. bytes_eq e.0 key && bytes_eq e.1 bookmark) (has_key_and under key)
    (λ e passes. and_from _ _ (and_left (bytes_eq e.0 key) _ passes) (ap under (same_bytes e.1 bookmark (and_right (bytes_eq e.0 key) _ passes)) ∙ here)) entries
    (known bookmark (conflict_is_variant reader rule schema key (newest table bookmark) table bookmark held here))))
  where
    under : List ℕ → Bool
    under = of_record reader newest table rule schema key held

-- Where only the record under one bookmark can have the key, its changes tell it.
pub conflict_under_one : (reader : Reader) (newest : ℕ → List ℕ → Option RecordFields) (table : ℕ) (rule : IndexRule) (schema : Schema) (key : List ℕ) (held : List HeldRecord) (own : List ℕ)
    → ((bookmark : List ℕ) → has_variant_with newest table rule schema key held bookmark ≡ true → bookmark ≡ own)
    → of_record reader newest table rule schema key held own ≡ has_key_conflict reader newest table rule schema key held
conflict_under_one reader newest table rule schema key held own only =
    same_tests _ _
    (of_one_record reader newest table rule schema key held own)
    (λ conflict. of_some_record reader newest table rule schema key held conflict (λ bookmark here.
    sym (ap (of_record reader newest table rule schema key held) (only bookmark (conflict_is_variant reader rule schema key (newest table bookmark) table bookmark held here))) ∙ here))
