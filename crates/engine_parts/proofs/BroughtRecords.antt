-- What records bring into an index, one after the other.
use Rattle.std.proofs.Common.{◌≡◌, ℕ, Bool, true, false, ◌&&◌, ◌||◌, cond, not, List, [], ◌∷◌, ◌++◌, map, filter, flat_map, Option, Some, None, Result, Ok, Err, refl, sym, ap, subst, ◌∙◌, append_assoc}
use Rattle.std.specs.Prelude.{is_none}
use Rattle.std.specs.List.{list_any}
use Rattle.std.proofs.lemmas.List.Folds.{list_any-append}
use Rattle.jet_base.specs.declared.replies.Jet.TheVariants as jet
use Rattle.column_set.specs.RecordValues.{RecordFields}
use Rattle.cursor_nav.specs.Places.{Pair, are_sorted, entry_after}
use Rattle.database_state.specs.Puts.{is_cut_refusal, is_null_refusal}
use Rattle.column_set.specs.Refusals.{first_refusal}
use Rattle.database_state.specs.Table.{Rows}
use Rattle.index_derive.specs.declared.entries.Place.TheVariants.{Before, On}
use Rattle.index_derive.specs.declared.rules.IndexRule.{IndexRule}
use Rattle.index_derive.specs.declared.rules.Schema.{Schema}
use Rattle.index_derive.specs.Entries.{KeyRefusal, KeyTruncated, KeyValues, NullKeyDisallowed, all_key_values, entries, has_double, has_double_key, is_ignored, is_unique, key_list, keys_of, meets_conditions, own_order, sorted_keys, whole_key}
use Rattle.key_normal.specs.KeyBytes.{cut_key, is_cut}
use Rattle.laws_versions.proofs.ChangeLemmas.Tests.{or_first, or_second}
use Rattle.engine_parts.specs.declared.index_records.Brought.{Brought}
use Rattle.engine_parts.specs.CreatingIndexes.{IsAdded, IsBrought, asks_of_records, brought_refusals, row_refusals}
use Rattle.engine_parts.proofs.RecordWalks.{IsWalk, StandsAt, stands, walk_begins, walk_ends, walk_goes_on}

-- one record more
or_later : (a b : Bool) → cond a true b ≡ (b || (a || false))
or_later true true = refl
or_later true false = refl
or_later false true = refl
or_later false false = refl

any_more : {X : Type 0} (p : X → Bool) (xs : List X) (x : X) (old new : Bool) → old ≡ list_any p xs → new ≡ cond (p x) true old → new ≡ list_any p (xs ++ x ∷ [])
any_more p xs x old new h e = e ∙ or_later (p x) old ∙ ap (λ b. b || (p x || false)) h ∙ sym (list_any-append p xs (x ∷ []))

keys_more : {X : Type 0} (f : X → List (List ℕ)) (xs : List X) (x : X) → flat_map f xs ++ f x ≡ flat_map f (xs ++ x ∷ [])
keys_more {X} f [] x = alone (f x)
  where
    alone : (ks : List (List ℕ)) → ks ≡ ks ++ []
    alone [] = refl
    alone (k ∷ ks) = ap (λ r. k ∷ r) (alone ks)
keys_more f (y ∷ ys) x = append_assoc (f y) (flat_map f ys) (f x) ∙ ap (λ r. f y ++ r) (keys_more f ys x)

brought_more : (rule : IndexRule) (schema : Schema) (done : Rows) (row : List ℕ × RecordFields) (old new : Brought) → IsBrought rule schema done old → IsAdded (entries rule schema row.1) old new → IsBrought rule schema (done ++ row ∷ []) new
brought_more rule schema done row old new h add = record {
  unique = add.unique ∙ h.unique;
  null = any_more (λ (row : List ℕ × RecordFields). is_null_refusal (entries rule schema row.1)) done row old.has_null new.has_null h.null add.null;
  cut = any_more (λ (row : List ℕ × RecordFields). is_cut_refusal (entries rule schema row.1)) done row old.has_cut new.has_cut h.cut add.cut;
  keys = λ u. add.keys (h.unique ∙ u) ∙ ap (λ ks. ks ++ key_list rule schema row.1) (h.keys u) ∙ keys_more (λ (row : List ℕ × RecordFields). key_list rule schema row.1) done row;
}

pub brought_refused : (rule : IndexRule) (schema : Schema) (rows : Rows) (brought : Brought) → IsBrought rule schema rows brought → brought_refusals brought ≡ row_refusals rule schema rows
unfolding has_double_key
brought_refused rule schema rows brought h =
    λ i. (h.null i, jet.NullKeyDisallowed) ∷ (h.cut i, jet.KeyTruncated) ∷ ((ap (λ b. b && has_double brought.keys.items) h.unique ∙ double (is_unique rule) refl) i, jet.KeyDuplicate) ∷ []
  where
    double : (b : Bool) → is_unique rule ≡ b → (b && has_double brought.keys.items) ≡ (b && has_double (flat_map (λ row. key_list rule schema row.1) rows))
    double true u = ap has_double (h.keys u)
    double false u = refl

-- ---- the walk over all records

-- The records before the one to which the walk has come have brought what they bring.
pub record IsGoneOver (rule : IndexRule) (schema : Schema) (rows : Rows) (found : Option Pair) (brought : Brought) : Type 0 where
  pub done : Rows
  pub rest : Rows
  pub walk : IsWalk rows found done rest
  pub made : IsBrought rule schema done brought

pub all_begins : (rule : IndexRule) (schema : Schema) (rows : Rows) (found : Option Pair) (brought : Brought) → found ≡ entry_after Before (own_order rows)
    → brought.is_unique ≡ is_unique rule → brought.has_null ≡ false → brought.has_cut ≡ false → brought.keys.items ≡ [] → IsGoneOver rule schema rows found brought
all_begins rule schema rows found brought is unique null cut keys = record { done = []; rest = rows; walk = walk_begins rows found is; made = record { unique = unique; null = null; cut = cut; keys = λ _. keys } }

-- the record at which the walk stands
pub standing : (rule : IndexRule) (schema : Schema) (rows : Rows) (entry : Pair) (brought : Brought) → (g : IsGoneOver rule schema rows (Some entry) brought) → StandsAt rows g.done entry
standing rule schema rows entry brought g = stands rows entry g.done g.rest g.walk

pub all_goes_on : (rule : IndexRule) (schema : Schema) (rows : Rows) (entry : Pair) (next : Option Pair) (old new : Brought) → are_sorted (own_order rows) ≡ true → (g : IsGoneOver rule schema rows (Some entry) old)
    → (told : Result (List (List ℕ)) KeyRefusal) → told ≡ entries rule schema (standing rule schema rows entry old g).row.1 → IsAdded told old new → next ≡ entry_after (On entry.0 entry.1) (own_order rows) → IsGoneOver rule schema rows next new
all_goes_on rule schema rows entry next old new sorted g told is add after =
    let at = standing rule schema rows entry old g in
    record {
      done = g.done ++ at.row ∷ [];
      rest = at.rest;
      walk = walk_goes_on rows g.done entry next sorted at after;
      made = brought_more rule schema g.done at.row old new g.made (subst (λ (t : Result (List (List ℕ)) KeyRefusal). IsAdded t old new) is add);
    }

pub all_ends : (rule : IndexRule) (schema : Schema) (rows : Rows) (brought : Brought) → IsGoneOver rule schema rows None brought → IsBrought rule schema rows brought
all_ends rule schema rows brought g = subst (λ (done : Rows). IsBrought rule schema done brought) (walk_ends rows g.done g.rest g.walk) g.made

-- ---- an index that refuses no record

-- the keys of a record by why it may be refused
abbrev keys_by : Bool → Bool → List (List ℕ) → Result (List (List ℕ)) KeyRefusal
keys_by null cut keys = elim null [ true ↦ Err NullKeyDisallowed | false ↦ elim cut [ true ↦ Err KeyTruncated | false ↦ Ok keys ] ]

not_null : (null cut : Bool) (keys : List (List ℕ)) → null ≡ false → is_null_refusal (keys_by null cut keys) ≡ false
not_null true cut keys e = cc
not_null false true keys e = refl
not_null false false keys e = refl

not_cut : (null cut : Bool) (keys : List (List ℕ)) → cut ≡ false → is_cut_refusal (keys_by null cut keys) ≡ false
not_cut true cut keys e = refl
not_cut false true keys e = cc
not_cut false false keys e = refl

not_both : (a b : Bool) → a ≡ false → (a && b) ≡ false
not_both true b e = cc
not_both false b e = refl

never_null : (rule : IndexRule) (schema : Schema) (fields : RecordFields) → rule.flags.disallownull ≡ false → is_null_refusal (entries rule schema fields) ≡ false
unfolding entries
never_null rule schema fields off = by (meets_conditions rule fields)
  where
    values : List KeyValues
    values = filter (λ values. not (is_ignored rule.flags values)) (all_key_values rule schema fields)

    by : (b : Bool) → is_null_refusal (elim b [ true ↦ keys_of rule schema values | false ↦ Ok [] ]) ≡ false
    by true =
        not_null (rule.flags.disallownull && list_any (list_any is_none) values) (rule.flags.disallowtruncation && list_any (is_cut rule.key_most) (map (whole_key rule schema) values))
        (sorted_keys (map (cut_key rule.key_most) (map (whole_key rule schema) values))) (not_both rule.flags.disallownull (list_any (list_any is_none) values) off)
    by false = refl

never_cut : (rule : IndexRule) (schema : Schema) (fields : RecordFields) → rule.flags.disallowtruncation ≡ false → is_cut_refusal (entries rule schema fields) ≡ false
unfolding entries
never_cut rule schema fields off = by (meets_conditions rule fields)
  where
    values : List KeyValues
    values = filter (λ values. not (is_ignored rule.flags values)) (all_key_values rule schema fields)

    by : (b : Bool) → is_cut_refusal (elim b [ true ↦ keys_of rule schema values | false ↦ Ok [] ]) ≡ false
    by true =
        not_cut (rule.flags.disallownull && list_any (list_any is_none) values) (rule.flags.disallowtruncation && list_any (is_cut rule.key_most) (map (whole_key rule schema) values))
        (sorted_keys (map (cut_key rule.key_most) (map (whole_key rule schema) values))) (not_both rule.flags.disallowtruncation (list_any (is_cut rule.key_most) (map (whole_key rule schema) values)) off)
    by false = refl

any_never : {X : Type 0} (p : X → Bool) (xs : List X) → ((x : X) → p x ≡ false) → list_any p xs ≡ false
any_never p [] never = refl
any_never p (x ∷ xs) never = ap (λ b. b || list_any p xs) (never x) ∙ any_never p xs never

pub refuses_none : (rule : IndexRule) (schema : Schema) (rows : Rows) → asks_of_records rule ≡ false → first_refusal (row_refusals rule schema rows) ≡ None
refuses_none rule schema rows off =
    ap (λ b. cond b (Some jet.NullKeyDisallowed) (cond (list_any cut rows) (Some jet.KeyTruncated) (cond (is_unique rule && has_double_key rule schema rows) (Some jet.KeyDuplicate) None)))
    (any_never null rows (λ row. never_null rule schema row.1 (or_first rule.flags.disallownull _ off)))
    ∙ ap (λ b. cond b (Some jet.KeyTruncated) (cond (is_unique rule && has_double_key rule schema rows) (Some jet.KeyDuplicate) None))
    (any_never cut rows (λ row. never_cut rule schema row.1 (or_first rule.flags.disallowtruncation (is_unique rule) (or_second rule.flags.disallownull _ off))))
    ∙ ap (λ b. cond b (Some jet.KeyDuplicate) None)
    (not_both (is_unique rule) (has_double_key rule schema rows) (or_second rule.flags.disallowtruncation (is_unique rule) (or_second rule.flags.disallownull _ off)))
  where
    null : List ℕ × RecordFields → Bool
    null row = is_null_refusal (entries rule schema row.1)

    cut : List ℕ × RecordFields → Bool
    cut row = is_cut_refusal (entries rule schema row.1)
