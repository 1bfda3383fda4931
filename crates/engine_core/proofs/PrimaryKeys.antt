-- The key of a record in a legal primary index has 1 to 255 bytes.
use Rattle.std.proofs.Common.{◌≡◌, ℕ, ◌<◌, ◌≤◌, true, map, length, sym, subst}
use Rattle.std.specs.Prelude.{nat_le, take}
use Rattle.column_set.specs.RecordValues.{RecordFields, values_of}
use Rattle.key_normal.specs.KeyBytes.{key_bytes}
use Rattle.index_derive.specs.declared.rules.IndexRule.{IndexRule}
use Rattle.index_derive.specs.declared.rules.Schema.{Schema}
use Rattle.index_derive.specs.Entries.{first_or_null, is_legal, key_columns, primary_key, type_of_column}
use Rattle.loggable_steps.proofs.Bookmarks.{IsLegalRule, front_short, front_some, legal_rule, primary_most, whole_some}

-- ---- what is legal

pub record IsLegalKey (rule : IndexRule) : Type 0 where
  pub some : nat_le 1 (length rule.segments) ≡ true
  pub most : rule.key_most ≡ 255

pub legal_key : (rule : IndexRule) (schema : Schema) → is_legal rule schema ≡ true → rule.flags.primary ≡ true → IsLegalKey rule
legal_key rule schema legal primary = let is : IsLegalRule rule schema = legal_rule rule schema legal in record { some = is.some; most = primary_most rule schema is primary }

-- ---- the key

pub key_some : (rule : IndexRule) (schema : Schema) (fields : RecordFields) → IsLegalKey rule → 0 < length (primary_key rule schema fields)
unfolding primary_key
key_some rule schema fields legal =
    subst (λ (n : ℕ). 0 < length (take n (key_bytes (map (λ segment. record { kind = type_of_column schema segment.column.0; descending = segment.descending }) rule.segments) rule.flags.sortnullshigh (map (λ column. first_or_null (values_of fields column)) (key_columns rule)))))
    (sym legal.most) (front_some 254 _ (whole_some rule.segments rule.flags.sortnullshigh schema fields legal.some))

pub key_short : (rule : IndexRule) (schema : Schema) (fields : RecordFields) → IsLegalKey rule → length (primary_key rule schema fields) ≤ 255
unfolding primary_key
key_short rule schema fields legal =
    subst (λ (n : ℕ). length (primary_key rule schema fields) ≤ n) legal.most
    (front_short rule.key_most (key_bytes (map (λ segment. record { kind = type_of_column schema segment.column.0; descending = segment.descending }) rule.segments) rule.flags.sortnullshigh (map (λ column. first_or_null (values_of fields column)) (key_columns rule))))
