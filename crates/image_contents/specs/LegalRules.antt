-- Indexes whose keys can be derived.
use Rattle.std.specs.Prelude.{◌≡◌, ◌≤◌, ℕ, true, Some, slice_get}
use Rattle.index_derive.specs.declared.rules.IndexRule.{IndexRule}
use Rattle.index_derive.specs.declared.rules.Schema.{Schema}
use Rattle.index_derive.specs.Entries.{is_legal}

-- An index is legal, and its keys have 255 bytes at most.
abbrev pub IsLegalRule : Schema → IndexRule → Type 0
IsLegalRule schema rule = (is_legal rule schema ≡ true) × (rule.key_most ≤ 255)

abbrev pub HasLegalRules : Schema → Type 0
HasLegalRules schema = (place : ℕ) (rule : IndexRule) → slice_get schema.indexes place ≡ Some rule → IsLegalRule schema rule
