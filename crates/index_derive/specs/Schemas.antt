-- The indexes of a schema, found by their flags, numbers and names.
use Rattle.std.specs.Prelude.{ℕ, ◌==◌, List, find, Option, bytes_eq}
use Rattle.index_derive.specs.declared.rules.IndexRule.{IndexRule}
use Rattle.index_derive.specs.declared.rules.Schema.{Schema}

abbrev pub primary_rule : Schema → Option IndexRule
primary_rule schema = find (λ r. r.flags.primary) schema.indexes

abbrev pub rule_with_id : Schema → ℕ → Option IndexRule
rule_with_id schema index = find (λ r. r.id.0 == index) schema.indexes

abbrev pub rule_named : Schema → List ℕ → Option IndexRule
rule_named schema name = find (λ r. bytes_eq r.name name) schema.indexes
