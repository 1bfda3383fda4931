-- The answer to a schema call.
use Rattle.index_derive.specs.declared.log.EntryKind.TheVariants as entry
use Rattle.index_derive.specs.declared.schema_calls.SchemaStep.{SchemaStep}
use Rattle.database_state.specs.SchemaChanges.{schema_refusal}
use Rattle.session_local.specs.Answer.{Nothing}
use Rattle.session_local.specs.Outcome.{CallInputs, Outcome, done, unless, unless_refused, one, number_refusals}

-- A schema call is one entry, where nothing refuses it.
abbrev pub schema_changed : CallInputs → SchemaStep → Outcome
schema_changed asked made =
    unless_refused asked (schema_refusal asked.state asked.session made)
    (λ _. unless asked (number_refusals asked) (λ _. done asked.local Nothing (one asked (entry.Schema made))))
