use Rattle.image_contents.proofs.IndexesTake.{PassedTo}
use Rattle.image_contents.proofs.rows.indexing.is_indexable.Given as goal

-- the indexes so far take the record
abbrev pub invariant-loop-rule : goal.invariant-loop-rule
invariant-loop-rule g l = PassedTo l.schema (g.R.Values.fields l.values) l.rule-items l.rule-index
