use Rattle.std.proofs.Common.{sym, ap, ◌∙◌}
use Rattle.index_derive.specs.declared.rules.Schema.{Schema}
use Rattle.record_decisions.specs.Updating.{own_key}
use Rattle.record_decisions.proofs.putting.put_by.Goals as goal

pub bookmark_by-requires-clause-key : goal.bookmark_by-requires-clause-key
bookmark_by-requires-clause-key c = c.requires.key ∙ ap (λ (s : Schema). own_key s c.args.prepared.now.buffer.fields) (sym c.schema.ensures)
