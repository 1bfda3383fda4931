use Rattle.std.proofs.Common.{sym, ◌∙◌}
use Rattle.version_store.specs.Answers.{told_change}
use Rattle.live_part.proofs.HeldLaws.{short_spelled}
use Rattle.live_part.proofs.writing_changes.spelled_entry.Goals as goal

pub returns-clause-short : goal.returns-clause-short
returns-clause-short c = short_spelled _ (told_change c.args.held) c.in_ok-entry.ensures (sym c.has_spelling.ensures ∙ c.if-not-has_spelling.false)
