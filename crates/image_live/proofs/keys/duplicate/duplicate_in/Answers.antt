use Rattle.std.proofs.Common.{Option, option_map, sym, ap, subst, ◌≡◌}
use Rattle.std.specs.Prelude.{IfOk}
use Rattle.database_state.specs.Table.{schema_of}
use Rattle.index_derive.specs.declared.rules.IndexRule.{IndexRule}
use Rattle.image_live.specs.FoundKeys.{finding_in}
use Rattle.image_live.specs.KeptRows.{HasSoundChanges, finding_by}
use Rattle.image_live.proofs.Loops.{legal_found}
use Rattle.image_live.proofs.keys.duplicate.duplicate_in.Goals as goal

pub duplicate_by-requires-clause-readable : goal.duplicate_by-requires-clause-readable
duplicate_by-requires-clause-readable c = c.requires.readable

pub duplicate_by-requires-clause-changes : goal.duplicate_by-requires-clause-changes
duplicate_by-requires-clause-changes c = c.requires.changes

pub duplicate_by-requires-clause-legal : goal.duplicate_by-requires-clause-legal
duplicate_by-requires-clause-legal c = legal_found (schema_of c.args.variants.now.table.now) c.args.index.0 c.in-Some.rule.now c.requires.readable.rules (sym c.in-Some.ensures)

pub duplicate_by-requires-clause-rule : goal.duplicate_by-requires-clause-rule
duplicate_by-requires-clause-rule c = sym c.in-Some.ensures

pub returns-in-Some : goal.returns-in-Some
returns-in-Some c =
    subst (λ (rule : Option IndexRule). IfOk c.duplicate_by.result (λ found. (kept : HasSoundChanges c.args.sessions.now c.args.variants.now) → option_map (finding_in kept.contents.table) found ≡ finding_by kept rule)) c.in-Some.ensures c.duplicate_by.ensures

pub returns-in-None : goal.returns-in-None
returns-in-None c kept = ap (λ (rule : Option IndexRule). finding_by kept rule) c.in-None.ensures
