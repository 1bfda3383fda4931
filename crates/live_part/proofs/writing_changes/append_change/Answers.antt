use Rattle.std.proofs.Common.{ℕ, List, ◌++◌, ◌∷◌, [], ap, ◌∙◌}
use Rattle.std.specs.Prelude.{option_copied}
use Rattle.std.specs.Int.{w64, to_le_bytes}
use Rattle.version_store.specs.Answers.{told_change}
use Rattle.version_store.specs.Items.{state_of}
use Rattle.live_part.specs.LiveBytes.{entry_of, row_bytes, sized_entry_bytes, status_bytes}
use Rattle.live_part.proofs.WriteLoops.{change_written}
use Rattle.live_part.proofs.writing_changes.append_change.Goals as goal

pub returns-clause-ok : goal.returns-clause-ok
returns-clause-ok c =
    change_written c.args.into.now.items (to_le_bytes w64 c.args.held.number) (c.args.held.level ∷ []) (status_bytes (state_of c.args.held.status)) (sized_entry_bytes (entry_of (told_change c.args.held))) (row_bytes (option_copied c.args.held.before))
    c.put_head.new.bytes.items c.put_sized_entry.new.bytes.items c.put_row.new.bytes.items
    (c.put_head.ensures.items ∙ ap (λ (x : List ℕ). x ++ (to_le_bytes w64 c.args.held.number ++ ((c.args.held.level ∷ []) ++ status_bytes (state_of c.args.held.status)))) c.in_ok-reserve.ensures.items)
    (c.put_sized_entry.ensures.items ∙ ap (λ e. c.put_head.new.bytes.items ++ sized_entry_bytes e) c.in_ok-entry.ensures.entry)
    c.put_row.ensures
