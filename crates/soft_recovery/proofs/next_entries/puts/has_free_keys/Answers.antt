use Rattle.std.proofs.Common.{Option, ap, ◌∙◌}
use Rattle.std.specs.Prelude.{is_none}
use Rattle.jet_base.specs.declared.replies.Jet.{Jet}
use Rattle.soft_recovery.proofs.Placing.{none_by}
use Rattle.soft_recovery.proofs.next_entries.puts.has_free_keys.Goals as goal

pub returns : goal.returns
returns c state h =
    none_by c.keys_refusal.result c.is_none.result c.is_none.ensures
    ∙ ap (λ (o : Option Jet). is_none o) c.keys_refusal.ensures
    ∙ c.new_keys_are_free.ensures c.args.engine.now state h c.args.session.0 c.args.table.0 c.args.schema.now c.requires.named c.args.bookmark.now c.args.values.now
