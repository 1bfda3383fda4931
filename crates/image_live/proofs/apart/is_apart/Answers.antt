use Rattle.std.proofs.Common.{ap, sym, ◌∙◌}
use Rattle.version_store.specs.HeldChanges.{HeldChange, is_add}
use Rattle.image_live.proofs.Fronts.{at_map}
use Rattle.image_live.proofs.apart.is_apart.Goals as goal

pub is_apart_from_base-requires-clause-sum : goal.is_apart_from_base-requires-clause-sum
is_apart_from_base-requires-clause-sum c = λ h at.
    sym (ap is_add (at_map (λ (x : HeldChange). x.kind) c.args.changes.now c.args.place h c.kind_at.result at c.kind_at.ensures)) ∙ sym c.is_add.ensures ∙ c.if-is_add.true

pub is_apart_from_older-requires-clause-other : goal.is_apart_from_older-requires-clause-other
is_apart_from_older-requires-clause-other c = λ h at.
    sym (ap is_add (at_map (λ (x : HeldChange). x.kind) c.args.changes.now c.args.place h c.kind_at.result at c.kind_at.ensures)) ∙ sym c.is_add.ensures ∙ c.if-is_add.false
