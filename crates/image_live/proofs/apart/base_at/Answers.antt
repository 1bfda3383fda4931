use Rattle.std.proofs.Common.{ap, sym, ◌∙◌, arith}
use Rattle.version_store.specs.HeldChanges.{HeldChange, is_add}
use Rattle.image_live.proofs.Bases.{base_before, base_here, base_none}
use Rattle.image_live.proofs.Fronts.{At, at_map, stands_at}
use Rattle.image_live.proofs.apart.base_at.Goals as goal

pub returns-then-not-is_add : goal.returns-then-not-is_add
returns-then-not-is_add c = λ h at.
    base_here c.args.changes.now c.args.place h at (sym (ap is_add (at_map (λ (x : HeldChange). x.kind) c.args.changes.now c.args.place h c.kind_at.result at c.kind_at.ensures)) ∙ sym c.is_add.ensures ∙ c.if-not-is_add.true)

pub returns-in_default : goal.returns-in_default
returns-in_default c = λ h at.
    base_none c.args.changes.now c.args.place h at (sym (ap is_add (at_map (λ (x : HeldChange). x.kind) c.args.changes.now c.args.place h c.kind_at.result at c.kind_at.ensures)) ∙ sym c.is_add.ensures ∙ c.if-not-is_add.false)
    (c.in_default.ensures.place h at)

pub returns : goal.returns
returns c = λ h at.
    let x : At c.args.changes.now c.in-Some.older = stands_at c.args.changes.now c.in-Some.older (omega (arith, c.in-Some.ensures.within, c.requires.within)) in
    base_before c.args.changes.now c.args.place c.in-Some.older h x.item _ at (sym (ap is_add (at_map (λ (y : HeldChange). y.kind) c.args.changes.now c.args.place h c.kind_at.result at c.kind_at.ensures)) ∙ sym c.is_add.ensures ∙ c.if-not-is_add.false)
    (c.in-Some.ensures.place h at) c.in-Some.ensures.within x.is_at (c.requires.known c.in-Some.older x.item c.in-Some.ensures.within x.is_at)
