use Rattle.std.proofs.Common.{ap, sym, ◌∙◌, arith}
use Rattle.common_lemmas.proofs.Options.{same_some}
use Rattle.image_findings.specs.LiveFindings.{are_apart}
use Rattle.version_store.specs.Answers.{told_change}
use Rattle.version_store.specs.HeldChanges.{HeldChange, is_add}
use Rattle.image_live.proofs.Fronts.{at_map}
use Rattle.image_live.proofs.Walks.{fewer_places, walk_begins, walk_done, walk_ends, walk_fails, walk_goes_on, walk_within}
use Rattle.image_live.proofs.apart.is_apart_from_older.Goals as goal

pub loop-at-init : goal.loop-at-init
loop-at-init c = walk_begins c.args.sessions.now c.args.changes.now c.args.place c.older_change-at.result c.older_change-at.ensures.place c.older_change-at.ensures.within

pub change_at-requires : goal.change_at-requires
change_at-requires c = let below = walk_within c.args.sessions.now c.args.changes.now c.args.place c.in-Some.older c.loop-at.at c.loop-at.invariant c.in-Some.is in omega (arith, below, c.requires.within)

pub kind_at-requires : goal.kind_at-requires
kind_at-requires c = let below = walk_within c.args.sessions.now c.args.changes.now c.args.place c.in-Some.older c.loop-at.at c.loop-at.invariant c.in-Some.is in omega (arith, below, c.requires.within)

pub older_change-at-requires-in-Some : goal.older_change-at-requires-in-Some
older_change-at-requires-in-Some c = let below = walk_within c.args.sessions.now c.args.changes.now c.args.place c.in-Some.older c.loop-at.at c.loop-at.invariant c.in-Some.is in omega (arith, below, c.requires.within)

pub returns-then-not-are_apart : goal.returns-then-not-are_apart
returns-then-not-are_apart c = λ h at.
    walk_fails c.args.sessions.now c.args.changes.now c.args.place c.in-Some.older h (told_change c.change_at.result) c.loop-at.at c.loop-at.invariant c.in-Some.is at (c.requires.other h at) c.change_at.ensures
    (sym c.if-not-are_apart.true ∙ c.are_apart.ensures ∙ ap (are_apart c.args.sessions.now (told_change c.change_at.result)) (same_some (told_change c.change_at-in-Some.result) h (sym c.change_at-in-Some.ensures ∙ at)))

pub returns-then-not-is_add : goal.returns-then-not-is_add
returns-then-not-is_add c = λ h at.
    walk_ends c.args.sessions.now c.args.changes.now c.args.place c.in-Some.older h (told_change c.change_at.result) c.loop-at.at c.requires.placed c.requires.before c.loop-at.invariant c.in-Some.is at c.change_at.ensures
    (sym (ap is_add (at_map (λ (x : HeldChange). x.kind) c.args.changes.now c.in-Some.older (told_change c.change_at.result) c.kind_at.result c.change_at.ensures c.kind_at.ensures)) ∙ sym c.is_add.ensures ∙ c.if-not-is_add.true)
    (sym c.if-not-are_apart.false ∙ c.are_apart.ensures ∙ ap (are_apart c.args.sessions.now (told_change c.change_at.result)) (same_some (told_change c.change_at-in-Some.result) h (sym c.change_at-in-Some.ensures ∙ at)))

pub loop-at-smaller : goal.loop-at-smaller
loop-at-smaller c = fewer_places c.in-Some.older c.loop-at.at c.older_change-at-in-Some.result c.in-Some.is c.older_change-at-in-Some.ensures.within

pub loop-at-preserved : goal.loop-at-preserved
loop-at-preserved c =
    walk_goes_on c.args.sessions.now c.args.changes.now c.args.place c.in-Some.older (told_change c.change_at-in-Some.result) (told_change c.change_at.result) c.loop-at.at c.older_change-at-in-Some.result c.loop-at.invariant c.in-Some.is c.change_at-in-Some.ensures c.change_at.ensures
    (sym c.if-not-are_apart.false ∙ c.are_apart.ensures) c.older_change-at-in-Some.ensures.place c.older_change-at-in-Some.ensures.within

pub returns : goal.returns
returns c = λ h at. walk_done c.args.sessions.now c.args.changes.now c.args.place c.loop-at.at h c.loop-at.invariant c.in_default.is at
