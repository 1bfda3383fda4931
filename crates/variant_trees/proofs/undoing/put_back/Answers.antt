use Rattle.std.proofs.Common.{sym, ap, ◌∙◌}
use Rattle.database_state.specs.State.{undone}
use Rattle.version_store.specs.HeldChanges.{HeldChange, is_rewrite, with_status}
use Rattle.variant_trees.proofs.OpenUndone.{kind_now, place_now, rewrites_now}
use Rattle.variant_trees.proofs.SumsUndone.{newest_now}
use Rattle.variant_trees.proofs.UndoneThere.{mapped_at, place_in}
use Rattle.variant_trees.proofs.undoing.put_back.Goals as goal

pub kind_at-what-requires : goal.kind_at-what-requires
kind_at-what-requires c = place_in c.args.versions.now c.args.place (with_status undone c.requires.1.0) (place_now c.args.catalog.now.tables c.args.trees.now.tables c.args.versions.now c.args.place c.args.table.0 c.requires.0 c.requires.1.0 c.requires.1.1)

pub put_back_of-requires-clause-rewrites : goal.put_back_of-requires-clause-rewrites
put_back_of-requires-clause-rewrites c = rewrites_now c.args.versions.now c.args.place c.kind_at-what.result (sym c.is_rewrite.ensures ∙ c.if-is_rewrite.true) c.kind_at-what.ensures

pub take_sum_out-requires-clause-within : goal.take_sum_out-requires-clause-within
take_sum_out-requires-clause-within c = place_in c.args.versions.now c.args.place (with_status undone c.requires.1.0) (place_now c.args.catalog.now.tables c.args.trees.now.tables c.args.versions.now c.args.place c.args.table.0 c.requires.0 c.requires.1.0 c.requires.1.1)

pub take_sum_out-requires-clause-newest : goal.take_sum_out-requires-clause-newest
take_sum_out-requires-clause-newest c = newest_now c.args.catalog.now.tables c.args.trees.now.tables c.args.versions.now c.args.place c.args.table.0 c.requires.0 c.requires.1.0 c.requires.1.1

pub returns-else-is_rewrite-clause-back : goal.returns-else-is_rewrite-clause-back
returns-else-is_rewrite-clause-back c = λ held h was.
    let is = kind_now c.args.catalog.now.tables c.args.trees.now.tables c.args.versions.now c.args.place c.args.table.0 held h was c.kind_at-what.result c.kind_at-what.ensures in
    c.take_sum_out.ensures.back c.args.catalog.now.tables held h was is (ap is_rewrite is ∙ sym c.is_rewrite.ensures ∙ c.if-is_rewrite.false)

pub returns-else-is_rewrite-clause-lock : goal.returns-else-is_rewrite-clause-lock
returns-else-is_rewrite-clause-lock c = λ h at hold. c.take_sum_out.ensures.lock (sym (mapped_at (λ (x : HeldChange). x.kind) c.args.versions.now c.args.place h c.kind_at-what.result at c.kind_at-what.ensures) ∙ hold)
