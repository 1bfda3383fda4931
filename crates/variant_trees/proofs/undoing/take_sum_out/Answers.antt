use Rattle.std.proofs.Common.{rules, ◌≡◌, sym, ap, ◌∙◌}
use Rattle.std.specs.Prelude.{ℤ, neg_ℤ, FitsSigned}
use Rattle.std.specs.Int.{w32, cast_unsigned}
use Rattle.std.proofs.lemmas.Int.{to_z-of_z}
use Rattle.database_state.specs.State.{undone}
use Rattle.version_store.specs.declared.calls.ChangeKind.TheVariants as kind
use Rattle.version_store.specs.HeldChanges.{HeldChange, with_status}
use Rattle.variant_trees.proofs.OpenUndone.{counts_alike, kept_alike, lock_back, place_now}
use Rattle.variant_trees.proofs.SumsUndone.{sum_back, sum_column}
use Rattle.variant_trees.proofs.UndoneThere.{mapped_at}
use Rattle.variant_trees.proofs.undoing.take_sum_out.Goals as goal

pub returns-in-Add-clause-back : goal.returns-in-Add-clause-back
returns-in-Add-clause-back c = λ tables held h was is other.
    let sum : h.kind ≡ kind.Add c.in-Add.column c.in-Add.amount = is ∙ c.in-Add.is in
    let fits : FitsSigned w32 c.in-Add.amount = search rules in
    let named = sum_column tables c.args.trees.now.tables c.args.versions.now c.args.place c.args.table.0 held h was c.in-Add.column c.in-Add.amount sum in
    let kept = kept_alike tables c.args.trees.now.tables c.args.versions.now c.args.place c.args.table.0 held h was other in
    sum_back tables c.args.trees.now.tables c.add_in_place.new.trees.tables c.args.versions.now c.args.place c.args.table held h was c.in-Add.column c.in-Add.amount sum c.bookmark_at-bookmark.result.now
    (mapped_at (λ (x : HeldChange). x.bookmark) c.args.versions.now c.args.place (with_status undone h) c.bookmark_at-bookmark.result.now (place_now tables c.args.trees.now.tables c.args.versions.now c.args.place c.args.table.0 held h was) c.bookmark_at-bookmark.ensures)
    (c.add_in_place.ensures.kept tables c.args.versions.now named kept)
    (c.add_in_place.ensures.counts tables c.args.versions.now named kept (counts_alike tables c.args.trees.now.tables c.args.versions.now c.args.place c.args.table.0 held h was other))
    c.add_in_place.ensures.values
    (c.add_in_place.ensures.shown tables c.args.versions.now named kept (neg_ℤ c.in-Add.amount) (sym (c.opposite.ensures ∙ ap (λ (z : ℤ). cast_unsigned w32 (neg_ℤ z)) (to_z-of_z w32 c.in-Add.amount fits))))

pub returns-in-Hold-clause-back : goal.returns-in-Hold-clause-back
returns-in-Hold-clause-back c = λ tables held h was is other. lock_back tables c.args.trees.now.tables c.args.versions.now c.args.place c.args.table.0 held h was (is ∙ c.in-Hold.is)
