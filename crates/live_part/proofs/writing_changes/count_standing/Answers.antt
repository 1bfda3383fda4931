use Rattle.std.proofs.Common.{◌+◌, length, take, sym, ap, ◌∙◌, arith}
use Rattle.version_store.specs.Answers.{told_change}
use Rattle.live_part.specs.LiveBytes.{standing}
use Rattle.live_part.proofs.WriteLoops.{counted_on, counts_fit}
use Rattle.live_part.proofs.writing_changes.count_standing.Goals as goal

pub overflow_add-count : goal.overflow_add-count
overflow_add-count c =
    omega (arith, counts_fit c.args.versions.now c.loop-place.place (told_change c.change_at.result) c.loop-place.count c.standing_count-count.result c.change_at.ensures c.loop-place.invariant c.standing_count-count.ensures)

pub loop-place-preserved : goal.loop-place-preserved
loop-place-preserved c =
    ap (λ n. n + c.standing_count-count.result) c.loop-place.invariant
    ∙ ap (λ n. length (standing (take c.loop-place.place c.args.versions.now)) + n) c.standing_count-count.ensures
    ∙ sym (counted_on c.args.versions.now c.loop-place.place (told_change c.change_at.result) c.change_at.ensures)
