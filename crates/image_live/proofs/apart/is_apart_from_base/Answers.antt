use Rattle.std.proofs.Common.{ap, sym, ◌∙◌, arith}
use Rattle.image_findings.specs.LiveFindings.{are_apart}
use Rattle.common_lemmas.proofs.Options.{same_some}
use Rattle.version_store.specs.Answers.{told_change}
use Rattle.image_live.proofs.Bases.{base_within, sum_with_base, sum_without_base}
use Rattle.image_live.proofs.Fronts.{At, stands_at}
use Rattle.image_live.proofs.apart.is_apart_from_base.Goals as goal

pub returns-in_default : goal.returns-in_default
returns-in_default c = λ h at. sum_without_base c.args.sessions.now c.args.changes.now c.args.place h at (c.requires.sum h at) (sym c.in_default.is ∙ c.requires.base h at)

pub change_at-requires : goal.change_at-requires
change_at-requires c =
    let here : At c.args.changes.now c.args.place = stands_at c.args.changes.now c.args.place c.requires.within in
    let below = base_within c.args.changes.now c.args.place c.in-Some.base here.item here.is_at (c.requires.sum here.item here.is_at) (sym c.in-Some.is ∙ c.requires.base here.item here.is_at) in
    omega (arith, below, c.requires.within)

pub returns : goal.returns
returns c = λ h at.
    sum_with_base c.args.sessions.now c.args.changes.now c.args.place c.in-Some.base h (told_change c.change_at.result) c.are_apart.result c.requires.placed c.requires.before at (c.requires.sum h at) (sym c.in-Some.is ∙ c.requires.base h at) c.change_at.ensures
    (c.are_apart.ensures ∙ ap (are_apart c.args.sessions.now (told_change c.change_at.result)) (same_some (told_change c.change_at-2.result) h (sym c.change_at-2.ensures ∙ at)))
