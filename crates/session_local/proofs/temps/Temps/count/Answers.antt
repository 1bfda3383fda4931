use Rattle.std.proofs.Common.{◌≡◌, ◌==◌, List, Some, sym, ap, ◌∙◌}
use Rattle.std.specs.List.{position}
use Rattle.jet_base.specs.declared.replies.Jet.TheVariants as jet
use Rattle.session_local.specs.declared.open_temp.OpenTemp.{OpenTemp}
use Rattle.session_local.specs.Answer.{Count}
use Rattle.session_local.specs.TempCalls.{temp_count, temps_say}
use Rattle.session_local.proofs.TempLabels.{at_none, count-at}
use Rattle.session_local.proofs.temps.Temps.count.Goals as goal

pub returns-in-Some-clause-answer : goal.returns-in-Some-clause-answer
returns-in-Some-clause-answer c =
    let same = c.self.view_is in
    let place : position (λ (temp : OpenTemp). temp.label.0 == c.args.label.0) c.self.inside.tables.items ≡ Some c.in-Some.at = ap (λ (ts : List OpenTemp). position (λ (temp : OpenTemp). temp.label.0 == c.args.label.0) ts) same ∙ sym c.position.ensures ∙ c.in-Some.is in
    λ buffer. ap (λ (ts : List OpenTemp). temp_count ts c.args.label) (sym same)
    ∙ count-at c.self.inside.tables.items c.args.label c.in-Some.at c.index.result.now c.count.result place c.index.ensures c.count.ensures
    ∙ ap (λ (ts : List OpenTemp). temps_say ts jet.Success (Count c.count.result)) same

pub returns-in-None-clause-answer : goal.returns-in-None-clause-answer
returns-in-None-clause-answer c = λ buffer. at_none c.args.self.now c.args.label _ (sym c.position.ensures ∙ c.in-None.is)
