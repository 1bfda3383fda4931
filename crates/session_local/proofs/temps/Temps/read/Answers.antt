use Rattle.std.proofs.Common.{◌≡◌, ◌==◌, List, Some, sym, ap, ◌∙◌}
use Rattle.std.specs.List.{position}
use Rattle.session_local.specs.declared.open_temp.OpenTemp.{OpenTemp}
use Rattle.session_local.specs.ChangingTemps.{read_by}
use Rattle.session_local.specs.TempCalls.{temp_read}
use Rattle.session_local.proofs.TempLabels.{at_none, read-at}
use Rattle.session_local.proofs.temps.Temps.read.Goals as goal

pub returns-in-Some-clause-answer : goal.returns-in-Some-clause-answer
returns-in-Some-clause-answer c =
    let same = c.self.view_is in
    let place : position (λ (temp : OpenTemp). temp.label.0 == c.args.label.0) c.self.inside.tables.items ≡ Some c.in-Some.at = ap (λ (ts : List OpenTemp). position (λ (temp : OpenTemp). temp.label.0 == c.args.label.0) ts) same ∙ sym c.position.ensures ∙ c.in-Some.is in
    ap (λ (ts : List OpenTemp). temp_read ts c.args.label c.args.column) (sym same)
    ∙ read-at c.self.inside.tables.items c.args.label c.args.column c.in-Some.at c.index.result.now (read_by c.value_at.result) place c.index.ensures c.value_at.ensures.answer
    ∙ ap (λ (ts : List OpenTemp). record { answered = read_by c.value_at.result; temps = ts }) same

pub returns-in-None-clause-answer : goal.returns-in-None-clause-answer
returns-in-None-clause-answer c = at_none c.args.self.now c.args.label _ (sym c.position.ensures ∙ c.in-None.is)
