use Rattle.std.proofs.Common.{◌≡◌, ◌==◌, List, Some, sym, ap, ◌∙◌, arith, rules}
use Rattle.std.specs.List.{position}
use Rattle.session_local.specs.declared.open_temp.OpenTemp.{OpenTemp}
use Rattle.session_local.specs.TempCalls.{temp_close, temps_become}
use Rattle.session_local.proofs.Distinct.{within_position}
use Rattle.session_local.proofs.TempLabels.{at_none, close-at}
use Rattle.session_local.proofs.temps.Temps.close.Goals as goal

pub returns-in_default : goal.returns-in_default
returns-in_default c = at_none c.args.self.now c.args.label _ (sym c.position.ensures ∙ c.in_default.is)

pub remove-requires : goal.remove-requires
remove-requires c =
    let same = c.self.view_is in
    let place : position (λ (temp : OpenTemp). temp.label.0 == c.args.label.0) c.self.inside.tables.items ≡ Some c.in-Some.at = ap (λ (ts : List OpenTemp). position (λ (temp : OpenTemp). temp.label.0 == c.args.label.0) ts) same ∙ sym c.position.ensures ∙ c.in-Some.is in
    let within = (within_position (λ (temp : OpenTemp). temp.label.0 == c.args.label.0) c.self.inside.tables.items c.in-Some.at place).1 in
    omega (arith, within)

pub invariant_of-self : goal.invariant_of-self
invariant_of-self c = record { few = search rules; room = search rules }

pub returns : goal.returns
returns c =
    let same = c.self.view_is in
    let place : position (λ (temp : OpenTemp). temp.label.0 == c.args.label.0) c.self.inside.tables.items ≡ Some c.in-Some.at = ap (λ (ts : List OpenTemp). position (λ (temp : OpenTemp). temp.label.0 == c.args.label.0) ts) same ∙ sym c.position.ensures ∙ c.in-Some.is in
    ap (λ (ts : List OpenTemp). temp_close ts c.args.label) (sym same)
    ∙ close-at c.self.inside.tables.items c.args.label c.in-Some.at c.remove.result place c.remove.ensures.value
    ∙ ap temps_become (sym c.remove.ensures.items)
