use Rattle.std.proofs.Common.{◌≡◌, ◌==◌, List, Some, sym, ap, subst, ◌∙◌}
use Rattle.std.specs.List.{position}
use Rattle.std.proofs.Math.ListN.{set}
use Rattle.session_local.specs.declared.open_temp.OpenTemp.{OpenTemp}
use Rattle.session_local.specs.ChangingTemps.{ChangesTemps}
use Rattle.session_local.specs.TempCalls.{temp_put}
use Rattle.session_local.proofs.TempLabels.{at_none, put-at}
use Rattle.session_local.proofs.temps.Temps.put.Goals as goal

pub returns-in_default : goal.returns-in_default
returns-in_default c = at_none c.args.self.now c.args.label _ (sym c.position.ensures ∙ c.in_default.is)

pub invariant_of-self : goal.invariant_of-self
invariant_of-self c = record { few = c.self.invariant.few; room = c.self.invariant.room }

pub returns : goal.returns
returns c =
    let same = c.self.view_is in
    let place : position (λ (temp : OpenTemp). temp.label.0 == c.args.label.0) c.self.inside.tables.items ≡ Some c.in-Some.at = ap (λ (ts : List OpenTemp). position (λ (temp : OpenTemp). temp.label.0 == c.args.label.0) ts) same ∙ sym c.position.ensures ∙ c.in-Some.is in
    let told = put-at c.self.inside.tables.items c.args.label c.args.values.now c.in-Some.at c.index_mut-temp.result.now c.put_values.new.table c.put_values.result place c.index_mut-temp.ensures.value c.put_values.ensures in
    subst (λ (ts : List OpenTemp). ChangesTemps ts (temp_put ts c.args.label c.args.values.now) c.put_values.result (set c.self.inside.tables.items c.in-Some.at (record { label = c.index_mut-temp.result.now.label; table = c.put_values.new.table }))) same told
