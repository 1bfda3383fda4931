use Rattle.std.proofs.Common.{◌≡◌, ◌==◌, List, Some, sym, ap, ◌∙◌, true, false}
use Rattle.std.specs.List.{position}
use Rattle.std.proofs.Math.ListN.{set}
use Rattle.session_local.specs.declared.open_temp.OpenTemp.{OpenTemp}
use Rattle.session_local.specs.TempCalls.{temp_move, temps_say}
use Rattle.session_local.specs.Answer.{Nothing}
use Rattle.jet_base.specs.declared.replies.Jet.{Jet}
use Rattle.jet_base.specs.declared.replies.Jet.TheVariants as jet
use Rattle.session_local.proofs.TempLabels.{at_none, move-at}
use Rattle.session_local.proofs.temps.Temps.move_to.Goals.{then-move_to, else-move_to}
use Rattle.session_local.proofs.temps.Temps.move_to.Goals as goal

pub returns-in_default : goal.returns-in_default
returns-in_default c = at_none c.args.self.now c.args.label _ (sym c.position.ensures ∙ c.in_default.is)

pub invariant_of-self : goal.invariant_of-self
invariant_of-self c = record { few = c.self.invariant.few; room = c.self.invariant.room }

pub returns : goal.returns
returns c =
    let same = c.self.view_is in
    let place : position (λ (temp : OpenTemp). temp.label.0 == c.args.label.0) c.self.inside.tables.items ≡ Some c.in-Some.at = ap (λ (ts : List OpenTemp). position (λ (temp : OpenTemp). temp.label.0 == c.args.label.0) ts) same ∙ sym c.position.ensures ∙ c.in-Some.is in
    let moved = set c.self.inside.tables.items c.in-Some.at (record { label = c.index_mut-temp.result.now.label; table = c.move_to.new.self }) in
    let says : c.if-move_to.result ≡ elim c.move_to.result [ true ↦ jet.Success | false ↦ jet.NoCurrentRecord ] =
    elim c.if-move_to.branch [
      | then-move_to w ↦ w.result-is ∙ ap (λ b. elim b [ true ↦ jet.Success | false ↦ jet.NoCurrentRecord ]) (sym w.if-move_to.true)
      | else-move_to w ↦ w.result-is ∙ ap (λ b. elim b [ true ↦ jet.Success | false ↦ jet.NoCurrentRecord ]) (sym w.if-move_to.false)
    ] in
    ap (λ (ts : List OpenTemp). temp_move ts c.args.label c.args.way) (sym same)
    ∙ move-at c.self.inside.tables.items c.args.label c.args.way c.in-Some.at c.index_mut-temp.result.now c.move_to.new.self c.move_to.result place c.index_mut-temp.ensures.value c.move_to.ensures.place c.move_to.ensures.found
    ∙ ap (λ (j : Jet). temps_say moved j Nothing) (sym says)
