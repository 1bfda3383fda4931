use Rattle.std.proofs.Common.{◌≡◌, ◌<◌, ◌++◌, ◌∷◌, [], List, length, sym, ap, ◌∙◌, arith, true, false}
use Rattle.session_local.specs.declared.open_temp.OpenTemp.{OpenTemp}
use Rattle.session_local.specs.TempCalls.{temps_become}
use Rattle.temp_table.specs.TempRows.{TempRows, opened}
use Rattle.temp_table.specs.declared.columns.TempColumn.{TempColumn}
use Rattle.session_local.proofs.TempLabels.{open-full, open-new}
use Rattle.session_local.proofs.temps.Temps.open_new.Goals as goal

pub returns-then-len-ge-MOST_TEMPS : goal.returns-then-len-ge-MOST_TEMPS
returns-then-len-ge-MOST_TEMPS c = open-full c.args.self.now c.args.label c.args.unique c.args.columns.now c.requires.free (omega (arith, c.if-len-ge-MOST_TEMPS.true, c.len.ensures, ap (λ (ts : List OpenTemp). length ts) c.self.view_is))

pub push-requires : goal.push-requires
push-requires c = omega (arith, c.if-len-ge-MOST_TEMPS.false, c.len.ensures, ap (λ (ts : List OpenTemp). length ts) c.self.view_is)

pub returns : goal.returns
returns c =
    let few : length c.args.self.now < 4 = omega (arith, c.if-len-ge-MOST_TEMPS.false, c.len.ensures, ap (λ (ts : List OpenTemp). length ts) c.self.view_is) in
    let made : c.in_ok-table.table ≡ opened c.args.columns.now c.args.unique = c.in_ok-table.ensures ∙ ap (λ (cs : List TempColumn). opened cs c.args.unique) c.in_ok-columns.ensures.items in
    open-new c.args.self.now c.args.label c.args.unique c.args.columns.now c.requires.free few
    ∙ ap (λ (t : TempRows). temps_become (c.args.self.now ++ record { label = c.args.label; table = t } ∷ [])) (sym made)
    ∙ ap temps_become (sym c.push.ensures)
