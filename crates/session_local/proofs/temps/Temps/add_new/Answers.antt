use Rattle.std.proofs.Common.{◌≡◌, ◌<◌, ◌++◌, ◌∷◌, [], List, length, sym, ap, ◌∙◌, arith}
use Rattle.session_local.specs.declared.open_temp.OpenTemp.{OpenTemp}
use Rattle.session_local.proofs.TempLabels.{add-full, add-new}
use Rattle.session_local.proofs.temps.Temps.add_new.Goals as goal

pub returns-then-len-ge-MOST_TEMPS : goal.returns-then-len-ge-MOST_TEMPS
returns-then-len-ge-MOST_TEMPS c = add-full c.args.self.now c.args.label c.args.table c.requires (omega (arith, c.if-len-ge-MOST_TEMPS.true, c.len.ensures, ap (λ (ts : List OpenTemp). length ts) c.self.view_is))

pub push-requires : goal.push-requires
push-requires c = omega (arith, c.if-len-ge-MOST_TEMPS.false, c.len.ensures, ap (λ (ts : List OpenTemp). length ts) c.self.view_is)

pub returns : goal.returns
returns c =
    let few : length c.args.self.now < 4 = omega (arith, c.if-len-ge-MOST_TEMPS.false, c.len.ensures, ap (λ (ts : List OpenTemp). length ts) c.self.view_is) in
    c.push.ensures ∙ add-new c.args.self.now c.args.label c.args.table c.requires few
