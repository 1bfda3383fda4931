use Rattle.std.proofs.Common.{◌==◌, List, get_or, sym, ◌∙◌, ap}
use Rattle.session_local.specs.Local.{OpenCursor}
use Rattle.session_local.specs.SessionSide.{HeldState}
use Rattle.session_local.proofs.Distinct.{found-position, missing-position}
use Rattle.session_local.proofs.begun.Begun.cursor.Goals as goal

pub returns-in-Some : goal.returns-in-Some
returns-in-Some c =
    let same = ap (λ (h : HeldState). h.cursors) c.self.view_is in
    let at = c.in-Some.at in
    let found = c.index.result.now in
    found-position (λ (o : OpenCursor). o.label == c.args.label.0) c.args.self.now.cursors at found (sym c.position.ensures ∙ c.in-Some.is)
    (c.index.ensures ∙ ap (λ (cs : List OpenCursor). get_or cs at found) same)

pub returns-in-None : goal.returns-in-None
returns-in-None c = missing-position (λ (o : OpenCursor). o.label == c.args.label.0) c.args.self.now.cursors (sym c.position.ensures ∙ c.in-None.is)
