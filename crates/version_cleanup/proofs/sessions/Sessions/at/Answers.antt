-- The session at the place.
use Rattle.std.proofs.Common.{◌<◌, List, length, refl, sym, ap, ◌∙◌, arith}
use Rattle.std.specs.Prelude.{slice_get}
use Rattle.std.proofs.lemmas.Option.{slice_get_read}
use Rattle.version_cleanup.specs.LiveSessions.{LiveState}
use Rattle.version_cleanup.proofs.sessions.Sessions.at.Goals as goal

pub index-requires : goal.index-requires
index-requires c = omega (arith, c.self.inside.lives.ok, c.requires, ap (length {A = LiveState}) c.self.view_is)

pub returns : goal.returns
returns c =
    let items = c.self.inside.lives.items in
    let within : c.args.place < length items = omega (arith, c.requires, ap (length {A = LiveState}) c.self.view_is) in
    ap (λ (l : List LiveState). slice_get l c.args.place) (sym c.self.view_is) ∙ slice_get_read items (length items) c.args.place c.index.result.now refl within c.index.ensures
