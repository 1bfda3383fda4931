use Rattle.std.proofs.Common.{◌≡◌, true, sym, ◌∙◌, ap}
use Rattle.cursor_nav.specs.Navigation.{CursorState}
use Rattle.session_local.specs.Local.{OpenCursor}
use Rattle.session_local.specs.CursorSeen.{open_cursor}
use Rattle.session_local.specs.Changing.{cursor_after, key_made_at}
use Rattle.session_local.specs.WellFormed.{is_well_formed_schema}
use Rattle.session_local.proofs.AtCursor.{short_rule, key_after}
use Rattle.session_local.proofs.open_cursor.OpenCursor.make_key.Goals as goal

pub make_key-requires : goal.make_key-requires
make_key-requires c =
    let well : is_well_formed_schema c.self.inside.schema ≡ true = ap (λ (o : OpenCursor). is_well_formed_schema o.schema) c.self.view_is ∙ c.requires in
    short_rule c.self.inside.cursor c.self.inside.schema well

pub returns-clause-cursor : goal.returns-clause-cursor
returns-clause-cursor c =
    let o : OpenCursor = open_cursor c.self.inside in
    ap (λ (moved : CursorState). record o { cursor = moved }) c.make_key.ensures.cursor
    ∙ sym (key_after o c.args.fresh c.args.value.now)
    ∙ ap (λ (o : OpenCursor). cursor_after o (key_made_at o c.args.fresh c.args.value.now)) c.self.view_is
