-- A number stands among the tables' numbers where its table stands among the tables.
use Rattle.std.proofs.Common.{List, sym, ap, ◌∙◌}
use Rattle.std.specs.Prelude.{◌==◌}
use Rattle.std.specs.List.{list_any}
use Rattle.jet_base.specs.declared.ids.TableId.{TableId}
use Rattle.version_cleanup.specs.LiveSessions.{LiveState}
use Rattle.version_cleanup.proofs.OpenTables.{list_any-ids}
use Rattle.version_cleanup.proofs.live.Live.has_open.Goals as goal

pub returns : goal.returns
returns c =
    c.is_among.ensures
    ∙ ap (λ (ids : List TableId). list_any (λ id. id.0 == c.args.table.0) ids) c.deref.ensures.value
    ∙ sym (list_any-ids c.args.table.0 c.self.inside.open_tables.items)
    ∙ ap (λ (live : LiveState). list_any (λ id. id == c.args.table.0) live.open_tables) c.self.view_is
