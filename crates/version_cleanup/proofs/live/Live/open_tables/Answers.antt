-- The numbers of the tables as they stand in the field.
use Rattle.std.proofs.Common.{map, ap, ◌∙◌}
use Rattle.jet_base.specs.declared.ids.TableId.{TableId}
use Rattle.version_cleanup.specs.LiveSessions.{LiveState}
use Rattle.version_cleanup.proofs.live.Live.open_tables.Goals as goal

pub returns : goal.returns
returns c = ap (map (λ (id : TableId). id.0)) c.as_slice.ensures.value ∙ ap (λ (live : LiveState). live.open_tables) c.self.view_is
