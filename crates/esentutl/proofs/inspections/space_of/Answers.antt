use Rattle.std.proofs.Common.{ap, ◌∙◌, None}
use Rattle.page_space.specs.Frames.{Frames}
use Rattle.tool_dump.specs.SpaceTexts.{space_text}
use Rattle.esentutl.proofs.FoundTexts.{for_ok, space_of_none, space_of_some}
use Rattle.esentutl.proofs.inspections.space_of.Goals as goal

pub space_of_engine-requires-clause-holds : goal.space_of_engine-requires-clause-holds
space_of_engine-requires-clause-holds c = c.requires.holds

pub space_of_engine-requires-clause-room : goal.space_of_engine-requires-clause-room
space_of_engine-requires-clause-room c = c.requires.room

pub returns-then-standing-eq0 : goal.returns-then-standing-eq0
returns-then-standing-eq0 c =
    for_ok c.space-then-standing-eq0.result
    (λ text is checkpoint stands stream holds. space_of_none checkpoint holds.state text.items (stands.new c.if-standing-eq0.true)
    (is ∙ ap (λ (frames : Frames). space_text frames None) c.new.ensures)) c.space-then-standing-eq0.ensures

pub returns-else-standing-eq0 : goal.returns-else-standing-eq0
returns-else-standing-eq0 c =
    for_ok c.space_of_engine.result (λ text told checkpoint stands stream holds. space_of_some checkpoint c.args.standing.now holds.state text.items stands c.if-standing-eq0.false (told checkpoint stream holds))
    c.space_of_engine.ensures
