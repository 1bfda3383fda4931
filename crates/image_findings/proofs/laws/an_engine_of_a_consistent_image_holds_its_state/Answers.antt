use Rattle.image_findings.specs.Findings.{engine_in}
use Rattle.image_findings.proofs.laws.an_engine_of_a_consistent_image_holds_its_state.Goals as goal

pub returns : goal.returns
returns c limit image bytes consistent =
    c.a_showable_engine_holds_its_state.ensures (engine_in limit image) (c.a_consistent_image_is_showable.ensures limit image bytes consistent)
