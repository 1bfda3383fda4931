use Rattle.image_findings.proofs.Checks.{no_finding}
use Rattle.image_findings.proofs.Known.{known_in, newest_in, ordered_in, plain_in, turn_in}
use Rattle.image_findings.proofs.Placed.{all_placed}
use Rattle.image_findings.proofs.Turns.{all_touch, have_costs, in_turn}
use Rattle.image_findings.specs.Findings.{contents_in, live_of, told_in, whole_of}
use Rattle.image_findings.proofs.laws.held_changes_of_a_consistent_image_come_back.Goals as goal

pub returns-clause-turn : goal.returns-clause-turn
returns-clause-turn c limit image bytes h =
    let n = no_finding image h in
    in_turn image.number (contents_in image) (whole_of image).sessions (ordered_in image bytes n) (plain_in image n) (newest_in image bytes n) (live_of image).held
    (turn_in image bytes n (c.live_parts_are_read_back.ensures.only image.live (whole_of image) bytes.live n.whole))

pub returns-clause-costs : goal.returns-clause-costs
returns-clause-costs c limit image bytes h =
    let n = no_finding image h in
    have_costs image.number (contents_in image) (whole_of image).sessions (live_of image).held (known_in image bytes n (c.live_parts_are_read_back.ensures.only image.live (whole_of image) bytes.live n.whole))

pub returns-clause-touched : goal.returns-clause-touched
returns-clause-touched c limit image bytes h =
    let n = no_finding image h in
    all_touch image.number (contents_in image) (whole_of image).sessions (ordered_in image bytes n) (live_of image).held (turn_in image bytes n (c.live_parts_are_read_back.ensures.only image.live (whole_of image) bytes.live n.whole))

pub returns-clause-placed : goal.returns-clause-placed
returns-clause-placed c limit image bytes h =
    let n = no_finding image h in
    let turn = turn_in image bytes n (c.live_parts_are_read_back.ensures.only image.live (whole_of image) bytes.live n.whole) in
    all_placed image.number (told_in image).greatest (contents_in image) (whole_of image).sessions (live_of image).held (live_of image).held turn.each
    (in_turn image.number (contents_in image) (whole_of image).sessions (ordered_in image bytes n) (plain_in image n) (newest_in image bytes n) (live_of image).held turn)
