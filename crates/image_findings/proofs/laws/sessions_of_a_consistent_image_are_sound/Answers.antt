use Rattle.laws_images.specs.ShownStates.{past_of, tables_before}
use Rattle.image_findings.proofs.Checks.{no_finding}
use Rattle.image_findings.proofs.Sessions.{begins, in_order, labels_rise, levels_stay, numbers_rise}
use Rattle.image_findings.specs.Findings.{contents_in, engine_in, told_in, values_by_table, whole_of}
use Rattle.image_findings.proofs.laws.sessions_of_a_consistent_image_are_sound.Goals as goal

pub returns-clause-labels : goal.returns-clause-labels
returns-clause-labels c limit image bytes h =
    let store = (engine_in limit image).store in
    labels_rise (tables_before store.held store.tables) (past_of store.held store.tables) (whole_of image) (c.live_parts_are_read_back.ensures.only image.live (whole_of image) bytes (no_finding image h).whole).1

pub returns-clause-begins : goal.returns-clause-begins
returns-clause-begins c limit image bytes h session =
    let store = (engine_in limit image).store in
    let n = no_finding image h in
    begins image.number (contents_in image) (tables_before store.held store.tables) (past_of store.held store.tables) (whole_of image) (c.live_parts_are_read_back.ensures.only image.live (whole_of image) bytes n.whole).1 n.live session

pub returns-clause-numbers : goal.returns-clause-numbers
returns-clause-numbers c limit image bytes h =
    numbers_rise (values_by_table (contents_in image)) (engine_in limit image).store.tables (whole_of image) (c.live_parts_are_read_back.ensures.only image.live (whole_of image) bytes (no_finding image h).whole).1

pub returns-clause-levels : goal.returns-clause-levels
returns-clause-levels c limit image h = levels_stay image.number (contents_in image) (values_by_table (contents_in image)) (engine_in limit image).store.tables (whole_of image) (no_finding image h).live

pub returns-clause-in_order : goal.returns-clause-in_order
returns-clause-in_order c limit image h = in_order image.number (told_in image).greatest (contents_in image) (values_by_table (contents_in image)) (engine_in limit image).store.tables (whole_of image) (no_finding image h).live
