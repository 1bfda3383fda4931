use Rattle.recovered_states.proofs.Once.{stand_once}
use Rattle.recovered_states.proofs.laws.one_checkpoint_stands_on_files.Goals as goal

pub returns : goal.returns
returns c = stand_once c.nodes_of_a_page_are_few.ensures c.scans_once.ensures.stream
