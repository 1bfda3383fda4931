-- By the bytes that each node takes.
use Rattle.page_image.proofs.Kept.{few}
use Rattle.page_image.proofs.laws.nodes_of_a_page_are_few.Goals as goal

pub returns : goal.returns
returns c page is = few page is
