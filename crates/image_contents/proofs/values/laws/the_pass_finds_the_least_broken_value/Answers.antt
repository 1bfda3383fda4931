use Rattle.image_contents.proofs.Broken.{least_broken}
use Rattle.image_contents.proofs.Walks.{rising}
use Rattle.image_contents.proofs.values.laws.the_pass_finds_the_least_broken_value.Goals as goal

pub returns : goal.returns
returns c number nodes rise = least_broken number nodes (rising nodes rise)
