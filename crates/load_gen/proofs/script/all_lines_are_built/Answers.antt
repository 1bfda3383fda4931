use Rattle.load_gen.proofs.Built.{script_built}
use Rattle.load_gen.proofs.script.all_lines_are_built.Goals as goal

pub returns : goal.returns
returns c = script_built
