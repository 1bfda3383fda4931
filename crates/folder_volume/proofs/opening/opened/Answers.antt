use Rattle.std.proofs.Common.{sym}
use Rattle.folder_volume.proofs.opening.opened.Goals as goal

pub returns-in-Some-clause-known : goal.returns-in-Some-clause-known
returns-in-Some-clause-known g c = λ tells holds. holds c.args.file c.in-Some.handle (sym c.in-Some.ensures.taken)
