use Rattle.std.proofs.Common.{sym, ap}
use Rattle.esentutl.specs.About.{text_about}
use Rattle.esentutl.proofs.about.text.Goals as goal

pub returns-in-Help : goal.returns-in-Help
returns-in-Help c = sym (ap text_about c.in-Help.is)
