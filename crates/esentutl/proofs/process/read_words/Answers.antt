use Rattle.esentutl.proofs.Processes.{words_behind}
use Rattle.esentutl.proofs.process.read_words.Goals as goal

pub returns-in-Ok-collect : goal.returns-in-Ok-collect
returns-in-Ok-collect c =
    let ran = c.in-Ok-collect.ensures.ran in
    words_behind c.args.arguments c.in-Ok.words c.next-name.new.self c.next-name.result c.in-Ok-collect.words.items ran.0 c.in-Ok.is c.next-name.ensures.cases ran.1 ran.2.0
