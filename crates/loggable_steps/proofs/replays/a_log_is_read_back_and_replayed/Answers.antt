use Rattle.log_grammar.proofs.Streams.{read_back as read_one_way}
use Rattle.loggable_steps.proofs.Replaying.{ReadOnce, read_back, replayed}
use Rattle.loggable_steps.proofs.replays.a_log_is_read_back_and_replayed.Goals as goal

pub returns : goal.returns
returns c =
    let once : ReadOnce = λ bytes a b s t p q. read_one_way a b bytes s t p q in
    record { read = read_back once; replay = replayed once }
