use Rattle.log_grammar.proofs.Streams.{cut_is_not_whole, front_of_stream, read_back}
use Rattle.loggable_steps.proofs.Fronts.{FrontLaws, front_first, front_read, front_replayed}
use Rattle.loggable_steps.proofs.replays.a_front_of_a_log_is_a_log_of_its_first_entries.Goals as goal

pub returns : goal.returns
returns c =
    let laws : FrontLaws = record { fronts = front_of_stream; none = cut_is_not_whole; once = λ bytes a b s t p q. read_back a b bytes s t p q } in
    record {
      read = front_read laws;
      first = front_first laws;
      replay = front_replayed laws;
    }
