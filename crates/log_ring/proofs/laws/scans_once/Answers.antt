use Rattle.log_ring.proofs.Once.{scans_same_stream}
use Rattle.log_ring.proofs.laws.scans_once.Goals as goal

pub returns : goal.returns
returns c = record {
  stream = λ log from one other end last a b. (scans_same_stream log from one other end last a b).0;
  end = λ log from one other end last a b. (scans_same_stream log from one other end last a b).1;
}
