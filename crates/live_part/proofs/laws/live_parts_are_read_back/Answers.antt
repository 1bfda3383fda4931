use Rattle.live_part.proofs.WholeLaws.{settled_again, whole_again, whole_takes}
use Rattle.live_part.proofs.laws.live_parts_are_read_back.Goals as goal

pub returns-clause-again : goal.returns-clause-again
returns-clause-again c live h = whole_again live h

pub returns-clause-only : goal.returns-clause-only
returns-clause-only c bytes live is_bytes e = whole_takes bytes live is_bytes e

pub returns-clause-settled : goal.returns-clause-settled
returns-clause-settled c live h = settled_again live h
