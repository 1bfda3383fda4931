use Rattle.long_value.proofs.Identifiers.{same_entry, same_place}
use Rattle.long_value.proofs.laws.identifiers_differ.Goals as goal

pub returns : goal.returns
returns c a b entry entry' place place' e = (same_entry a.entry b.entry a.place b.place entry entry' e, same_place a.entry b.entry a.place b.place place place' e)
