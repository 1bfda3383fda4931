use Rattle.soft_recovery.proofs.Placing.{key_made, primary_short}
use Rattle.soft_recovery.proofs.next_entries.puts.has_its_place.Goals as goal

pub primary_key-key-requires : goal.primary_key-key-requires
primary_key-key-requires c = record { short = primary_short c.args.schema.now c.in-Some.rule.now c.requires.rules c.in-Some.ensures }

pub has_its_place_by-requires-clause-key : goal.has_its_place_by-requires-clause-key
has_its_place_by-requires-clause-key c = key_made c.args.schema.now c.args.values.now c.in-Some.rule.now c.primary_key-key.result c.in-Some.ensures c.primary_key-key.ensures
