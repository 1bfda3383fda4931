use Rattle.engine_image.proofs.Engines.{engine_is, store_of}
use Rattle.engine_image.proofs.making.engine_of.Goals as goal

pub of-tables-requires : goal.of-tables-requires
of-tables-requires c =
    let laws = c.the_tables_of_a_consistent_image_are_a_store.ensures in
    store_of (record { kept = laws.kept; counts = laws.counts; entries = laws.entries }) c.requires.0 c.args.number c.args.made c.args.live c.requires.1

pub returns : goal.returns
returns c image has = engine_is c.what_a_store_of_a_consistent_image_shows.ensures image c.args.limit c.args.number c.args.made c.args.live c.of-tables.result has c.of-tables.ensures
