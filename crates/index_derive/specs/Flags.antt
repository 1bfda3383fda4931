-- The flags of an index.
use Rattle.std.specs.Prelude.{false}
use Rattle.index_derive.specs.declared.rules.IndexFlags.{IndexFlags}

abbrev pub no_flags : IndexFlags
no_flags = record { primary = false; unique = false; disallownull = false; ignorenull = false; ignoreanynull = false; ignorefirstnull = false; sortnullshigh = false; crossproduct = false; disallowtruncation = false; tuples = false }
