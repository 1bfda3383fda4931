-- The columns of a key by their numbers.
use Rattle.std.specs.Prelude.{ℕ, List, map}
use Rattle.index_derive.specs.declared.rules.Segment.{Segment}

abbrev pub columns_of : List Segment → List ℕ
columns_of segments = map (λ segment. segment.column.0) segments
