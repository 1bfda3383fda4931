-- The refusals of a call, in the order in which they are tried.
use Rattle.column_set.specs.Refusals.{Refusals, first_refusal}
