-- What a map of long values is after a change.
use Rattle.long_value.specs.ChangedValues.{less_beside, less_there, more_beside, more_there, value_beside, value_put}
use Rattle.long_rows.proofs.Taken.{ValueLaws}

pub value_laws : ValueLaws
value_laws = record {
  put = value_put;
  beside = value_beside;
  more = more_there;
  more_beside = more_beside;
  less = less_there;
  less_beside = less_beside;
}
