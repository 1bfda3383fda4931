-- The counts of the long values of an image.
use Rattle.std.specs.Prelude.{ℕ, ◌==◌, Bool, not, ◌||◌, List, find, Option, option_map}
use Rattle.long_value.specs.Values.{LongValue}
use Rattle.version_store.specs.HeldChanges.{HeldChange}
use Rattle.image_findings.specs.Images.{Finding}
use Rattle.image_findings.specs.TableContents.{TableContents, long_values, wanted_count}
use Rattle.image_findings.specs.ValueFindings.{found_value}

-- no row refers to the value, or more or fewer do than it counts
abbrev pub is_miscounted : List HeldChange → TableContents → List ℕ × LongValue → Bool
is_miscounted held t value = (value.1.count == 0) || not (value.1.count == wanted_count held t value.0)

-- the least value with another count
abbrev pub count_finding : List HeldChange → TableContents → Option Finding
count_finding held t = option_map (λ value. found_value held t value.1.count value.0) (find (is_miscounted held t) (long_values t))
