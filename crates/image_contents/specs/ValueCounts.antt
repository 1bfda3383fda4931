-- The counts that the heads of long values tell, beside those of the rows that refer to them.
use Rattle.std.specs.Prelude.{ℕ, ◌==◌, Bool, false, not, ◌&&◌, ◌||◌, List, [], ◌∷◌, Option, Some, None, bytes_eq, unwrap_or, if◌then◌else◌}
use Rattle.std.specs.BTreeMap.{get}
use Rattle.std.specs.Cmp.Lexicographic.{slice_cmp}
use Rattle.std.specs.List.{list_any}
use Rattle.std.specs.Ordering.{nat_cmp}
use Rattle.byteorder.specs.Endian.{little_number}
use Rattle.column_set.specs.declared.rows.RowValue.{RowValue}
use Rattle.image_contents.specs.ReadReferences.{Told}
use Rattle.image_contents.specs.declared.values.counts.ReferenceCounts.{ReferenceCounts}
use Rattle.image_findings.specs.Images.{Finding}
use Rattle.image_findings.specs.Images.Finding.{Long}
use Rattle.image_findings.specs.ValueFindings.{entry_in, place_in}
use Rattle.long_rows.specs.RowReferences.{identifier, named_by}
use Rattle.long_value.specs.Shown.{id_of, is_head}
use Rattle.page_image.specs.Page.{Node}

-- ---- what is counted of rows

-- the references that were counted to a value
abbrev pub count_in : ReferenceCounts → List ℕ → ℕ
count_in counts id = unwrap_or (get (slice_cmp nat_cmp) counts.counts id) 0

-- whether it is the value with the identifier, and no value behind names it
abbrev pub is_last : List ℕ → Option Told → List (ℕ × RowValue) → Bool
is_last id None behind = false
is_last id (Some told) behind = bytes_eq id (identifier told.0 told.1) && not (list_any (bytes_eq (identifier told.0 told.1)) (named_by behind))

-- ---- what heads tell

-- the identifier of a head
abbrev pub head_id : Node → Option (List ℕ)
head_id n = if is_head n then Some (id_of n) else None

-- the count at the front of its bytes
abbrev pub head_count : Node → ℕ
head_count n = little_number 4 n.data

-- the finding of a value that counts none of so many references, or more or fewer
abbrev pub counted_finding : ℕ → ℕ → List ℕ → Option Finding
counted_finding have wanted id = if (have == 0) || not (have == wanted) then Some (Long (entry_in id) (place_in id) have wanted) else None

-- that of a head with an identifier, none of a node that is no head
abbrev pub finding_with_id : (List ℕ → ℕ) → ℕ → Option (List ℕ) → Option Finding
finding_with_id wanted have None = None
finding_with_id wanted have (Some id) = counted_finding have (wanted id) id

abbrev pub head_finding : (List ℕ → ℕ) → Node → Option Finding
head_finding wanted n = finding_with_id wanted (head_count n) (head_id n)

-- the first of two
abbrev pub first_of : Option Finding → Option Finding → Option Finding
first_of None later = later
first_of (Some found) later = Some found

-- that of the first node that has one
abbrev pub first_finding : (List ℕ → ℕ) → List Node → Option Finding
first_finding wanted [] = None
first_finding wanted (n ∷ nodes) = first_of (head_finding wanted n) (first_finding wanted nodes)
