-- The line that tells of an image what is found first, or that it is consistent. It ends in byte 0A, and numbers are decimal.
use Rattle.std.specs.Prelude.{ℕ, List, [], ◌∷◌, ◌++◌, codes}
use Rattle.std.specs.Fmt.{decimal}
use Rattle.image_findings.specs.FindingTexts.{finding_text}
use Rattle.image_findings.specs.Images.{Finding}

-- a table and an index of it, by their names, with a space behind each
abbrev pub index_text : List ℕ → List ℕ → List ℕ
index_text table index = table ++ (codes " " ++ (index ++ codes " "))

abbrev pub finding_line : Finding → List ℕ
finding_line found = finding_text found ++ 10 ∷ []

-- of an image without a finding: how many log entries led to the database, and how many tables it has
abbrev pub clean_line : ℕ → ℕ → List ℕ
clean_line number tables = codes "integrity clean number " ++ (decimal number ++ (codes " tables " ++ (decimal tables ++ 10 ∷ [])))
