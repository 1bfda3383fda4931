-- What is printed of a finding. Numbers are decimal, and the bytes of keys are two hexadecimal digits each, with lower case letters.
use Rattle.std.specs.Prelude.{ℕ, ◌/◌, ◌%◌, List, [], ◌∷◌, ◌++◌, codes}
use Rattle.std.specs.Char.{digit_char}
use Rattle.std.specs.Fmt.{decimal}
use Rattle.std.specs.List.{flat_map}
use Rattle.image_findings.specs.Images.{Finding}
use Rattle.image_findings.specs.Images.Finding.{Pages, Tree, Catalog, Row, Live, Index, Unique, Long}

abbrev pub key_digits : List ℕ → List ℕ
key_digits key = flat_map (λ byte. digit_char (byte / 16) ∷ digit_char (byte % 16) ∷ []) key

abbrev pub have_want_text : ℕ → ℕ → List ℕ
have_want_text have want = codes " have " ++ (decimal have ++ (codes " want " ++ decimal want))

abbrev pub finding_text : Finding → List ℕ
finding_text (Pages page) = codes "integrity pages " ++ decimal page
finding_text (Tree root page) = codes "integrity tree " ++ (decimal root ++ (codes " page " ++ decimal page))
finding_text Catalog = codes "integrity catalog"
finding_text (Row table bookmark) = codes "integrity row " ++ (table ++ (codes " " ++ key_digits bookmark))
finding_text Live = codes "integrity live"
finding_text (Index table index key have want) = codes "integrity index " ++ (table ++ (codes " " ++ (index ++ (codes " " ++ (key_digits key ++ have_want_text have want)))))
finding_text (Unique table index key) = codes "integrity unique " ++ (table ++ (codes " " ++ (index ++ (codes " " ++ key_digits key))))
finding_text (Long entry place have want) = codes "integrity long " ++ (decimal entry ++ (codes " " ++ (decimal place ++ have_want_text have want)))
