-- The fault that is told of the least value is the finding.
use Rattle.std.proofs.Common.{◌≡◌, ℕ, zero, suc, ◌-◌, ◌≤◌, List, [], ◌∷◌, ◌++◌, length, take, drop, Option, Some, None, inl, inr, refl, sym, ap, ◌∙◌, arith}
use Rattle.std.specs.Prelude.{min, option_map}
use Rattle.std.proofs.lemmas.Bool.{cases_lt}
use Rattle.std.proofs.lemmas.List.{take_all}
use Rattle.byteorder.specs.Endian.{big_number}
use Rattle.btree_inplace.specs.Trees.{nodes_of}
use Rattle.image_findings.specs.Images.{Finding, least_key}
use Rattle.image_findings.specs.Images.Finding.{Long}
use Rattle.image_findings.specs.TableContents.{TableContents, wanted_count}
use Rattle.image_findings.specs.ValueFindings.{broken_values, entry_in, found_value, missing_values, place_in, value_finding}
use Rattle.image_opening.specs.OpenedTrees.{HasContents}
use Rattle.image_opening.specs.declared.opened.OpenedTable.{OpenedTable}
use Rattle.page_image.specs.Page.{Node}
use Rattle.page_space.specs.Frames.{Frames}
use Rattle.version_store.specs.HeldChanges.{HeldChange}
use Rattle.image_contents.specs.HeadlessValues.{headless_of, least_of, lesser}
use Rattle.image_contents.specs.ReferringRows.{counted, referring_rows}
use Rattle.image_contents.proofs.LeastMissing.{least_is}
use Rattle.image_contents.proofs.RowsReferring.{counted_is}

-- the rows that are read are those of what the table has
rows_are : (frames : Frames) (table : OpenedTable) (t : TableContents) (held : List HeldChange) → HasContents frames table t → referring_rows table.table.0 (nodes_of frames table.nodes) held ≡ referring_rows t.table.id t.nodes held
rows_are frames table t held has = (λ i. referring_rows (has.number i) (has.nodes_are i) held)

-- the lesser of both is the least of all
pub both_are : (number : ℕ) (frames : Frames) (table : OpenedTable) (t : TableContents) (held : List HeldChange) (broken missing all : Option (List ℕ)) → HasContents frames table t → broken ≡ least_key (broken_values number t)
    → missing ≡ least_of None (headless_of (nodes_of frames table.long_values) (referring_rows table.table.0 (nodes_of frames table.nodes) held)) → all ≡ lesser broken missing → all ≡ least_key (broken_values number t ++ missing_values held t)
both_are number frames table t held broken missing all has is_broken is_missing is =
    is ∙ ap (λ o. lesser o missing) is_broken
    ∙ ap (lesser (least_key (broken_values number t))) (is_missing ∙ (λ i. least_of None (headless_of (has.values_are i) (rows_are frames table t held has i))))
    ∙ least_is number t held

pub count_is : (frames : Frames) (table : OpenedTable) (t : TableContents) (held : List HeldChange) (id : List ℕ) (count : ℕ) → HasContents frames table t → count ≡ counted id (referring_rows table.table.0 (nodes_of frames table.nodes) held) → count ≡ wanted_count held t id
count_is frames table t held id count has is = is ∙ ap (counted id) (rows_are frames table t held has) ∙ counted_is id t.table.id t.nodes held

pub found_is : (number : ℕ) (t : TableContents) (held : List HeldChange) (all : Option (List ℕ)) (id : List ℕ) (entry place have wanted : ℕ) → all ≡ Some id → all ≡ least_key (broken_values number t ++ missing_values held t)
    → entry ≡ entry_in id → place ≡ place_in id → have ≡ 0 → wanted ≡ wanted_count held t id → Some (Long entry place have wanted) ≡ value_finding number held t
found_is number t held all id entry place have wanted some is of-entry of-place none of-rows =
    (λ i. Some (Long (of-entry i) (of-place i) (none i) (of-rows i))) ∙ ap (option_map (found_value held t 0)) (sym some ∙ is)

pub none_is : (number : ℕ) (t : TableContents) (held : List HeldChange) (all : Option (List ℕ)) → all ≡ None → all ≡ least_key (broken_values number t ++ missing_values held t) → None ≡ value_finding number held t
none_is number t held all none is = ap (option_map (found_value held t 0)) (sym none ∙ is)

-- ---- the place in an identifier

abbrev part : List ℕ → ℕ → List ℕ
part id start = take (length id - start) (drop start id)

gone : (id : List ℕ) (n : ℕ) → length id ≤ n → drop n id ≡ []
gone [] zero le = refl
gone [] (suc n) le = refl
gone (x ∷ id) zero le = absurd (omega (arith, le))
gone (x ∷ id) (suc n) le = gone id n (omega (arith, le))

none_taken : (id : List ℕ) (n : ℕ) → id ≡ [] → take n id ≡ []
none_taken [] zero e = refl
none_taken [] (suc n) e = refl
none_taken (x ∷ id) n e = absurd cc

left_long : (id : List ℕ) (n : ℕ) → length (drop n id) ≤ length id - n
left_long [] zero = omega arith
left_long [] (suc n) = omega arith
left_long (x ∷ id) zero = omega arith
left_long (x ∷ id) (suc n) = omega (arith, left_long id n)

part_is : (id : List ℕ) (start : ℕ) → start ≡ min (length id) 8 → part id start ≡ drop 8 id
part_is id start is = elim (cases_lt (length id) 8) [
  | inl lt ↦ none_taken (drop start id) (length id - start) (gone id start (omega (arith, is, lt))) ∙ sym (gone id 8 (omega (arith, lt)))
  | inr le ↦ let at : start ≡ 8 = omega (arith, is, le) in ap (part id) at ∙ take_all (length id - 8) (drop 8 id) (left_long id 8)
]

pub place_read : (id : List ℕ) (start place : ℕ) → start ≡ min (length id) 8 → place ≡ big_number 4 (take 4 (part id start)) → place ≡ place_in id
place_read id start place is read = read ∙ ap (λ (l : List ℕ). big_number 4 (take 4 l)) (part_is id start is)
