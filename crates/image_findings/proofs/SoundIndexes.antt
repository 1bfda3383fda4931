-- The indexes of a consistent image are found by their numbers, and its primary ones as such.
use Rattle.std.proofs.Common.{◌≡◌, ◌<◌, ℕ, Bool, true, false, ◌&&◌, ◌||◌, cond, List, [], ◌∷◌, ◌++◌, Option, Some, None, refl, sym, ap, subst, ◌∙◌, arith}
use Rattle.std.specs.Prelude.{not, ◌==◌, map, filter, find, length, nat_le, nat_lt, bytes_eq, if◌then◌else◌}
use Rattle.std.specs.List.{AllByRecursion, list_all, list_any}
use Rattle.std.proofs.lemmas.Bool.{eqb-true, ltb-true}
use Rattle.catalog_grammar.specs.CatalogBytes.{item_fits}
use Rattle.catalog_grammar.specs.Catalogs.{CatalogTable, catalog_items, has_rising_parts, rise_above, tables_told, with_tagged_longs}
use Rattle.common_lemmas.proofs.Booleans.{and_left, and_right, impossible, or_swap}
use Rattle.common_lemmas.proofs.Found.{found_passes, of_found}
use Rattle.common_lemmas.proofs.Lists.{all_weaker}
use Rattle.common_lemmas.proofs.Numbers.{self_equal}
use Rattle.common_lemmas.proofs.Options.{some_apart}
use Rattle.database_state.specs.Lawful.{is_name}
use Rattle.database_state.specs.SchemaChanges.{has_column, rule_columns}
use Rattle.database_state.specs.Table.{Table, primary_first, schema_of}
use Rattle.index_derive.specs.Entries.{is_legal}
use Rattle.index_derive.specs.Schemas.{rule_with_id}
use Rattle.index_derive.specs.declared.rules.IndexRule.{IndexRule}
use Rattle.laws_engine.specs.ColumnNumbers.{has_own_numbers}
use Rattle.laws_images.specs.SoundStates.{is_sound_index}
use Rattle.laws_versions.proofs.KeyLemmas.IndexNumbers.{all_primary_first}
use Rattle.laws_versions.specs.UniqueKeys.{IsSoundIndex}
use Rattle.page_space.specs.Frames.{Frames}
use Rattle.image_findings.specs.CatalogFindings.{CatalogTold, differ, has_sound_columns, has_sound_indexes, in_order_of_making, is_sound_table, with_order}
use Rattle.image_findings.specs.TableContents.{TableContents, contents_below}
use Rattle.image_findings.proofs.Lists.{each_passes}
use Rattle.image_findings.proofs.Rows.{no_cons}
use Rattle.image_findings.proofs.SoundRecords.{many}
use Rattle.image_findings.proofs.Tests.{or_first, or_second}
use Rattle.image_findings.proofs.Told.{IsTold}

-- ---- indexes with numbers of their own

abbrev SameRule : IndexRule → IndexRule → Type 0
SameRule r s = r.id.0 ≡ s.id.0 → r ≡ s

-- of two of the rules with one number, both are the same
abbrev pub HaveOwnNumbers : List IndexRule → Type 0
HaveOwnNumbers rules = AllByRecursion (λ r. AllByRecursion (SameRule r) rules) rules

pub all_of_two : {X : Type 0} (P Q R : X → Type 0) → ((x : X) → P x → Q x → R x) → (xs : List X) → AllByRecursion P xs → AllByRecursion Q xs → AllByRecursion R xs
all_of_two P Q R both [] p q = tt
all_of_two P Q R both (x ∷ xs) p q = (both x p.0 q.0, all_of_two P Q R both xs p.1 q.1)

below_all : (low high : ℕ) → low < high → (index : ℕ × IndexRule) → high < index.1.id.0 → low < index.1.id.0
below_all low high p index q = omega (arith, p, q)

pub all_above : (low : ℕ) (indexes : List (ℕ × IndexRule)) → rise_above low (map (λ (index : ℕ × IndexRule). index.1.id.0) indexes) ≡ true → AllByRecursion (λ (index : ℕ × IndexRule). low < index.1.id.0) indexes
all_above low [] h = tt
all_above low (index ∷ indexes) h =
    let up = ltb-true low index.1.id.0 (and_left (nat_lt low index.1.id.0) (rise_above index.1.id.0 (map (λ (other : ℕ × IndexRule). other.1.id.0) indexes)) h) in
    let rest = all_above index.1.id.0 indexes (and_right (nat_lt low index.1.id.0) (rise_above index.1.id.0 (map (λ (other : ℕ × IndexRule). other.1.id.0) indexes)) h) in
    (up, all_weaker (λ (other : ℕ × IndexRule). index.1.id.0 < other.1.id.0) (λ (other : ℕ × IndexRule). low < other.1.id.0) (below_all low index.1.id.0 up) indexes rest)

apart : (low high : ℕ) → low < high → low ≡ high → ⊥
apart low high p e = omega (arith, p, e)

abbrev rules_of : List (ℕ × IndexRule) → List IndexRule
rules_of indexes = map (λ (index : ℕ × IndexRule). index.1) indexes

later_apart : (rule : IndexRule) (indexes : List (ℕ × IndexRule)) → AllByRecursion (λ (index : ℕ × IndexRule). rule.id.0 < index.1.id.0) indexes → AllByRecursion (SameRule rule) (rules_of indexes)
later_apart rule [] h = tt
later_apart rule (index ∷ indexes) h = ((λ e. absurd (apart rule.id.0 index.1.id.0 h.0 e)), later_apart rule indexes h.1)

earlier_apart : (rule : IndexRule) (indexes : List (ℕ × IndexRule)) → AllByRecursion (λ (index : ℕ × IndexRule). rule.id.0 < index.1.id.0) indexes → AllByRecursion (λ r. SameRule r rule) (rules_of indexes)
earlier_apart rule [] h = tt
earlier_apart rule (index ∷ indexes) h = ((λ e. absurd (apart rule.id.0 index.1.id.0 h.0 (sym e))), earlier_apart rule indexes h.1)

own_numbers : (low : ℕ) (indexes : List (ℕ × IndexRule)) → rise_above low (map (λ (index : ℕ × IndexRule). index.1.id.0) indexes) ≡ true → HaveOwnNumbers (rules_of indexes)
own_numbers low [] h = tt
own_numbers low (index ∷ indexes) h =
    let up = and_right (nat_lt low index.1.id.0) (rise_above index.1.id.0 (map (λ (other : ℕ × IndexRule). other.1.id.0) indexes)) h in
    let above = all_above index.1.id.0 indexes up in (
      ((λ e. refl), later_apart index.1 indexes above),
      all_of_two (λ r. SameRule r index.1) (λ r. AllByRecursion (SameRule r) (rules_of indexes)) (λ r. AllByRecursion (SameRule r) (rules_of (index ∷ indexes))) (λ r one all. (one, all)) (rules_of indexes) (earlier_apart index.1 indexes above) (own_numbers index.1.id.0 indexes up),
    )

-- ---- in the order of their making

pub with_order_all : (P : IndexRule → Type 0) (rule : IndexRule) (rules : List IndexRule) → P rule → AllByRecursion P rules → AllByRecursion P (with_order rule rules)
with_order_all P rule [] one all = (one, tt)
with_order_all P rule (other ∷ rules) one all = by (nat_lt rule.order other.order) (with_order_all P rule rules one all.1)
  where
    by : (b : Bool) → AllByRecursion P (with_order rule rules) → AllByRecursion P (if b then rule ∷ other ∷ rules else other ∷ with_order rule rules)
    by true rest = (one, all)
    by false rest = (all.0, rest)

pub in_order_all : (P : IndexRule → Type 0) (rules : List IndexRule) → AllByRecursion P rules → AllByRecursion P (in_order_of_making rules)
in_order_all P [] all = tt
in_order_all P (rule ∷ rules) all = with_order_all P rule (in_order_of_making rules) all.0 (in_order_all P rules all.1)

own_in_order : (rules : List IndexRule) → HaveOwnNumbers rules → HaveOwnNumbers (in_order_of_making rules)
own_in_order rules own =
    in_order_all (λ r. AllByRecursion (SameRule r) (in_order_of_making rules)) rules
    (all_weaker (λ r. AllByRecursion (SameRule r) rules) (λ r. AllByRecursion (SameRule r) (in_order_of_making rules)) (λ r all. in_order_all (SameRule r) rules all) rules own)

-- the indexes of each table have numbers of their own
pub each_own : (frames : Frames) (told : CatalogTold) → IsTold told → AllByRecursion (λ (t : TableContents). HaveOwnNumbers t.table.indexes) (map (contents_below frames) told.tables)
each_own frames told is =
    subst (λ (xs : List CatalogTable). AllByRecursion (λ (t : TableContents). HaveOwnNumbers t.table.indexes) (map (contents_below frames) xs)) (sym is.tables)
    (by (tables_told is.items)
    (and_right (rise_above 0 (map (λ (x : CatalogTable). x.table.id.0) (tables_told is.items))) (list_all has_rising_parts (tables_told is.items))
    (and_right (list_all item_fits (catalog_items told.greatest (tables_told is.items))) (rise_above 0 (map (λ (x : CatalogTable). x.table.id.0) (tables_told is.items)) && list_all has_rising_parts (tables_told is.items)) is.fits)))
  where
    by : (ys : List CatalogTable) → list_all has_rising_parts ys ≡ true → AllByRecursion (λ (t : TableContents). HaveOwnNumbers t.table.indexes) (map (contents_below frames) (map with_tagged_longs ys))
    by [] h = tt
    by (y ∷ ys) h = (
      own_in_order (rules_of y.indexes)
          (own_numbers 0 y.indexes (and_right (rise_above 0 (map (λ column. column.id.0) y.columns)) (rise_above 0 (map (λ (index : ℕ × IndexRule). index.1.id.0) y.indexes)) (and_left (has_rising_parts y) (list_all has_rising_parts ys) h))),
      by ys (and_right (has_rising_parts y) (list_all has_rising_parts ys) h),
    )

-- ---- found by a number

or_apart : (a b c : Bool) → (a || (b || c)) ≡ ((a || b) || c)
or_apart true b c = refl
or_apart false b c = refl

any_appended : {X : Type 0} (p : X → Bool) (xs ys : List X) → list_any p (xs ++ ys) ≡ (list_any p xs || list_any p ys)
any_appended p [] ys = refl
any_appended p (x ∷ xs) ys = ap (λ b. p x || b) (any_appended p xs ys) ∙ or_apart (p x) (list_any p xs) (list_any p ys)

any_parted : {X : Type 0} (p q : X → Bool) (xs : List X) → list_any p xs ≡ (list_any p (filter q xs) || list_any p (filter (λ x. not (q x)) xs))
any_parted p q [] = refl
any_parted {X} p q (x ∷ xs) = by (q x) (any_parted p q xs)
  where
    by : (b : Bool) → list_any p xs ≡ (list_any p (filter q xs) || list_any p (filter (λ y. not (q y)) xs))
        → (p x || list_any p xs) ≡ (list_any p (cond b (x ∷ filter q xs) (filter q xs)) || list_any p (cond (not b) (x ∷ filter (λ y. not (q y)) xs) (filter (λ y. not (q y)) xs)))
    by true e = ap (λ b. p x || b) e ∙ or_apart (p x) (list_any p (filter q xs)) (list_any p (filter (λ y. not (q y)) xs))
    by false e = ap (λ b. p x || b) e ∙ or_swap (p x) (list_any p (filter q xs)) (list_any p (filter (λ y. not (q y)) xs))

any_first : (p : IndexRule → Bool) (rules : List IndexRule) → list_any p rules ≡ true → list_any p (primary_first rules) ≡ true
any_first p rules h = any_appended p (filter (λ r. r.flags.primary) rules) (filter (λ r. not r.flags.primary) rules) ∙ sym (any_parted p (λ r. r.flags.primary) rules) ∙ h

found_there : (p : IndexRule → Bool) (rules : List IndexRule) → list_any p rules ≡ true → find p rules ≡ None → false ≡ true
found_there p [] h e = h
found_there p (rule ∷ rules) h e = by (p rule) h e (found_there p rules)
  where
    by : (b : Bool) → (b || list_any p rules) ≡ true → cond b (Some rule) (find p rules) ≡ None → (list_any p rules ≡ true → find p rules ≡ None → false ≡ true) → false ≡ true
    by true h e rest = absurd (some_apart rule e)
    by false h e rest = rest h e

found_own : (rules : List IndexRule) (rule : IndexRule) → list_any (λ (r : IndexRule). r.id.0 == rule.id.0) rules ≡ true → AllByRecursion (SameRule rule) rules → find (λ (r : IndexRule). r.id.0 == rule.id.0) (primary_first rules) ≡ Some rule
found_own rules rule there own = by (find (λ (r : IndexRule). r.id.0 == rule.id.0) (primary_first rules)) refl
  where
    by : (o : Option IndexRule) → find (λ (r : IndexRule). r.id.0 == rule.id.0) (primary_first rules) ≡ o → o ≡ Some rule
    by None e = impossible (found_there (λ (r : IndexRule). r.id.0 == rule.id.0) (primary_first rules) (any_first (λ (r : IndexRule). r.id.0 == rule.id.0) rules there) e)
    by (Some s) e =
        let same : s.id.0 ≡ rule.id.0 = eqb-true s.id.0 rule.id.0 (found_passes (λ (r : IndexRule). r.id.0 == rule.id.0) (primary_first rules) s e) in
        ap (λ (r : IndexRule). Some r) (sym (of_found (SameRule rule) (λ (r : IndexRule). r.id.0 == rule.id.0) (primary_first rules) s e (all_primary_first (SameRule rule) rules own) (sym same)))

-- each is found among them by its number
each_there : (rules : List IndexRule) → AllByRecursion (λ (rule : IndexRule). list_any (λ (r : IndexRule). r.id.0 == rule.id.0) rules ≡ true) rules
each_there [] = tt
each_there (rule ∷ rules) = (
  or_first (rule.id.0 == rule.id.0) (list_any (λ (r : IndexRule). r.id.0 == rule.id.0) rules) (self_equal rule.id.0),
  all_weaker (λ (s : IndexRule). list_any (λ (r : IndexRule). r.id.0 == s.id.0) rules ≡ true) (λ (s : IndexRule). list_any (λ (r : IndexRule). r.id.0 == s.id.0) (rule ∷ rules) ≡ true)
      (λ s e. or_second (rule.id.0 == s.id.0) (list_any (λ (r : IndexRule). r.id.0 == s.id.0) rules) e) rules (each_there rules),
)

-- ---- the primary index

none_left : (rules : List IndexRule) → filter (λ (r : IndexRule). r.flags.primary) rules ≡ [] → AllByRecursion (λ (rule : IndexRule). rule.flags.primary ≡ true → false ≡ true) rules
none_left [] e = tt
none_left (rule ∷ rules) e = by rule.flags.primary refl e (none_left rules)
  where
    by : (b : Bool) → rule.flags.primary ≡ b → cond b (rule ∷ filter (λ (r : IndexRule). r.flags.primary) rules) (filter (λ (r : IndexRule). r.flags.primary) rules) ≡ []
        → (filter (λ (r : IndexRule). r.flags.primary) rules ≡ [] → AllByRecursion (λ (other : IndexRule). other.flags.primary ≡ true → false ≡ true) rules) → (rule.flags.primary ≡ true → false ≡ true) × AllByRecursion (λ (other : IndexRule). other.flags.primary ≡ true → false ≡ true) rules
    by true f e rest = no_cons rule (filter (λ (r : IndexRule). r.flags.primary) rules) e
    by false f e rest = ((λ g. sym f ∙ g), rest e)

few_none : (rule : IndexRule) (rules : List IndexRule) → nat_le (length (rule ∷ rules)) 1 ≡ true → rules ≡ []
few_none rule [] h = refl
few_none rule (other ∷ rules) h = impossible (many (length rules) h)

abbrev FoundAmong : List IndexRule → IndexRule → Type 0
FoundAmong found rule = rule.flags.primary ≡ true → find (λ (r : IndexRule). r.flags.primary) found ≡ Some rule

one_primary : (rules more : List IndexRule) → nat_le (length (filter (λ (r : IndexRule). r.flags.primary) rules)) 1 ≡ true → AllByRecursion (FoundAmong (filter (λ (r : IndexRule). r.flags.primary) rules ++ more)) rules
one_primary [] more h = tt
one_primary (rule ∷ rules) more h = by rule.flags.primary refl h (one_primary rules more)
  where
    rest : List IndexRule
    rest = filter (λ (r : IndexRule). r.flags.primary) rules

    by : (b : Bool) → rule.flags.primary ≡ b → nat_le (length (cond b (rule ∷ rest) rest)) 1 ≡ true → (nat_le (length rest) 1 ≡ true → AllByRecursion (FoundAmong (rest ++ more)) rules)
        → FoundAmong (cond b (rule ∷ rest) rest ++ more) rule × AllByRecursion (FoundAmong (cond b (rule ∷ rest) rest ++ more)) rules
    by true e h others = (
      (λ g. ap (λ b. cond b (Some rule) (find (λ (r : IndexRule). r.flags.primary) (rest ++ more))) e),
      all_weaker (λ (r : IndexRule). r.flags.primary ≡ true → false ≡ true) (FoundAmong ((rule ∷ rest) ++ more)) (λ r none g. impossible (none g)) rules (none_left rules (few_none rule rest h)),
    )
    by false e h others = ((λ g. impossible (sym e ∙ g)), others h)

-- ---- all indexes

abbrev IsNumbered : Table → IndexRule → Type 0
IsNumbered table rule = rule_with_id (schema_of table) rule.id.0 ≡ Some rule

tested_index : (table : Table) (rule : IndexRule) → is_sound_index table rule ≡ true → (list_all (has_column table) (rule_columns rule) ≡ true) × (is_legal rule (schema_of table) ≡ true)
tested_index table rule h =
    let named = is_name rule.name && nat_le 1 rule.id.0 in (
      and_right named (list_all (has_column table) (rule_columns rule)) (and_left (named && list_all (has_column table) (rule_columns rule)) (is_legal rule (schema_of table)) h),
      and_right (named && list_all (has_column table) (rule_columns rule)) (is_legal rule (schema_of table)) h,
    )

pub sound_indexes : (table : Table) → is_sound_table table ≡ true → HaveOwnNumbers table.indexes → AllByRecursion (IsSoundIndex table) table.indexes
sound_indexes table h own =
    let tests = list_all (is_sound_index table) table.indexes in
    let names = differ (λ (r s : IndexRule). bytes_eq r.name s.name) table.indexes && differ (λ (r s : IndexRule). r.order == s.order) table.indexes in
    let few = nat_le (length table.indexes) 64 in
    let one = nat_le (length (filter (λ (r : IndexRule). r.flags.primary) table.indexes)) 1 in
    let indexes = and_right (has_sound_columns table) (has_sound_indexes table) (and_right (has_own_numbers table) (has_sound_columns table && has_sound_indexes table) h) in
    let single = and_right few one (and_right names (few && one) (and_right tests (names && (few && one)) indexes)) in
    all_of_two (λ rule. is_sound_index table rule ≡ true) (λ rule. IsNumbered table rule × FoundAmong (primary_first table.indexes) rule) (IsSoundIndex table)
    (λ rule test found. (found.0, (tested_index table rule test).0, λ primary. (found.1 primary, (tested_index table rule test).1))) table.indexes
    (each_passes (is_sound_index table) table.indexes (and_left tests (names && (few && one)) indexes))
    (all_of_two (IsNumbered table) (FoundAmong (primary_first table.indexes)) (λ rule. IsNumbered table rule × FoundAmong (primary_first table.indexes) rule) (λ rule numbered primary. (numbered, primary)) table.indexes
    (all_of_two (λ (rule : IndexRule). list_any (λ (r : IndexRule). r.id.0 == rule.id.0) table.indexes ≡ true) (λ rule. AllByRecursion (SameRule rule) table.indexes) (IsNumbered table) (λ rule there same. found_own table.indexes rule there same) table.indexes (each_there table.indexes) own)
    (one_primary table.indexes (filter (λ (r : IndexRule). not r.flags.primary) table.indexes) single))
