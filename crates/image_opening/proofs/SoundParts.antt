-- Parts of a catalog that are sound: numbers and names of their own.
use Rattle.std.proofs.Common.{◌≡◌, ℕ, zero, suc, ◌-◌, ◌<◌, ◌≤◌, Bool, true, false, List, [], ◌∷◌, get_or, length, map, take, refl, sym, ap, ◌∙◌, arith}
use Rattle.std.specs.Prelude.{◌==◌, ◌&&◌, ◌||◌, bytes_eq, drop, nat_le, nat_lt, not}
use Rattle.std.specs.List.{list_all, list_any}
use Rattle.std.proofs.lemmas.Bool.Decides.{nat_tests}
use Rattle.std.proofs.lemmas.List.{take_all}
use Rattle.common_lemmas.proofs.Booleans.{and_left, and_right}
use Rattle.catalog_grammar.specs.Catalogs.{rise_above}
use Rattle.catalog_grammar.proofs.Numbered.{none_above}
use Rattle.column_set.specs.declared.columns.Column.{Column}
use Rattle.database_state.specs.Lawful.{is_name}
use Rattle.database_state.specs.SchemaChanges.{is_long_column, is_type_long}
use Rattle.index_derive.specs.Entries.{has_double}
use Rattle.laws_images.specs.SoundStates.{is_number_of_kind, is_sound_column}
use Rattle.session_local.specs.SessionSide.{are_distinct}
use Rattle.session_local.specs.WellFormed.{number_of_column}
use Rattle.image_findings.specs.CatalogFindings.{differ}

-- ---- tests one after another

pub and_again : (a b c : Bool) → ((a && b) && c) ≡ (a && (b && c))
and_again true b c = refl
and_again false b c = refl

pub few_first : (a b few one : Bool) → few ≡ true → (a && (b && one)) ≡ (a && (b && (few && one)))
few_first a b few one e = ap (λ f. a && (b && (f && one))) (sym e)

-- ---- the first and the others

abbrev others : {X : Type 0} → List X → List X
others xs = take (length xs - 1) (drop 1 xs)

first_of : {X : Type 0} (xs : List X) (x : X) → 1 ≤ length xs → x ≡ get_or xs 0 x → xs ≡ x ∷ others xs
first_of [] x some is = absurd (omega (arith, some))
first_of (y ∷ xs) x some is = λ i. sym is i ∷ sym (take_all (length (y ∷ xs) - 1) xs (omega arith)) i

pub differ_next : {X : Type 0} (same : X → X → Bool) (xs : List X) (x : X) → 1 ≤ length xs → x ≡ get_or xs 0 x → list_any (same x) (others xs) ≡ false → differ same xs ≡ differ same (others xs)
differ_next same xs x some is none = ap (differ same) (first_of xs x some is) ∙ ap (λ b. not b && differ same (others xs)) none

pub differ_stops : {X : Type 0} (same : X → X → Bool) (xs : List X) (x : X) → 1 ≤ length xs → x ≡ get_or xs 0 x → list_any (same x) (others xs) ≡ true → differ same xs ≡ false
differ_stops same xs x some is any = ap (differ same) (first_of xs x some is) ∙ ap (λ b. not b && differ same (others xs)) any

-- ---- numbers

any_number : (id : ℕ) (columns : List Column) → list_any (λ other. other == id) (map number_of_column columns) ≡ list_any (λ (d : Column). d.id.0 == id) columns
any_number id [] = refl
any_number id (d ∷ columns) = ap (λ b. (d.id.0 == id) || b) (any_number id columns)

pub distinct_next : (xs : List Column) (x : Column) → 1 ≤ length xs → x ≡ get_or xs 0 x → list_any (λ (d : Column). d.id.0 == x.id.0) (others xs) ≡ false → are_distinct (map number_of_column xs) ≡ are_distinct (map number_of_column (others xs))
distinct_next xs x some is none =
    ap (λ (l : List Column). are_distinct (map number_of_column l)) (first_of xs x some is)
    ∙ ap (λ b. not b && are_distinct (map number_of_column (others xs))) (any_number x.id.0 (others xs) ∙ none)

pub distinct_stops : (xs : List Column) (x : Column) → 1 ≤ length xs → x ≡ get_or xs 0 x → list_any (λ (d : Column). d.id.0 == x.id.0) (others xs) ≡ true → are_distinct (map number_of_column xs) ≡ false
distinct_stops xs x some is any =
    ap (λ (l : List Column). are_distinct (map number_of_column l)) (first_of xs x some is)
    ∙ ap (λ b. not b && are_distinct (map number_of_column (others xs))) (any_number x.id.0 (others xs) ∙ any)

-- numbers that rise differ
pub distinct_when_rising : (low : ℕ) (columns : List Column) → rise_above low (map number_of_column columns) ≡ true → are_distinct (map number_of_column columns) ≡ true
distinct_when_rising low [] h = refl
distinct_when_rising low (c ∷ columns) h =
    let rest = and_right (nat_lt low c.id.0) (rise_above c.id.0 (map number_of_column columns)) h in
    ap (λ b. not b && are_distinct (map number_of_column columns)) (none_of c.id.0 c.id.0 columns (omega arith) rest) ∙ distinct_when_rising c.id.0 columns rest
  where
    none_of : (id low : ℕ) (cs : List Column) → id ≤ low → rise_above low (map number_of_column cs) ≡ true → list_any (λ other. other == id) (map number_of_column cs) ≡ false
    none_of id low cs le h = any_number id cs ∙ none_above number_of_column id low cs le h

-- ---- names

any_name : (c : Column) (columns : List Column) → list_any (bytes_eq c.name) (map (λ (d : Column). d.name) columns) ≡ list_any (λ (d : Column). bytes_eq c.name d.name) columns
any_name c [] = refl
any_name c (d ∷ columns) = ap (λ b. bytes_eq c.name d.name || b) (any_name c columns)

not_either : (a b : Bool) → not (a || b) ≡ (not a && not b)
not_either true b = refl
not_either false b = refl

-- names differ where none stands twice
pub names_differ : (columns : List Column) → not (has_double (map (λ (c : Column). c.name) columns)) ≡ differ (λ (c d : Column). bytes_eq c.name d.name) columns
names_differ [] = refl
names_differ (c ∷ columns) =
    not_either (list_any (bytes_eq c.name) (map (λ (d : Column). d.name) columns)) (has_double (map (λ (d : Column). d.name) columns))
    ∙ ap (λ b. not b && not (has_double (map (λ (d : Column). d.name) columns))) (any_name c columns)
    ∙ ap (λ b. not (list_any (λ (d : Column). bytes_eq c.name d.name) columns) && b) (names_differ columns)

-- each of sound columns has a name
pub name_of_sound : (columns : List Column) (i : ℕ) (c : Column) → i < length columns → c ≡ get_or columns i c → list_all is_sound_column columns ≡ true → is_name c.name ≡ true
name_of_sound [] i c within is h = absurd (omega (arith, within))
name_of_sound (d ∷ columns) zero c within is h =
    ap (λ (e : Column). is_name e.name) is
    ∙ first (is_name d.name) (is_number_of_kind d.kind d.tagged d.id.0) (d.tagged || not (is_long_column d)) (not d.multi || d.tagged) (not d.escrow || (is_type_long d.kind && (not d.tagged && not d.multi))) (and_left (is_sound_column d) (list_all is_sound_column columns) h)
  where
    first : (n k t m e : Bool) → (n && k && t && m && e) ≡ true → n ≡ true
    first true k t m e h = refl
    first false k t m e h = h
name_of_sound (d ∷ columns) (suc i) c within is h = name_of_sound columns i c (omega (arith, within)) is (and_right (is_sound_column d) (list_all is_sound_column columns) h)

pub name_fits : (name : List ℕ) → is_name name ≡ true → length name ≤ 255
name_fits name h = most (length name) (and_right (nat_le 1 (length name)) (nat_le (length name) 64) h)
  where
    most : (n : ℕ) → nat_le n 64 ≡ true → n ≤ 255
    most n e = grind (arith, nat_tests, e)
