-- The keys of a catalog rise.
use Rattle.std.proofs.Common.{◌≡◌, ℕ, ◌+◌, ◌*◌, ◌^◌, ◌<◌, ◌≤◌, true, ltb, ◌&&◌, inl, inr, List, [], ◌∷◌, ◌++◌, get_or, refl, sym, ap, subst, ◌∙◌, arith}
use Rattle.std.specs.Prelude.{All, map}
use Rattle.std.specs.Int.{w16, w32, to_be_bytes}
use Rattle.std.specs.List.{flat_map, list_all}
use Rattle.std.specs.Ordering.{nat_cmp, ordering_then}
use Rattle.std.specs.declared.cmp.Ordering.TheVariants.{Less, Equal}
use Rattle.std.specs.Cmp.{nat_cmp_is}
use Rattle.std.specs.Cmp.Lexicographic.{slice_cmp}
use Rattle.std.proofs.lemmas.Bool.{and_parts, cases_lt, ltb-true}
use Rattle.std.proofs.lemmas.List.Elements.{All-cons, All-nil}
use Rattle.std.proofs.lemmas.List.Kept.{AllPairs-cons}
use Rattle.std.proofs.lemmas.Nat.{from_be_bytes-to_be_bytes_2, from_be_bytes-to_be_bytes_4}
use Rattle.page_image.specs.Page.{HasRisingKeys, IsBelow}
use Rattle.log_grammar.specs.EntryBytes.{column_fits, index_fits}
use Rattle.catalog_grammar.specs.CatalogBytes.{catalog_key, item_fits, item_id, item_key, item_kind, item_node, item_table}
use Rattle.catalog_grammar.specs.Catalogs.{CatalogTable, catalog_fits, catalog_items, catalog_nodes, column_items, has_rising_parts, index_items, rise_above}
use Rattle.catalog_grammar.specs.declared.items.CatalogItem.{CatalogItem}
use Rattle.catalog_grammar.specs.declared.items.CatalogItem.TheVariants as item

-- ---- byte strings

less_first : (x y : ℕ) (xs ys : List ℕ) → x < y → slice_cmp nat_cmp (x ∷ xs) (y ∷ ys) ≡ Less
less_first x y xs ys h = ap (λ r. ordering_then r (slice_cmp nat_cmp xs ys)) (sym (nat_cmp_is x y Less h))

same_first : (x y : ℕ) (xs ys : List ℕ) → x ≡ y → slice_cmp nat_cmp xs ys ≡ Less → slice_cmp nat_cmp (x ∷ xs) (y ∷ ys) ≡ Less
same_first x y xs ys e h = ap (λ r. ordering_then r (slice_cmp nat_cmp xs ys)) (sym (nat_cmp_is x y Equal e)) ∙ h

-- the first bytes decide, or those behind them do
first_or_later : (x y : ℕ) (xs ys : List ℕ) → x ≤ y → (x ≡ y → slice_cmp nat_cmp xs ys ≡ Less) → slice_cmp nat_cmp (x ∷ xs) (y ∷ ys) ≡ Less
first_or_later x y xs ys le later = elim (cases_lt x y) [
  | inl lt ↦ less_first x y xs ys lt
  | inr ge ↦ let e : x ≡ y = omega arith in same_first x y xs ys e (later e)
]

record Four (n a b c d : ℕ) : Type 0 where
  value : 16777216 * a + 65536 * b + 256 * c + d ≡ n
  b_low : b < 256
  c_low : c < 256
  d_low : d < 256

four_less : (m n a b c d e f g h : ℕ) (xs ys : List ℕ) → Four m a b c d → Four n e f g h → m < n → slice_cmp nat_cmp (a ∷ b ∷ c ∷ d ∷ xs) (e ∷ f ∷ g ∷ h ∷ ys) ≡ Less
four_less m n a b c d e f g h xs ys p q lt =
    first_or_later a e (b ∷ c ∷ d ∷ xs) (f ∷ g ∷ h ∷ ys) (omega arith) (λ one.
    first_or_later b f (c ∷ d ∷ xs) (g ∷ h ∷ ys) (omega arith) (λ two.
    first_or_later c g (d ∷ xs) (h ∷ ys) (omega arith) (λ three. less_first d h xs ys (omega arith))))

abbrev digit32 : ℕ → ℕ → ℕ
digit32 n k = get_or (to_be_bytes w32 n) k 0

four : (n : ℕ) → n < 2 ^ 32 → Four n (digit32 n 0) (digit32 n 1) (digit32 n 2) (digit32 n 3)
four n low = record { value = omega (arith, from_be_bytes-to_be_bytes_4 n low); b_low = omega arith; c_low = omega arith; d_low = omega arith }

less32 : (m n : ℕ) (xs ys : List ℕ) → m < n → n < 2 ^ 32 → slice_cmp nat_cmp (to_be_bytes w32 m ++ xs) (to_be_bytes w32 n ++ ys) ≡ Less
less32 m n xs ys lt low =
    let below : m < 2 ^ 32 = omega arith in
    four_less m n (digit32 m 0) (digit32 m 1) (digit32 m 2) (digit32 m 3) (digit32 n 0) (digit32 n 1) (digit32 n 2) (digit32 n 3) xs ys (four m below) (four n low) lt

record Two (n a b : ℕ) : Type 0 where
  value : 256 * a + b ≡ n
  b_low : b < 256

two_less : (m n a b e f : ℕ) (xs ys : List ℕ) → Two m a b → Two n e f → m < n → slice_cmp nat_cmp (a ∷ b ∷ xs) (e ∷ f ∷ ys) ≡ Less
two_less m n a b e f xs ys p q lt = first_or_later a e (b ∷ xs) (f ∷ ys) (omega arith) (λ one. less_first b f xs ys (omega arith))

abbrev digit16 : ℕ → ℕ → ℕ
digit16 n k = get_or (to_be_bytes w16 n) k 0

two : (n : ℕ) → n < 2 ^ 16 → Two n (digit16 n 0) (digit16 n 1)
two n low = record { value = omega (arith, from_be_bytes-to_be_bytes_2 n low); b_low = omega arith }

less16 : (m n : ℕ) (xs ys : List ℕ) → m < n → n < 2 ^ 16 → slice_cmp nat_cmp (to_be_bytes w16 m ++ xs) (to_be_bytes w16 n ++ ys) ≡ Less
less16 m n xs ys lt low =
    let below : m < 2 ^ 16 = omega arith in
    two_less m n (digit16 m 0) (digit16 m 1) (digit16 n 0) (digit16 n 1) xs ys (two m below) (two n low) lt

same_front : (front xs ys : List ℕ) → slice_cmp nat_cmp xs ys ≡ Less → slice_cmp nat_cmp (front ++ xs) (front ++ ys) ≡ Less
same_front [] xs ys h = h
same_front (x ∷ front) xs ys h = same_first x x (front ++ xs) (front ++ ys) refl (same_front front xs ys h)

-- ---- items

abbrev pub Below : CatalogItem → CatalogItem → Type 0
Below x y = IsBelow (item_key x) (item_key y)

record Small (x : CatalogItem) : Type 0 where
  table : item_table x < 2 ^ 32
  id : item_id x < 2 ^ 16

small : (x : CatalogItem) → item_fits x ≡ true → Small x
small (item.Greatest greatest) h = record { table = omega arith; id = omega arith }
small (item.Table table) h = record { table = ltb-true _ _ (and_parts (ltb table.id.0 (2 ^ 32)) _ h).0; id = omega arith }
small (item.Column table column) h =
    let a = and_parts (ltb table.0 (2 ^ 32)) (column_fits column) h in
    record { table = ltb-true _ _ a.0; id = ltb-true _ _ (and_parts (ltb column.id.0 (2 ^ 16)) _ a.1).0 }
small (item.Index table root index) h =
    let a = and_parts (ltb table.0 (2 ^ 32)) (ltb root (2 ^ 32) && index_fits index) h in
    let b = and_parts (ltb root (2 ^ 32)) (index_fits index) a.1 in
    record { table = ltb-true _ _ a.0; id = ltb-true _ _ (and_parts (ltb index.id.0 (2 ^ 16)) _ b.1).0 }

below_kind : (x y : CatalogItem) → item_kind x < item_kind y → Below x y
below_kind x y lt = less_first (item_kind x) (item_kind y) (to_be_bytes w32 (item_table x) ++ to_be_bytes w16 (item_id x)) (to_be_bytes w32 (item_table y) ++ to_be_bytes w16 (item_id y)) lt

below_table : (x y : CatalogItem) → item_kind x ≡ item_kind y → item_table x < item_table y → Small y → Below x y
below_table x y k lt s =
    same_first (item_kind x) (item_kind y) (to_be_bytes w32 (item_table x) ++ to_be_bytes w16 (item_id x)) (to_be_bytes w32 (item_table y) ++ to_be_bytes w16 (item_id y)) k
    (less32 (item_table x) (item_table y) (to_be_bytes w16 (item_id x)) (to_be_bytes w16 (item_id y)) lt s.table)

key_less : (kind table m n : ℕ) → m < n → n < 2 ^ 16 → IsBelow (catalog_key kind table m) (catalog_key kind table n)
key_less kind table m n lt low =
    same_front (kind ∷ to_be_bytes w32 table) (to_be_bytes w16 m) (to_be_bytes w16 n) (less16 m n [] [] lt low)

below_id : (x y : CatalogItem) → item_kind x ≡ item_kind y → item_table x ≡ item_table y → item_id x < item_id y → Small y → Below x y
below_id x y k t lt s =
    let P : ℕ → Type 0 = λ n. IsBelow (item_key x) (catalog_key n (item_table y) (item_id y)) in
    let Q : ℕ → Type 0 = λ n. IsBelow (item_key x) (catalog_key (item_kind x) n (item_id y)) in
    subst P k (subst Q t (key_less (item_kind x) (item_table x) (item_id x) (item_id y) lt s.id))

-- ---- each item of a list

abbrev pub Each : (CatalogItem → Type 0) → List CatalogItem → Type 0
Each P [] = Unit {0}
Each P (x ∷ xs) = P x × Each P xs

Each-append : (P : CatalogItem → Type 0) (xs ys : List CatalogItem) → Each P xs → Each P ys → Each P (xs ++ ys)
Each-append P [] ys h k = k
Each-append P (x ∷ xs) ys h k = (h.0, Each-append P xs ys h.1 k)

Each-left : (P : CatalogItem → Type 0) (xs ys : List CatalogItem) → Each P (xs ++ ys) → Each P xs
Each-left P [] ys h = tt
Each-left P (x ∷ xs) ys h = (h.0, Each-left P xs ys h.1)

Each-right : (P : CatalogItem → Type 0) (xs ys : List CatalogItem) → Each P (xs ++ ys) → Each P ys
Each-right P [] ys h = h
Each-right P (x ∷ xs) ys h = Each-right P xs ys h.1

Each-made : (P Q : CatalogItem → Type 0) → ((x : CatalogItem) → P x → Q x) → (xs : List CatalogItem) → Each P xs → Each Q xs
Each-made P Q f [] h = tt
Each-made P Q f (x ∷ xs) h = (f x h.0, Each-made P Q f xs h.1)

each_small : (xs : List CatalogItem) → list_all item_fits xs ≡ true → Each Small xs
each_small [] h = tt
each_small (x ∷ xs) h = let a = and_parts (item_fits x) (list_all item_fits xs) h in (small x a.0, each_small xs a.1)

-- ---- rising items

abbrev pub Rise : List CatalogItem → Type 0
Rise [] = Unit {0}
Rise (x ∷ xs) = Each (Below x) xs × Rise xs

Rise-append : (xs ys : List CatalogItem) → Rise xs → Rise ys → Each (λ x. Each (Below x) ys) xs → Rise (xs ++ ys)
Rise-append [] ys h k across = k
Rise-append (x ∷ xs) ys h k across = (Each-append (Below x) xs ys h.0 across.0, Rise-append xs ys h.1 k across.1)

-- of a kind, and of a table above a number
record Placed (kind low : ℕ) (x : CatalogItem) : Type 0 where
  kind_is : item_kind x ≡ kind
  above : low < item_table x
  fits : Small x

-- of a kind and a table, with a number above one
record Own (kind table low : ℕ) (x : CatalogItem) : Type 0 where
  kind_is : item_kind x ≡ kind
  table_is : item_table x ≡ table
  above : low < item_id x
  fits : Small x

later_kinds : (kind later low : ℕ) (x : CatalogItem) (ys : List CatalogItem) → kind < later → item_kind x ≡ kind → Each (Placed later low) ys → Each (Below x) ys
later_kinds kind later low x ys lt is h = Each-made (Placed later low) (Below x) (λ y p. below_kind x y (omega (arith, p.kind_is))) ys h

across_kinds : (kind later low low' : ℕ) (xs ys : List CatalogItem) → kind < later → Each (Placed kind low) xs → Each (Placed later low') ys → Each (λ x. Each (Below x) ys) xs
across_kinds kind later low low' xs ys lt h k = Each-made (Placed kind low) (λ x. Each (Below x) ys) (λ x p. later_kinds kind later low' x ys lt p.kind_is k) xs h

lower : (kind low high : ℕ) (xs : List CatalogItem) → low ≤ high → Each (Placed kind high) xs → Each (Placed kind low) xs
lower kind low high xs le h = Each-made (Placed kind high) (Placed kind low) (λ x p. record { kind_is = p.kind_is; above = omega (arith, p.above); fits = p.fits }) xs h

-- items of one kind and table by rising number
part_rises : {X : Type 0} (kind table : ℕ) (to : X → CatalogItem) → ((x : X) → item_kind (to x) ≡ kind) → ((x : X) → item_table (to x) ≡ table) → (low : ℕ) (xs : List X) → rise_above low (map (λ x. item_id (to x)) xs) ≡ true → Each Small (map to xs)
    → Each (Own kind table low) (map to xs) × Rise (map to xs)
part_rises kind table to k t low [] h s = (tt, tt)
part_rises {X = X} kind table to k t low (x ∷ xs) h s =
    let id = item_id (to x) in
    let a = and_parts (ltb low id) (rise_above id (map (λ (y : X). item_id (to y)) xs)) h in
    let lt : low < id = ltb-true _ _ a.0 in
    let rest = part_rises kind table to k t id xs a.1 s.1 in
    let own : Own kind table low (to x) = record { kind_is = k x; table_is = t x; above = lt; fits = s.0 } in
    let later : Each (Own kind table low) (map to xs) = Each-made (Own kind table id) (Own kind table low) (λ y p. record { kind_is = p.kind_is; table_is = p.table_is; above = omega (arith, lt, p.above); fits = p.fits }) (map to xs) rest.0 in
    let below : Each (Below (to x)) (map to xs) = Each-made (Own kind table id) (Below (to x)) (λ y p. below_id (to x) y (k x ∙ sym p.kind_is) (t x ∙ sym p.table_is) p.above p.fits) (map to xs) rest.0 in
    ((own, later), (below, rest.1))

-- the tables themselves
tables_rise : (low : ℕ) (tables : List CatalogTable) → rise_above low (map (λ x. x.table.id.0) tables) ≡ true → Each Small (map (λ x. item.Table x.table) tables) → Each (Placed 1 low) (map (λ x. item.Table x.table) tables) × Rise (map (λ x. item.Table x.table) tables)
tables_rise low [] h s = (tt, tt)
tables_rise low (x ∷ xs) h s =
    let id = x.table.id.0 in
    let a = and_parts (ltb low id) (rise_above id (map (λ (y : CatalogTable). y.table.id.0) xs)) h in
    let lt : low < id = ltb-true _ _ a.0 in
    let rest = tables_rise id xs a.1 s.1 in
    let items : List CatalogItem = map (λ y. item.Table y.table) xs in
    let placed : Placed 1 low (item.Table x.table) = record { kind_is = refl; above = lt; fits = s.0 } in
    let le : low ≤ id = omega arith in
    let below : Each (Below (item.Table x.table)) items = Each-made (Placed 1 id) (Below (item.Table x.table)) (λ y p. below_table (item.Table x.table) y (sym p.kind_is) p.above p.fits) items rest.0 in
    ((placed, lower 1 low id items le rest.0), (below, rest.1))

-- what each table has of a kind, table by table
flat_rises : (kind : ℕ) (part : CatalogTable → List CatalogItem) → ((x : CatalogTable) → has_rising_parts x ≡ true → Each Small (part x) → Each (Own kind x.table.id.0 0) (part x) × Rise (part x))
    → (low : ℕ) (tables : List CatalogTable) → rise_above low (map (λ x. x.table.id.0) tables) ≡ true → list_all has_rising_parts tables ≡ true → Each Small (flat_map part tables) → Each (Placed kind low) (flat_map part tables) × Rise (flat_map part tables)
flat_rises kind part one low [] h parts s = (tt, tt)
flat_rises kind part one low (x ∷ xs) h parts s =
    let id = x.table.id.0 in
    let a = and_parts (ltb low id) (rise_above id (map (λ (y : CatalogTable). y.table.id.0) xs)) h in
    let b = and_parts (has_rising_parts x) (list_all has_rising_parts xs) parts in
    let lt : low < id = ltb-true _ _ a.0 in
    let own = one x b.0 (Each-left Small (part x) (flat_map part xs) s) in
    let rest = flat_rises kind part one id xs a.1 b.1 (Each-right Small (part x) (flat_map part xs) s) in
    let le : low ≤ id = omega arith in
    let placed : Each (Placed kind low) (part x) = Each-made (Own kind id 0) (Placed kind low) (λ y p. record { kind_is = p.kind_is; above = omega (arith, lt, p.table_is); fits = p.fits }) (part x) own.0 in
    let across : Each (λ y. Each (Below y) (flat_map part xs)) (part x) =
    Each-made (Own kind id 0) (λ y. Each (Below y) (flat_map part xs)) (λ y p. Each-made (Placed kind id) (Below y) (λ z q. below_table y z (p.kind_is ∙ sym q.kind_is) (omega (arith, p.table_is, q.above)) q.fits) (flat_map part xs) rest.0) (part x) own.0 in
    (Each-append (Placed kind low) (part x) (flat_map part xs) placed (lower kind low id (flat_map part xs) le rest.0), Rise-append (part x) (flat_map part xs) own.1 rest.1 across)

columns_rise : (x : CatalogTable) → has_rising_parts x ≡ true → Each Small (column_items x) → Each (Own 2 x.table.id.0 0) (column_items x) × Rise (column_items x)
columns_rise x h s =
    let a = and_parts (rise_above 0 (map (λ column. column.id.0) x.columns)) (rise_above 0 (map (λ index. index.1.id.0) x.indexes)) h in
    part_rises 2 x.table.id.0 (λ column. item.Column x.table.id column) (λ column. refl) (λ column. refl) 0 x.columns a.0 s

indexes_rise : (x : CatalogTable) → has_rising_parts x ≡ true → Each Small (index_items x) → Each (Own 3 x.table.id.0 0) (index_items x) × Rise (index_items x)
indexes_rise x h s =
    let a = and_parts (rise_above 0 (map (λ column. column.id.0) x.columns)) (rise_above 0 (map (λ index. index.1.id.0) x.indexes)) h in
    part_rises 3 x.table.id.0 (λ index. item.Index x.table.id index.0 index.1) (λ index. refl) (λ index. refl) 0 x.indexes a.1 s

pub items_rise : (greatest : ℕ) (tables : List CatalogTable) → catalog_fits greatest tables ≡ true → Rise (catalog_items greatest tables)
items_rise greatest tables h =
    let t : List CatalogItem = map (λ x. item.Table x.table) tables in
    let c = flat_map column_items tables in
    let i = flat_map index_items tables in
    let ids = rise_above 0 (map (λ (x : CatalogTable). x.table.id.0) tables) in
    let a = and_parts (list_all item_fits (catalog_items greatest tables)) (ids && list_all has_rising_parts tables) h in
    let b = and_parts ids (list_all has_rising_parts tables) a.1 in
    let s = (each_small (catalog_items greatest tables) a.0).1 in
    let s' = Each-right Small t (c ++ i) s in
    let first = tables_rise 0 tables b.0 (Each-left Small t (c ++ i) s) in
    let second = flat_rises 2 column_items columns_rise 0 tables b.0 b.1 (Each-left Small c i s') in
    let third = flat_rises 3 index_items indexes_rise 0 tables b.0 b.1 (Each-right Small c i s') in
    let behind : Rise (c ++ i) = Rise-append c i second.1 third.1 (across_kinds 2 3 0 0 c i (omega arith) second.0 third.0) in
    let across : Each (λ x. Each (Below x) (c ++ i)) t = Each-made (Placed 1 0) (λ x. Each (Below x) (c ++ i)) (λ x p. Each-append (Below x) c i (later_kinds 1 2 0 x c (omega arith) p.kind_is second.0) (later_kinds 1 3 0 x i (omega arith) p.kind_is third.0)) t first.0 in
    let g = item.Greatest greatest in
    let above : Each (Below g) (t ++ (c ++ i)) = Each-append (Below g) t (c ++ i) (later_kinds 0 1 0 g t (omega arith) refl first.0) (Each-append (Below g) c i (later_kinds 0 2 0 g c (omega arith) refl second.0) (later_kinds 0 3 0 g i (omega arith) refl third.0)) in
    (above, Rise-append t (c ++ i) first.1 behind across)

-- ---- their nodes

all_below : (x : CatalogItem) (xs : List CatalogItem) → Each (Below x) xs → All (λ n. IsBelow (item_key x) n.key) (map item_node xs)
all_below x [] h = All-nil (λ n. IsBelow (item_key x) n.key)
all_below x (y ∷ ys) h = All-cons (λ n. IsBelow (item_key x) n.key) (item_node y) (map item_node ys) h.0 (all_below x ys h.1)

nodes_rise : (xs : List CatalogItem) → Rise xs → HasRisingKeys (map item_node xs)
nodes_rise [] h = λ i j d lt past. absurd (omega arith)
nodes_rise (x ∷ xs) h = AllPairs-cons (λ a b. IsBelow a.key b.key) (item_node x) (map item_node xs) (all_below x xs h.0) (nodes_rise xs h.1)

pub catalog_rises : (greatest : ℕ) (tables : List CatalogTable) → catalog_fits greatest tables ≡ true → HasRisingKeys (catalog_nodes greatest tables)
catalog_rises greatest tables h = nodes_rise (catalog_items greatest tables) (items_rise greatest tables h)
