-- The laws of nodes.
use Rattle.std.proofs.Common.{◌≡◌, ℕ, ◌^◌, Bool, true, cond, ltb, eqb, ◌&&◌, List, [], ◌∷◌, ◌++◌, length, Option, Some, None, refl, sym, ap, subst, ◌∙◌}
use Rattle.std.specs.Int.{w16, w32, to_be_bytes, to_le_bytes}
use Rattle.std.proofs.lemmas.Bool.{and_parts, and_from, eqb-true, eq-eqb}
use Rattle.std.proofs.lemmas.List.{append-nil, nil_from_length}
use Rattle.jet_base.specs.Ids.{table_id}
use Rattle.column_set.specs.NumberReading.{◌>>=◌, number_at, IsBytes, bind_some, passed_some, some_is}
use Rattle.index_derive.specs.declared.rules.IndexRule.{IndexRule}
use Rattle.log_grammar.specs.EntryBytes.{column_bytes, column_fits, index_fits}
use Rattle.log_grammar.specs.EntryReading.{changed, column_at}
use Rattle.log_grammar.proofs.EntryLaws.{case_of}
use Rattle.log_grammar.proofs.Laws.{Laws, laws32}
use Rattle.log_grammar.proofs.SchemaLaws.{column_laws}
use Rattle.catalog_grammar.specs.CatalogBytes.{Tells, catalog_key, index_data, item_data, item_fits, item_id, item_key, item_kind, item_table, table_data, table_fits}
use Rattle.catalog_grammar.specs.CatalogReading.{item_at, item_of, key_at, rooted_index_at, table_at, whole}
use Rattle.catalog_grammar.specs.declared.items.CatalogItem.{CatalogItem}
use Rattle.catalog_grammar.specs.declared.items.CatalogItem.TheVariants as item
use Rattle.catalog_grammar.proofs.DataLaws.{rooted_fits, rooted_laws, table_laws}
use Rattle.catalog_grammar.proofs.KeyLaws.{key_fits, key_laws}

-- ---- what is read to its end

pub whole_again : {A B : Type 0} (w : A → List ℕ) (f : A → Bool) (r : List ℕ → Option (A × List ℕ)) (to : A → B) → Laws w f r → (x : A) → f x ≡ true → whole (changed to r (w x)) ≡ Some (to x)
whole_again {A = A} {B = B} w f r to laws x h =
    ap (λ (bytes : List ℕ). whole (changed to r bytes)) (sym (append-nil (w x)))
    ∙ ap (λ (o : Option (A × List ℕ)). whole (o >>= λ a. Some (to a.0, a.1))) (laws.again x [] h)

pub record TookWhole {A B : Type 0} (w : A → List ℕ) (f : A → Bool) (to : A → B) (bytes : List ℕ) (y : B) : Type 0 where
  pub value : A
  pub is : to value ≡ y
  pub text : bytes ≡ w value
  pub fits : f value ≡ true

pub whole_takes : {A B : Type 0} (w : A → List ℕ) (f : A → Bool) (r : List ℕ → Option (A × List ℕ)) (to : A → B) → Laws w f r → (bytes : List ℕ) (y : B) → IsBytes bytes → whole (changed to r bytes) ≡ Some y → TookWhole w f to bytes y
whole_takes {A = A} {B = B} w f r to laws bytes y is_bytes e =
    let z = bind_some (changed to r bytes) (λ (x : B × List ℕ). cond (eqb (length x.1) 0) (Some x.0) None) y e in
    let a = bind_some (r bytes) (λ (a : A × List ℕ). Some (to a.0, a.1)) z.0 z.1 in
    let p = passed_some (eqb (length z.0.1) 0) (Some z.0.0) y z.2 in
    let same : (to a.0.0, a.0.1) ≡ z.0 = some_is (to a.0.0, a.0.1) z.0 a.2 in
    let none : a.0.1 ≡ [] = nil_from_length a.0.1 (ap (λ (x : B × List ℕ). length x.1) same ∙ eqb-true _ _ p.0) in
    let t = laws.takes bytes a.0 is_bytes a.1 in
    record {
      value = a.0.0;
      is = ap (λ (x : B × List ℕ). x.0) same ∙ some_is z.0.0 y p.1;
      text = t.0.parts ∙ ap (λ (rest : List ℕ). w a.0.0 ++ rest) none ∙ append-nil (w a.0.0);
      fits = t.1;
    }

-- ---- what was written is read again

abbrev key_bytes : ℕ × (ℕ × ℕ) → List ℕ
key_bytes x = (x.0 ∷ []) ++ (to_be_bytes w32 x.1.0 ++ to_be_bytes w16 x.1.1)

key_again : (kind table id : ℕ) → key_fits (kind, (table, id)) ≡ true → whole (key_at (catalog_key kind table id)) ≡ Some (kind, (table, id))
key_again kind table id h =
    ap (λ (bytes : List ℕ). whole (key_at bytes)) (sym (append-nil (catalog_key kind table id)))
    ∙ ap (λ (o : Option ((ℕ × (ℕ × ℕ)) × List ℕ)). whole o) (key_laws.again (kind, (table, id)) [] h)

from_key : (kind table id : ℕ) (bytes : List ℕ) → key_fits (kind, (table, id)) ≡ true → item_at (catalog_key kind table id) bytes ≡ item_of kind table id bytes
unfolding item_at
from_key kind table id bytes h = ap (λ (o : Option (ℕ × (ℕ × ℕ))). o >>= λ key. item_of key.0 key.1.0 key.1.1 bytes) (key_again kind table id h)

small_key : (kind table id : ℕ) → ltb kind 256 ≡ true → ltb table (2 ^ 32) ≡ true → ltb id (2 ^ 16) ≡ true → key_fits (kind, (table, id)) ≡ true
small_key kind table id k t i = and_from (ltb kind 256) (ltb table (2 ^ 32) && ltb id (2 ^ 16)) k (and_from (ltb table (2 ^ 32)) (ltb id (2 ^ 16)) t i)

pub item_again : (x : CatalogItem) → item_fits x ≡ true → item_at (item_key x) (item_data x) ≡ Some x
unfolding item_of
item_again (item.Greatest greatest) h =
    from_key 0 0 0 (to_le_bytes w32 greatest) refl
    ∙ whole_again (to_le_bytes w32) (λ n. ltb n (2 ^ 32)) (number_at w32) (λ n. item.Greatest n) laws32 greatest h
item_again (item.Table table) h =
    let low = (and_parts (ltb table.id.0 (2 ^ 32)) _ h).0 in
    from_key 1 table.id.0 0 (table_data table) (small_key 1 table.id.0 0 refl low refl)
    ∙ whole_again table_data (λ t. table_fits t && eqb t.id.0 table.id.0) (table_at table.id.0) (λ t. item.Table t) (table_laws table.id.0 low) table (and_from (table_fits table) (eqb table.id.0 table.id.0) h (eq-eqb table.id.0 table.id.0 refl))
item_again (item.Column table column) h =
    let a = and_parts (ltb table.0 (2 ^ 32)) (column_fits column) h in
    let low = (and_parts (ltb column.id.0 (2 ^ 16)) _ a.1).0 in
    from_key 2 table.0 column.id.0 (column_bytes column) (small_key 2 table.0 column.id.0 refl a.0 low)
    ∙ whole_again column_bytes (λ c. column_fits c && eqb c.id.0 column.id.0) (column_at column.id.0) (λ c. item.Column table c) (column_laws column.id.0 low) column (and_from (column_fits column) (eqb column.id.0 column.id.0) a.1 (eq-eqb column.id.0 column.id.0 refl))
item_again (item.Index table root index) h =
    let a = and_parts (ltb table.0 (2 ^ 32)) (ltb root (2 ^ 32) && index_fits index) h in
    let b = and_parts (ltb root (2 ^ 32)) (index_fits index) a.1 in
    let low = (and_parts (ltb index.id.0 (2 ^ 16)) _ b.1).0 in
    from_key 3 table.0 index.id.0 (index_data root index) (small_key 3 table.0 index.id.0 refl a.0 low)
    ∙ whole_again (λ (x : ℕ × IndexRule). index_data x.0 x.1) (rooted_fits index.id.0) (rooted_index_at index.id.0) (λ x. item.Index table x.0 x.1) (rooted_laws index.id.0 low) (root, index) (and_from (ltb root (2 ^ 32) && index_fits index) (eqb index.id.0 index.id.0) a.1 (eq-eqb index.id.0 index.id.0 refl))

pub told : (key bytes : List ℕ) (x : CatalogItem) → Tells key bytes x → item_at key bytes ≡ Some x
told key bytes x h = ap (λ (k : List ℕ). item_at k bytes) h.1 ∙ ap (item_at (item_key x)) h.2 ∙ item_again x h.0

pub one_spelling : (key bytes : List ℕ) (a b : CatalogItem) → Tells key bytes a → Tells key bytes b → a ≡ b
one_spelling key bytes a b p q = some_is a b (sym (told key bytes a p) ∙ told key bytes b q)

-- ---- what is read was written

record TookItem (kind table id : ℕ) (bytes : List ℕ) (x : CatalogItem) : Type 0 where
  key : (kind ≡ item_kind x) × (table ≡ item_table x) × (id ≡ item_id x)
  text : bytes ≡ item_data x
  fits : item_fits x ≡ true

item_take : (kind table id : ℕ) (bytes : List ℕ) (x : CatalogItem) → ltb table (2 ^ 32) ≡ true → ltb id (2 ^ 16) ≡ true → IsBytes bytes → item_of kind table id bytes ≡ Some x → TookItem kind table id bytes x
unfolding item_of
item_take kind table id bytes x low_table low is_bytes =
    case_of kind 0 (cond (eqb table 0 && eqb id 0) (whole (changed (λ n. item.Greatest n) (number_at w32) bytes)) None) _ x (λ is e.
    let p = passed_some (eqb table 0 && eqb id 0) (whole (changed (λ n. item.Greatest n) (number_at w32) bytes)) x e in
    let a = and_parts (eqb table 0) (eqb id 0) p.0 in
    let t = whole_takes (to_le_bytes w32) (λ n. ltb n (2 ^ 32)) (number_at w32) (λ n. item.Greatest n) laws32 bytes x is_bytes p.1 in
    let made : TookItem kind table id bytes (item.Greatest t.value) = record { key = (is, eqb-true _ _ a.0, eqb-true _ _ a.1); text = t.text; fits = t.fits } in
    subst (λ (y : CatalogItem). TookItem kind table id bytes y) t.is made)
    (case_of kind 1 (cond (eqb id 0) (whole (changed (λ t. item.Table t) (table_at table) bytes)) None) _ x (λ is e.
    let p = passed_some (eqb id 0) (whole (changed (λ t. item.Table t) (table_at table) bytes)) x e in
    let t = whole_takes table_data (λ t. table_fits t && eqb t.id.0 table) (table_at table) (λ t. item.Table t) (table_laws table low_table) bytes x is_bytes p.1 in
    let f = and_parts (table_fits t.value) (eqb t.value.id.0 table) t.fits in
    let made : TookItem kind table id bytes (item.Table t.value) = record { key = (is, sym (eqb-true _ _ f.1), eqb-true _ _ p.0); text = t.text; fits = f.0 } in
    subst (λ (y : CatalogItem). TookItem kind table id bytes y) t.is made)
    (case_of kind 2 (whole (changed (λ c. item.Column (table_id table) c) (column_at id) bytes)) _ x (λ is e.
    let t = whole_takes column_bytes (λ c. column_fits c && eqb c.id.0 id) (column_at id) (λ c. item.Column (table_id table) c) (column_laws id low) bytes x is_bytes e in
    let f = and_parts (column_fits t.value) (eqb t.value.id.0 id) t.fits in
    let made : TookItem kind table id bytes (item.Column (table_id table) t.value) = record { key = (is, refl, sym (eqb-true _ _ f.1)); text = t.text; fits = and_from (ltb table (2 ^ 32)) (column_fits t.value) low_table f.0 } in
    subst (λ (y : CatalogItem). TookItem kind table id bytes y) t.is made)
    (case_of kind 3 (whole (changed (λ i. item.Index (table_id table) i.0 i.1) (rooted_index_at id) bytes)) None x (λ is e.
    let t = whole_takes (λ (i : ℕ × IndexRule). index_data i.0 i.1) (rooted_fits id) (rooted_index_at id) (λ i. item.Index (table_id table) i.0 i.1) (rooted_laws id low) bytes x is_bytes e in
    let f = and_parts (ltb t.value.0 (2 ^ 32) && index_fits t.value.1) (eqb t.value.1.id.0 id) t.fits in
    let made : TookItem kind table id bytes (item.Index (table_id table) t.value.0 t.value.1) = record { key = (is, refl, sym (eqb-true _ _ f.1)); text = t.text; fits = and_from (ltb table (2 ^ 32)) (ltb t.value.0 (2 ^ 32) && index_fits t.value.1) low_table f.0 } in
    subst (λ (y : CatalogItem). TookItem kind table id bytes y) t.is made) (λ e. absurd cc))))

pub tells : (key bytes : List ℕ) (x : CatalogItem) → IsBytes key → IsBytes bytes → item_at key bytes ≡ Some x → Tells key bytes x
unfolding item_at
tells key bytes x key_is is_bytes e =
    let a = bind_some (whole (key_at key)) (λ (k : ℕ × (ℕ × ℕ)). item_of k.0 k.1.0 k.1.1 bytes) x e in
    let z = bind_some (key_at key) (λ (k : (ℕ × (ℕ × ℕ)) × List ℕ). cond (eqb (length k.1) 0) (Some k.0) None) a.0 a.1 in
    let p = passed_some (eqb (length z.0.1) 0) (Some z.0.0) a.0 z.2 in
    let none : z.0.1 ≡ [] = nil_from_length z.0.1 (eqb-true _ _ p.0) in
    let same : z.0.0 ≡ a.0 = some_is z.0.0 a.0 p.1 in
    let t = key_laws.takes key z.0 key_is z.1 in
    let f : key_fits a.0 ≡ true = subst (λ (k : ℕ × (ℕ × ℕ)). key_fits k ≡ true) same t.1 in
    let k = and_parts (ltb a.0.0 256) (ltb a.0.1.0 (2 ^ 32) && ltb a.0.1.1 (2 ^ 16)) f in
    let n = and_parts (ltb a.0.1.0 (2 ^ 32)) (ltb a.0.1.1 (2 ^ 16)) k.1 in
    let i = item_take a.0.0 a.0.1.0 a.0.1.1 bytes x n.0 n.1 is_bytes a.2 in
    let text : key ≡ key_bytes a.0 = t.0.parts ∙ ap (λ (rest : List ℕ). key_bytes z.0.0 ++ rest) none ∙ append-nil (key_bytes z.0.0) ∙ ap key_bytes same in
    let own : key_bytes a.0 ≡ item_key x = ap (λ (m : ℕ). catalog_key m a.0.1.0 a.0.1.1) i.key.0 ∙ ap (λ (m : ℕ). catalog_key (item_kind x) m a.0.1.1) i.key.1 ∙ ap (λ (m : ℕ). catalog_key (item_kind x) (item_table x) m) i.key.2 in
    (i.fits, text ∙ own, i.text)
