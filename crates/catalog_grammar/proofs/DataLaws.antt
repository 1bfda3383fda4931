-- The laws of the data of tables and indexes.
use Rattle.std.proofs.Common.{◌≡◌, ℕ, ◌^◌, Bool, true, ltb, eqb, ◌&&◌, List, ◌∷◌, ◌++◌, length, refl, sym}
use Rattle.std.specs.Int.{w16, w32, to_le_bytes}
use Rattle.std.specs.List.{flat_map, list_all}
use Rattle.std.proofs.lemmas.Bool.{and_parts, and_from, eqb-true, eq-eqb, lt-ltb}
use Rattle.jet_base.specs.Ids.{index_id, table_id}
use Rattle.column_set.specs.NumberReading.{number_at}
use Rattle.index_derive.specs.declared.rules.Condition.{Condition}
use Rattle.index_derive.specs.declared.rules.IndexFlags.{IndexFlags}
use Rattle.index_derive.specs.declared.rules.IndexRule.{IndexRule}
use Rattle.index_derive.specs.declared.rules.Segment.{Segment}
use Rattle.database_state.specs.Table.{GreatestColumns}
use Rattle.log_grammar.specs.EntryBytes.{condition_bytes, condition_fits, index_fits, index_flags, name_bytes, name_fits, segment_bytes, segment_fits}
use Rattle.log_grammar.specs.EntryReading.{both, name_at, segments_at, conditions_at}
use Rattle.log_grammar.proofs.FieldLaws.{name_laws}
use Rattle.log_grammar.proofs.Fits.{index_parts}
use Rattle.log_grammar.proofs.Laws.{Laws, both_laws, changed_laws, laws16, laws32}
use Rattle.log_grammar.proofs.SchemaLaws.{index_flags_laws, segments_laws, conditions_laws}
use Rattle.catalog_grammar.specs.CatalogBytes.{greatest_fits, index_data, table_data, table_fits}
use Rattle.catalog_grammar.specs.CatalogReading.{greatest_at, greatest_of, index_flags_at, rooted_index_at, rooted_index_of, table_at, table_of}
use Rattle.catalog_grammar.specs.declared.items.TableItem.{TableItem}

-- ---- tables

abbrev greatest_bytes : GreatestColumns → List ℕ
greatest_bytes g = to_le_bytes w16 g.fixed ++ (to_le_bytes w16 g.variable ++ to_le_bytes w16 g.tagged)

abbrev small : ℕ → Bool
small n = ltb n (2 ^ 16)

greatest_laws : Laws greatest_bytes greatest_fits greatest_at
unfolding greatest_at
greatest_laws = changed_laws {A = ℕ × (ℕ × ℕ)} {B = GreatestColumns} (λ p. to_le_bytes w16 p.0 ++ (to_le_bytes w16 p.1.0 ++ to_le_bytes w16 p.1.1)) (λ p. small p.0 && (small p.1.0 && small p.1.1)) (both (number_at w16) (λ fixed. both (number_at w16) (λ variable. number_at w16)))
    greatest_bytes greatest_fits greatest_of (λ g. (g.fixed, (g.variable, g.tagged)))
    (both_laws (to_le_bytes w16) small (number_at w16) (λ fixed (p : ℕ × ℕ). to_le_bytes w16 p.0 ++ to_le_bytes w16 p.1) (λ fixed p. small p.0 && small p.1) (λ fixed. both (number_at w16) (λ variable. number_at w16)) laws16
    (λ fixed. both_laws (to_le_bytes w16) small (number_at w16) (λ variable. to_le_bytes w16) (λ variable. small) (λ variable. number_at w16) laws16 (λ variable. laws16))) (record {
      back = λ g h. refl;
      back_fits = λ g h. h;
      back_writes = λ g h. refl;
      writes = λ p h. refl;
      fits = λ p h. h;
    })

abbrev TableData : Type 0
TableData = ℕ × (ℕ × (GreatestColumns × List ℕ))

abbrev wide : ℕ → Bool
wide n = ltb n (2 ^ 32)

abbrev table_parts_bytes : TableData → List ℕ
table_parts_bytes x = to_le_bytes w32 x.0 ++ (to_le_bytes w32 x.1.0 ++ (greatest_bytes x.1.1.0 ++ name_bytes x.1.1.1))

abbrev table_parts_fit : TableData → Bool
table_parts_fit x = wide x.0 && (wide x.1.0 && (greatest_fits x.1.1.0 && name_fits x.1.1.1))

table_parts_laws : Laws table_parts_bytes table_parts_fit (both (number_at w32) (λ records. both (number_at w32) (λ long_values. both greatest_at (λ greatest. name_at))))
table_parts_laws =
    both_laws (to_le_bytes w32) wide (number_at w32) (λ records (p : ℕ × (GreatestColumns × List ℕ)). to_le_bytes w32 p.0 ++ (greatest_bytes p.1.0 ++ name_bytes p.1.1)) (λ records p. wide p.0 && (greatest_fits p.1.0 && name_fits p.1.1)) (λ records. both (number_at w32) (λ long_values. both greatest_at (λ greatest. name_at))) laws32
    (λ records. both_laws (to_le_bytes w32) wide (number_at w32) (λ long_values (p : GreatestColumns × List ℕ). greatest_bytes p.0 ++ name_bytes p.1) (λ long_values p. greatest_fits p.0 && name_fits p.1) (λ long_values. both greatest_at (λ greatest. name_at)) laws32
    (λ long_values. both_laws greatest_bytes greatest_fits greatest_at (λ greatest. name_bytes) (λ greatest. name_fits) (λ greatest. name_at) greatest_laws (λ greatest. name_laws)))

-- the tables of this number
pub table_laws : (id : ℕ) → ltb id (2 ^ 32) ≡ true → Laws table_data (λ table. table_fits table && eqb table.id.0 id) (table_at id)
unfolding table_at table_data
table_laws id low = changed_laws {A = TableData} {B = TableItem} table_parts_bytes table_parts_fit (both (number_at w32) (λ records. both (number_at w32) (λ long_values. both greatest_at (λ greatest. name_at))))
    table_data (λ table. table_fits table && eqb table.id.0 id) (table_of id) (λ table. (table.records, (table.long_values, (table.greatest, table.name)))) table_parts_laws (record {
      back = λ table h.
          let number = eqb-true _ _ (and_parts (table_fits table) (eqb table.id.0 id) h).1 in
          λ i. record { id = table_id (sym number i); name = table.name; greatest = table.greatest; records = table.records; long_values = table.long_values };
      back_fits = λ table h.
          let rest = table_parts_fit (table.records, (table.long_values, (table.greatest, table.name))) in
          (and_parts (ltb table.id.0 (2 ^ 32)) rest (and_parts (table_fits table) (eqb table.id.0 id) h).0).1;
      back_writes = λ table h. refl;
      writes = λ x h. refl;
      fits = λ x h. and_from (table_fits (table_of id x)) (eqb id id) (and_from (ltb id (2 ^ 32)) (table_parts_fit x) low h) (eq-eqb id id refl);
    })

-- ---- indexes

abbrev segments_bytes : List Segment → List ℕ
segments_bytes xs = length xs ∷ flat_map segment_bytes xs

abbrev segments_fit : List Segment → Bool
segments_fit xs = ltb (length xs) 256 && list_all segment_fits xs

abbrev conditions_bytes : List Condition → List ℕ
conditions_bytes xs = length xs ∷ flat_map condition_bytes xs

abbrev conditions_fit : List Condition → Bool
conditions_fit xs = ltb (length xs) 256 && list_all condition_fits xs

abbrev flags_bytes : IndexFlags → List ℕ
flags_bytes flags = to_le_bytes w16 (index_flags flags)

flags_laws : Laws flags_bytes (λ flags. true) index_flags_at
unfolding index_flags_at
flags_laws = index_flags_laws

abbrev IndexData : Type 0
IndexData = ℕ × (ℕ × (IndexFlags × (List Segment × (List Condition × List ℕ))))

abbrev tail_bytes : List Segment × (List Condition × List ℕ) → List ℕ
tail_bytes x = segments_bytes x.0 ++ (conditions_bytes x.1.0 ++ name_bytes x.1.1)

abbrev tail_fits : List Segment × (List Condition × List ℕ) → Bool
tail_fits x = segments_fit x.0 && (conditions_fit x.1.0 && name_fits x.1.1)

tail_laws : Laws tail_bytes tail_fits (both segments_at (λ segments. both conditions_at (λ conditions. name_at)))
tail_laws =
    both_laws segments_bytes segments_fit segments_at (λ s (p : List Condition × List ℕ). conditions_bytes p.0 ++ name_bytes p.1) (λ s p. conditions_fit p.0 && name_fits p.1) (λ s. both conditions_at (λ conditions. name_at)) segments_laws
    (λ s. both_laws conditions_bytes conditions_fit conditions_at (λ c. name_bytes) (λ c. name_fits) (λ c. name_at) conditions_laws (λ c. name_laws))

abbrev index_parts_bytes : IndexData → List ℕ
index_parts_bytes x = to_le_bytes w32 x.0 ++ (to_le_bytes w32 x.1.0 ++ (flags_bytes x.1.1.0 ++ tail_bytes x.1.1.1))

abbrev index_parts_fit : IndexData → Bool
index_parts_fit x = wide x.0 && (wide x.1.0 && (true && tail_fits x.1.1.1))

index_parts_laws : Laws index_parts_bytes index_parts_fit (both (number_at w32) (λ root. both (number_at w32) (λ order. both index_flags_at (λ flags. both segments_at (λ segments. both conditions_at (λ conditions. name_at))))))
index_parts_laws =
    both_laws (to_le_bytes w32) wide (number_at w32) (λ root (p : ℕ × (IndexFlags × (List Segment × (List Condition × List ℕ)))). to_le_bytes w32 p.0 ++ (flags_bytes p.1.0 ++ tail_bytes p.1.1)) (λ root p. wide p.0 && (true && tail_fits p.1.1)) (λ root. both (number_at w32) (λ order. both index_flags_at (λ flags. both segments_at (λ segments. both conditions_at (λ conditions. name_at))))) laws32
    (λ root. both_laws (to_le_bytes w32) wide (number_at w32) (λ order (p : IndexFlags × (List Segment × (List Condition × List ℕ))). flags_bytes p.0 ++ tail_bytes p.1) (λ order p. true && tail_fits p.1) (λ order. both index_flags_at (λ flags. both segments_at (λ segments. both conditions_at (λ conditions. name_at)))) laws32
    (λ order. both_laws flags_bytes (λ flags. true) index_flags_at (λ flags. tail_bytes) (λ flags. tail_fits) (λ flags. both segments_at (λ segments. both conditions_at (λ conditions. name_at))) flags_laws (λ flags. tail_laws)))

-- whether an index with its root can be written, and has this number
abbrev pub rooted_fits : ℕ → ℕ × IndexRule → Bool
rooted_fits id x = (ltb x.0 (2 ^ 32) && index_fits x.1) && eqb x.1.id.0 id

-- the indexes of this number
pub rooted_laws : (id : ℕ) → ltb id (2 ^ 16) ≡ true → Laws (λ (x : ℕ × IndexRule). index_data x.0 x.1) (rooted_fits id) (rooted_index_at id)
unfolding rooted_index_at index_data
rooted_laws id low = changed_laws {A = IndexData} {B = ℕ × IndexRule} index_parts_bytes index_parts_fit (both (number_at w32) (λ root. both (number_at w32) (λ order. both index_flags_at (λ flags. both segments_at (λ segments. both conditions_at (λ conditions. name_at))))))
    (λ x. index_data x.0 x.1) (rooted_fits id) (rooted_index_of id) (λ x. (x.0, (x.1.order, (x.1.flags, (x.1.segments, (x.1.conditions, x.1.name)))))) index_parts_laws (record {
      back = λ x h.
          let a = and_parts (ltb x.0 (2 ^ 32) && index_fits x.1) (eqb x.1.id.0 id) h in
          let most = eqb-true _ _ (index_parts x.1 (and_parts (ltb x.0 (2 ^ 32)) (index_fits x.1) a.0).1).key_most in
          let number = eqb-true _ _ a.1 in
          λ i. (x.0, record { id = index_id (sym number i); name = x.1.name; order = x.1.order; segments = x.1.segments; flags = x.1.flags; conditions = x.1.conditions; key_most = sym most i });
      back_fits = λ x h.
          let a = and_parts (ltb x.0 (2 ^ 32)) (index_fits x.1) (and_parts (ltb x.0 (2 ^ 32) && index_fits x.1) (eqb x.1.id.0 id) h).0 in
          let p = index_parts x.1 a.1 in
          let tail = tail_fits (x.1.segments, (x.1.conditions, x.1.name)) in
          let tail_h : tail ≡ true =
          and_from (segments_fit x.1.segments) (conditions_fit x.1.conditions && name_fits x.1.name) (and_from (ltb (length x.1.segments) 256) (list_all segment_fits x.1.segments) (lt-ltb _ _ p.segment_count) p.segments)
          (and_from (conditions_fit x.1.conditions) (name_fits x.1.name) (and_from (ltb (length x.1.conditions) 256) (list_all condition_fits x.1.conditions) (lt-ltb _ _ p.condition_count) p.conditions) p.name) in
          and_from (ltb x.0 (2 ^ 32)) (ltb x.1.order (2 ^ 32) && tail) a.0 (and_from (ltb x.1.order (2 ^ 32)) tail (lt-ltb _ _ p.order) tail_h);
      back_writes = λ x h. refl;
      writes = λ x h. refl;
      fits = λ x h.
          let t = x.1.1.1 in
          let a = and_parts (ltb x.0 (2 ^ 32)) (ltb x.1.0 (2 ^ 32) && tail_fits t) h in
          let o = and_parts (ltb x.1.0 (2 ^ 32)) (tail_fits t) a.1 in
          let b = and_parts (segments_fit t.0) (conditions_fit t.1.0 && name_fits t.1.1) o.1 in
          let c = and_parts (conditions_fit t.1.0) (name_fits t.1.1) b.1 in
          let rule = (rooted_index_of id x).1 in
          and_from (ltb x.0 (2 ^ 32) && index_fits rule) (eqb id id)
          (and_from (ltb x.0 (2 ^ 32)) (index_fits rule) a.0
          (and_from (ltb id (2 ^ 16)) (ltb x.1.0 (2 ^ 32) && (segments_fit t.0 && (conditions_fit t.1.0 && (name_fits t.1.1 && true)))) low
          (and_from (ltb x.1.0 (2 ^ 32)) (segments_fit t.0 && (conditions_fit t.1.0 && (name_fits t.1.1 && true))) o.0
          (and_from (segments_fit t.0) (conditions_fit t.1.0 && (name_fits t.1.1 && true)) b.0
          (and_from (conditions_fit t.1.0) (name_fits t.1.1 && true) c.0 (and_from (name_fits t.1.1) true c.1 refl))))))
          (eq-eqb id id refl);
    })
