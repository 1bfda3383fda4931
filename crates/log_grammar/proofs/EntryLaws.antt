-- The laws of entries.
use Rattle.std.proofs.Common.{◌≡◌, ℕ, ◌^◌, Bool, true, false, cond, ltb, eqb, List, [], ◌∷◌, ◌++◌, Option, Some, None, refl, sym, ap, subst, ◌∙◌, append_assoc}
use Rattle.std.specs.Int.{w16, w32, to_le_bytes}
use Rattle.std.proofs.lemmas.Bool.{and_parts, and_from, eqb-true, eq-eqb}
use Rattle.jet_base.specs.Ids.{column_id, index_id, table_id}
use Rattle.column_set.specs.NumberReading.{◌>>=◌, number_at, IsBytes, bind_some, some_is, Takes, Takes-then}
use Rattle.index_derive.specs.declared.schema_calls.SchemaStep.{SchemaStep}
use Rattle.index_derive.specs.declared.schema_calls.SchemaStep.TheVariants as schema
use Rattle.log_grammar.specs.EntryBytes.{column_bytes, column_fits, index_bytes, index_fits, name_bytes, name_fits, schema_bytes, schema_fits, schema_kind}
use Rattle.log_grammar.specs.EntryReading.{changed, byte_at, name_at, column_at, index_at, step_at, schema_at}
use Rattle.log_grammar.proofs.FieldLaws.{name_laws}
use Rattle.log_grammar.proofs.Laws.{laws16, laws32, byte_laws}
use Rattle.log_grammar.proofs.SchemaLaws.{column_laws, index_laws}

-- one of several numbers
pub case_of : {X P : Type 0} (n k : ℕ) (here rest : Option X) (x : X) → (n ≡ k → here ≡ Some x → P) → (rest ≡ Some x → P) → cond (eqb n k) here rest ≡ Some x → P
case_of {X = X} {P = P} n k here rest x first others e = step (eqb n k) refl e where
  step : (b : Bool) → eqb n k ≡ b → cond b here rest ≡ Some x → P
  step true test is = first (eqb-true n k test) is
  step false test is = others is

-- ---- schema changes

record TookStep (number table : ℕ) (bytes : List ℕ) (x : SchemaStep × List ℕ) : Type 0 where
  kind : number ≡ schema_kind x.0
  taken : (front : List ℕ) → Takes front (to_le_bytes w32 table) bytes → Takes front (schema_bytes x.0) x.1
  fits : ltb table (2 ^ 32) ≡ true → schema_fits x.0 ≡ true

step_take : (number table : ℕ) (bytes : List ℕ) (x : SchemaStep × List ℕ) → IsBytes bytes → step_at number table bytes ≡ Some x → TookStep number table bytes x
unfolding step_at
step_take number table bytes x is_bytes =
    let t = to_le_bytes w32 table in
    case_of number 1 (changed (λ name. schema.CreateTable (table_id table) name) name_at bytes) _ x (λ is e.
    let a = bind_some (name_at bytes) (λ a. Some (schema.CreateTable (table_id table) a.0, a.1)) x e in
    let n = name_laws.takes bytes a.0 is_bytes a.1 in
    let made : TookStep number table bytes (schema.CreateTable (table_id table) a.0.0, a.0.1) = record { kind = is; taken = λ front f. Takes-then front t bytes (name_bytes a.0.0) a.0.1 f n.0; fits = λ lt. and_from (ltb table (2 ^ 32)) (name_fits a.0.0) lt n.1 } in
    subst (λ (y : SchemaStep × List ℕ). TookStep number table bytes y) (some_is (schema.CreateTable (table_id table) a.0.0, a.0.1) x a.2) made)
    (case_of number 2 (Some (schema.DeleteTable (table_id table), bytes)) _ x (λ is e.
    let made : TookStep number table bytes (schema.DeleteTable (table_id table), bytes) = record { kind = is; taken = λ front f. f; fits = λ lt. lt } in
    subst (λ (y : SchemaStep × List ℕ). TookStep number table bytes y) (some_is (schema.DeleteTable (table_id table), bytes) x e) made)
    (case_of number 3 (number_at w16 bytes >>= λ id. changed (λ column. schema.AddColumn (table_id table) column) (column_at id.0) id.1) _ x (λ is e.
    let a = bind_some (number_at w16 bytes) (λ id. changed (λ column. schema.AddColumn (table_id table) column) (column_at id.0) id.1) x e in
    let b = bind_some (column_at a.0.0 a.0.1) (λ c. Some (schema.AddColumn (table_id table) c.0, c.1)) x a.2 in
    let n = laws16.takes bytes a.0 is_bytes a.1 in
    let c = (column_laws a.0.0 n.1).takes a.0.1 b.0 n.0.rest_fits b.1 in
    let p = and_parts (column_fits b.0.0) (eqb b.0.0.id.0 a.0.0) c.1 in
    let text = Takes-then bytes (to_le_bytes w16 a.0.0) a.0.1 (column_bytes b.0.0) b.0.1 n.0 c.0 in
    let own : Takes bytes (to_le_bytes w16 b.0.0.id.0 ++ column_bytes b.0.0) b.0.1 = subst (λ i. Takes bytes (to_le_bytes w16 i ++ column_bytes b.0.0) b.0.1) (sym (eqb-true _ _ p.1)) text in
    let made : TookStep number table bytes (schema.AddColumn (table_id table) b.0.0, b.0.1) = record { kind = is; taken = λ front f. Takes-then front t bytes (to_le_bytes w16 b.0.0.id.0 ++ column_bytes b.0.0) b.0.1 f own; fits = λ lt. and_from (ltb table (2 ^ 32)) (column_fits b.0.0) lt p.0 } in
    subst (λ (y : SchemaStep × List ℕ). TookStep number table bytes y) (some_is (schema.AddColumn (table_id table) b.0.0, b.0.1) x b.2) made)
    (case_of number 4 (changed (λ id. schema.DeleteColumn (table_id table) (column_id id)) (number_at w16) bytes) _ x (λ is e.
    let a = bind_some (number_at w16 bytes) (λ a. Some (schema.DeleteColumn (table_id table) (column_id a.0), a.1)) x e in
    let n = laws16.takes bytes a.0 is_bytes a.1 in
    let made : TookStep number table bytes (schema.DeleteColumn (table_id table) (column_id a.0.0), a.0.1) = record { kind = is; taken = λ front f. Takes-then front t bytes (to_le_bytes w16 a.0.0) a.0.1 f n.0; fits = λ lt. and_from (ltb table (2 ^ 32)) (ltb a.0.0 (2 ^ 16)) lt n.1 } in
    subst (λ (y : SchemaStep × List ℕ). TookStep number table bytes y) (some_is (schema.DeleteColumn (table_id table) (column_id a.0.0), a.0.1) x a.2) made)
    (case_of number 5 (number_at w16 bytes >>= λ id. changed (λ index. schema.CreateIndex (table_id table) index) (index_at id.0) id.1) _ x (λ is e.
    let a = bind_some (number_at w16 bytes) (λ id. changed (λ index. schema.CreateIndex (table_id table) index) (index_at id.0) id.1) x e in
    let b = bind_some (index_at a.0.0 a.0.1) (λ c. Some (schema.CreateIndex (table_id table) c.0, c.1)) x a.2 in
    let n = laws16.takes bytes a.0 is_bytes a.1 in
    let c = (index_laws a.0.0 n.1).takes a.0.1 b.0 n.0.rest_fits b.1 in
    let p = and_parts (index_fits b.0.0) (eqb b.0.0.id.0 a.0.0) c.1 in
    let text = Takes-then bytes (to_le_bytes w16 a.0.0) a.0.1 (index_bytes b.0.0) b.0.1 n.0 c.0 in
    let own : Takes bytes (to_le_bytes w16 b.0.0.id.0 ++ index_bytes b.0.0) b.0.1 = subst (λ i. Takes bytes (to_le_bytes w16 i ++ index_bytes b.0.0) b.0.1) (sym (eqb-true _ _ p.1)) text in
    let made : TookStep number table bytes (schema.CreateIndex (table_id table) b.0.0, b.0.1) = record { kind = is; taken = λ front f. Takes-then front t bytes (to_le_bytes w16 b.0.0.id.0 ++ index_bytes b.0.0) b.0.1 f own; fits = λ lt. and_from (ltb table (2 ^ 32)) (index_fits b.0.0) lt p.0 } in
    subst (λ (y : SchemaStep × List ℕ). TookStep number table bytes y) (some_is (schema.CreateIndex (table_id table) b.0.0, b.0.1) x b.2) made)
    (case_of number 6 (changed (λ id. schema.DeleteIndex (table_id table) (index_id id)) (number_at w16) bytes) None x (λ is e.
    let a = bind_some (number_at w16 bytes) (λ a. Some (schema.DeleteIndex (table_id table) (index_id a.0), a.1)) x e in
    let n = laws16.takes bytes a.0 is_bytes a.1 in
    let made : TookStep number table bytes (schema.DeleteIndex (table_id table) (index_id a.0.0), a.0.1) = record { kind = is; taken = λ front f. Takes-then front t bytes (to_le_bytes w16 a.0.0) a.0.1 f n.0; fits = λ lt. and_from (ltb table (2 ^ 32)) (ltb a.0.0 (2 ^ 16)) lt n.1 } in
    subst (λ (y : SchemaStep × List ℕ). TookStep number table bytes y) (some_is (schema.DeleteIndex (table_id table) (index_id a.0.0), a.0.1) x a.2) made) (λ e. absurd cc))))))

pub record TookSchema (bytes : List ℕ) (x : SchemaStep × List ℕ) : Type 0 where
  pub taken : Takes bytes (schema_kind x.0 ∷ schema_bytes x.0) x.1
  pub fits : schema_fits x.0 ≡ true

pub schema_take : (bytes : List ℕ) (x : SchemaStep × List ℕ) → IsBytes bytes → schema_at bytes ≡ Some x → TookSchema bytes x
unfolding schema_at
schema_take bytes x is_bytes e =
    let a = bind_some (byte_at bytes) (λ number. number_at w32 number.1 >>= λ table. step_at number.0 table.0 table.1) x e in
    let b = bind_some (number_at w32 a.0.1) (λ table. step_at a.0.0 table.0 table.1) x a.2 in
    let k = byte_laws.takes bytes a.0 is_bytes a.1 in
    let n = laws32.takes a.0.1 b.0 k.0.rest_fits b.1 in
    let s = step_take a.0.0 b.0.0 b.0.1 x n.0.rest_fits b.2 in
    let own : Takes bytes (schema_kind x.0 ∷ []) a.0.1 = subst (λ i. Takes bytes (i ∷ []) a.0.1) s.kind k.0 in
    record { taken = Takes-then bytes (schema_kind x.0 ∷ []) a.0.1 (schema_bytes x.0) x.1 own (s.taken a.0.1 n.0); fits = s.fits n.1 }

schema_begin : (number table : ℕ) (text rest : List ℕ) → ltb table (2 ^ 32) ≡ true → schema_at (number ∷ ((to_le_bytes w32 table ++ text) ++ rest)) ≡ step_at number table (text ++ rest)
unfolding schema_at
schema_begin number table text rest lt =
    ap (λ (b : List ℕ). number_at w32 b >>= λ t. step_at number t.0 t.1) (append_assoc (to_le_bytes w32 table) text rest)
    ∙ ap (λ (o : Option (ℕ × List ℕ)). o >>= λ t. step_at number t.0 t.1) (laws32.again table (text ++ rest) lt)

pub schema_again : (step : SchemaStep) (rest : List ℕ) → schema_fits step ≡ true → schema_at (schema_kind step ∷ (schema_bytes step ++ rest)) ≡ Some (step, rest)
unfolding schema_at step_at
schema_again (schema.CreateTable table name) rest h =
    let p = and_parts (ltb table.0 (2 ^ 32)) (name_fits name) h in
    schema_begin 1 table.0 (name_bytes name) rest p.0
    ∙ ap (λ (o : Option (List ℕ × List ℕ)). o >>= λ a. Some (schema.CreateTable table a.0, a.1)) (name_laws.again name rest p.1)
schema_again (schema.DeleteTable table) rest h = ap (λ (o : Option (ℕ × List ℕ)). o >>= λ t. step_at 2 t.0 t.1) (laws32.again table.0 rest h)
schema_again (schema.AddColumn table column) rest h =
    let p = and_parts (ltb table.0 (2 ^ 32)) (column_fits column) h in
    let small = (and_parts (ltb column.id.0 (2 ^ 16)) _ p.1).0 in
    schema_begin 3 table.0 (to_le_bytes w16 column.id.0 ++ column_bytes column) rest p.0
    ∙ ap (λ (b : List ℕ). number_at w16 b >>= λ id. changed (λ c. schema.AddColumn table c) (column_at id.0) id.1) (append_assoc (to_le_bytes w16 column.id.0) (column_bytes column) rest)
    ∙ ap (λ (o : Option (ℕ × List ℕ)). o >>= λ id. changed (λ c. schema.AddColumn table c) (column_at id.0) id.1) (laws16.again column.id.0 (column_bytes column ++ rest) small)
    ∙ ap (λ o. o >>= λ c. Some (schema.AddColumn table c.0, c.1)) ((column_laws column.id.0 small).again column rest (and_from (column_fits column) (eqb column.id.0 column.id.0) p.1 (eq-eqb column.id.0 column.id.0 refl)))
schema_again (schema.DeleteColumn table column) rest h =
    let p = and_parts (ltb table.0 (2 ^ 32)) (ltb column.0 (2 ^ 16)) h in
    schema_begin 4 table.0 (to_le_bytes w16 column.0) rest p.0
    ∙ ap (λ (o : Option (ℕ × List ℕ)). o >>= λ a. Some (schema.DeleteColumn table (column_id a.0), a.1)) (laws16.again column.0 rest p.1)
schema_again (schema.CreateIndex table index) rest h =
    let p = and_parts (ltb table.0 (2 ^ 32)) (index_fits index) h in
    let small = (and_parts (ltb index.id.0 (2 ^ 16)) _ p.1).0 in
    schema_begin 5 table.0 (to_le_bytes w16 index.id.0 ++ index_bytes index) rest p.0
    ∙ ap (λ (b : List ℕ). number_at w16 b >>= λ id. changed (λ c. schema.CreateIndex table c) (index_at id.0) id.1) (append_assoc (to_le_bytes w16 index.id.0) (index_bytes index) rest)
    ∙ ap (λ (o : Option (ℕ × List ℕ)). o >>= λ id. changed (λ c. schema.CreateIndex table c) (index_at id.0) id.1) (laws16.again index.id.0 (index_bytes index ++ rest) small)
    ∙ ap (λ o. o >>= λ c. Some (schema.CreateIndex table c.0, c.1)) ((index_laws index.id.0 small).again index rest (and_from (index_fits index) (eqb index.id.0 index.id.0) p.1 (eq-eqb index.id.0 index.id.0 refl)))
schema_again (schema.DeleteIndex table index) rest h =
    let p = and_parts (ltb table.0 (2 ^ 32)) (ltb index.0 (2 ^ 16)) h in
    schema_begin 6 table.0 (to_le_bytes w16 index.0) rest p.0
    ∙ ap (λ (o : Option (ℕ × List ℕ)). o >>= λ a. Some (schema.DeleteIndex table (index_id a.0), a.1)) (laws16.again index.0 rest p.1)
