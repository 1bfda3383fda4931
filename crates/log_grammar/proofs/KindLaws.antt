-- The laws of the kinds of entries, and of whole entries.
use Rattle.std.proofs.Common.{◌≡◌, ℕ, ◌^◌, ◌<◌, ◌≤◌, Bool, true, cond, ltb, leb, eqb, ◌&&◌, List, [], ◌∷◌, ◌++◌, length, Option, Some, None, refl, sym, ap, subst, ◌∙◌, append_assoc, arith, inl, inr}
use Rattle.std.specs.Prelude.{ℤ, pos, negsuc, FitsSigned}
use Rattle.std.specs.Int.{w16, w32, to_le_bytes, cast_signed, cast_unsigned}
use Rattle.std.proofs.lemmas.Bool.{cases_Bool, and_parts, and_from, eqb-true, ltb-true, ltb-false, lt-ltb, leb-true}
use Rattle.std.proofs.lemmas.Int.{of_z-to_z, to_z-of_z, to_z_pos}
use Rattle.std.proofs.lemmas.List.{append-nil, nil_from_length}
use Rattle.jet_base.specs.Ids.{column_id, session_id, table_id}
use Rattle.column_set.specs.declared.changes.Change.TheVariants as change
use Rattle.column_set.specs.RecordValues.{RecordFields}
use Rattle.column_set.specs.NumberReading.{◌>>=◌, number_at, IsBytes, bind_some, passed_some, some_is, Takes, Takes-then}
use Rattle.index_derive.specs.declared.log.Entry.{Entry}
use Rattle.index_derive.specs.declared.log.EntryKind.{EntryKind}
use Rattle.index_derive.specs.declared.log.EntryKind.TheVariants as kind
use Rattle.log_grammar.specs.EntryBytes.{amount_fits, bookmark_bytes, bookmark_fits, copied_bytes, copied_fits, entry_rest, entry_tag, kind_bytes, kind_fits, record_bytes, record_fits}
use Rattle.log_grammar.specs.EntryReading.{both, changed, tested, byte_at, bookmark_at, copied_at, record_at, schema_at, table_at, put_at, add_at, kind_at, rest_at}
use Rattle.log_grammar.proofs.EntryLaws.{case_of, schema_take, schema_again}
use Rattle.log_grammar.proofs.FieldLaws.{bookmark_laws, copied_laws, record_laws}
use Rattle.log_grammar.proofs.Laws.{Laws, both_laws, tested_laws, laws16, laws32, byte_laws}
use Rattle.log_grammar.proofs.Fits.{amount_small}

-- ---- amounts

fits_signed : (amount : ℤ) → amount_fits amount ≡ true → FitsSigned w32 amount
fits_signed (pos n) h = record { sfits = ltb-true _ _ h }
fits_signed (negsuc n) h = record { sfits = ltb-true _ _ h }

amount_again : (amount : ℤ) → amount_fits amount ≡ true → cast_signed w32 (cast_unsigned w32 amount) ≡ amount
amount_again amount h = to_z-of_z w32 amount (fits_signed amount h)

pub amount_is : (n : ℕ) → n < 2 ^ 32 → amount_fits (cast_signed w32 n) ≡ true
amount_is n lt =
    elim (cases_Bool (ltb n (2 ^ 31))) [
      | inl low ↦ ap amount_fits (to_z_pos w32 n (ltb-true _ _ low)) ∙ low
      | inr high ↦ let le : 2 ^ 31 ≤ n = ltb-false _ _ high in rw high (lt-ltb _ _ (omega arith))
    ]

-- ---- tables with bookmarks, and changes

abbrev table_bytes : ℕ × List ℕ → List ℕ
table_bytes p = to_le_bytes w32 p.0 ++ bookmark_bytes p.1

abbrev table_fits : ℕ × List ℕ → Bool
table_fits p = ltb p.0 (2 ^ 32) && bookmark_fits p.1

table_laws : Laws table_bytes table_fits table_at
unfolding table_at
table_laws = both_laws (to_le_bytes w32) (λ n. ltb n (2 ^ 32)) (number_at w32) (λ n. bookmark_bytes) (λ n. bookmark_fits) (λ n. bookmark_at) laws32 (λ n. bookmark_laws)

abbrev PutData : Type 0
PutData = (ℕ × List ℕ) × (Option (List ℕ) × RecordFields)

abbrev put_bytes : PutData → List ℕ
put_bytes x = table_bytes x.0 ++ (copied_bytes x.1.0 ++ record_bytes x.1.1)

abbrev put_fits : PutData → Bool
put_fits x = table_fits x.0 && (copied_fits x.1.0 && record_fits x.1.1)

abbrev put_parts : List ℕ → Option (PutData × List ℕ)
put_parts bytes = both table_at (λ table. both copied_at (λ copied. record_at)) bytes

put_laws : Laws put_bytes put_fits put_parts
put_laws = both_laws table_bytes table_fits table_at (λ t (p : Option (List ℕ) × RecordFields). copied_bytes p.0 ++ record_bytes p.1) (λ t p. copied_fits p.0 && record_fits p.1) (λ table. both copied_at (λ copied. record_at)) table_laws
    (λ t. both_laws copied_bytes copied_fits copied_at (λ c. record_bytes) (λ c. record_fits) (λ c. record_at) copied_laws (λ c. record_laws))

abbrev AddData : Type 0
AddData = (ℕ × List ℕ) × (ℕ × ℕ)

abbrev add_bytes : AddData → List ℕ
add_bytes x = table_bytes x.0 ++ (to_le_bytes w16 x.1.0 ++ to_le_bytes w32 x.1.1)

abbrev add_fits : AddData → Bool
add_fits x = table_fits x.0 && (ltb x.1.0 (2 ^ 16) && ltb x.1.1 (2 ^ 32))

abbrev add_parts : List ℕ → Option (AddData × List ℕ)
add_parts bytes = both table_at (λ table. both (number_at w16) (λ column. number_at w32)) bytes

add_laws : Laws add_bytes add_fits add_parts
add_laws = both_laws table_bytes table_fits table_at (λ t (p : ℕ × ℕ). to_le_bytes w16 p.0 ++ to_le_bytes w32 p.1) (λ t p. ltb p.0 (2 ^ 16) && ltb p.1 (2 ^ 32)) (λ table. both (number_at w16) (λ column. number_at w32)) table_laws
    (λ t. both_laws (to_le_bytes w16) (λ n. ltb n (2 ^ 16)) (number_at w16) (λ c. to_le_bytes w32) (λ c n. ltb n (2 ^ 32)) (λ c. number_at w32) laws16 (λ c. laws32))

abbrev put_of : PutData → EntryKind
put_of x = kind.Change (change.Put (table_id x.0.0) x.0.1 x.1.0 x.1.1)

abbrev add_of : AddData → EntryKind
add_of x = kind.Change (change.Add (table_id x.0.0) x.0.1 (column_id x.1.0) (cast_signed w32 x.1.1))

-- ---- kinds that are read

record TookKind (tag : ℕ) (bytes : List ℕ) (x : EntryKind × List ℕ) : Type 0 where
  tag_is : tag ≡ entry_tag x.0
  taken : Takes bytes (kind_bytes x.0) x.1
  fits : kind_fits x.0 ≡ true

took_nothing : (tag : ℕ) (bytes : List ℕ) (k : EntryKind) (x : EntryKind × List ℕ) → IsBytes bytes → kind_bytes k ≡ [] → kind_fits k ≡ true → tag ≡ entry_tag k → Some (k, bytes) ≡ Some x → TookKind tag bytes x
took_nothing tag bytes k x is_bytes none fits is e =
    let made : TookKind tag bytes (k, bytes) = record { tag_is = is; taken = subst (λ t. Takes bytes t bytes) (sym none) (record { parts = refl; rest_fits = is_bytes }); fits = fits } in
    subst (λ (y : EntryKind × List ℕ). TookKind tag bytes y) (some_is (k, bytes) x e) made

took_made : {A : Type 0} (w : A → List ℕ) (f : A → Bool) (r : List ℕ → Option (A × List ℕ)) → Laws w f r → (to : A → EntryKind) (tag k : ℕ) (bytes : List ℕ) (x : EntryKind × List ℕ) → IsBytes bytes → tag ≡ k
    → ((a : A) → k ≡ entry_tag (to a)) → ((a : A) → f a ≡ true → w a ≡ kind_bytes (to a)) → ((a : A) → f a ≡ true → kind_fits (to a) ≡ true) → changed to r bytes ≡ Some x → TookKind tag bytes x
took_made {A = A} w f r laws to tag k bytes x is_bytes is tags writes fits e =
    let a = bind_some (r bytes) (λ a. Some (to a.0, a.1)) x e in
    let t = laws.takes bytes a.0 is_bytes a.1 in
    let made : TookKind tag bytes (to a.0.0, a.0.1) = record { tag_is = is ∙ tags a.0.0; taken = subst (λ s. Takes bytes s a.0.1) (writes a.0.0 t.1) t.0; fits = fits a.0.0 t.1 } in
    subst (λ (y : EntryKind × List ℕ). TookKind tag bytes y) (some_is (to a.0.0, a.0.1) x a.2) made

-- a value that is made of a value that is made
abbrev remade : {A B : Type 0} → (A → B) → A × List ℕ → Option (B × List ℕ)
remade f a = Some (f a.0, a.1)

twice : {A B C : Type 0} (f : A → B) (g : B → C) (o : Option (A × List ℕ)) → ((o >>= remade f) >>= remade g) ≡ (o >>= remade (λ a. g (f a)))
twice f g None = refl
twice f g (Some a) = refl

put_is : (x : PutData) → put_bytes x ≡ kind_bytes (put_of x)
put_is x = append_assoc (to_le_bytes w32 x.0.0) (bookmark_bytes x.0.1) (copied_bytes x.1.0 ++ record_bytes x.1.1)

put_kind_fits : (x : PutData) → put_fits x ≡ true → kind_fits (put_of x) ≡ true
put_kind_fits x h =
    let a = and_parts (table_fits x.0) (copied_fits x.1.0 && record_fits x.1.1) h in
    let b = and_parts (ltb x.0.0 (2 ^ 32)) (bookmark_fits x.0.1) a.0 in
    and_from (ltb x.0.0 (2 ^ 32)) (bookmark_fits x.0.1 && (copied_fits x.1.0 && record_fits x.1.1)) b.0 (and_from (bookmark_fits x.0.1) (copied_fits x.1.0 && record_fits x.1.1) b.1 a.1)

add_is : (x : AddData) → add_fits x ≡ true → add_bytes x ≡ kind_bytes (add_of x)
add_is x h =
    let a = and_parts (table_fits x.0) (ltb x.1.0 (2 ^ 16) && ltb x.1.1 (2 ^ 32)) h in
    let b = and_parts (ltb x.1.0 (2 ^ 16)) (ltb x.1.1 (2 ^ 32)) a.1 in
    append_assoc (to_le_bytes w32 x.0.0) (bookmark_bytes x.0.1) (to_le_bytes w16 x.1.0 ++ to_le_bytes w32 x.1.1)
    ∙ ap (λ n. to_le_bytes w32 x.0.0 ++ (bookmark_bytes x.0.1 ++ (to_le_bytes w16 x.1.0 ++ to_le_bytes w32 n))) (sym (of_z-to_z w32 x.1.1 (ltb-true _ _ b.1)))

add_kind_fits : (x : AddData) → add_fits x ≡ true → kind_fits (add_of x) ≡ true
add_kind_fits x h =
    let a = and_parts (table_fits x.0) (ltb x.1.0 (2 ^ 16) && ltb x.1.1 (2 ^ 32)) h in
    let b = and_parts (ltb x.0.0 (2 ^ 32)) (bookmark_fits x.0.1) a.0 in
    let c = and_parts (ltb x.1.0 (2 ^ 16)) (ltb x.1.1 (2 ^ 32)) a.1 in
    let amount = amount_fits (cast_signed w32 x.1.1) in
    and_from (ltb x.0.0 (2 ^ 32)) (bookmark_fits x.0.1 && (ltb x.1.0 (2 ^ 16) && amount)) b.0 (and_from (bookmark_fits x.0.1) (ltb x.1.0 (2 ^ 16) && amount) b.1 (and_from (ltb x.1.0 (2 ^ 16)) amount c.0 (amount_is x.1.1 (ltb-true _ _ c.1))))

took_schema : (tag : ℕ) (bytes : List ℕ) (x : EntryKind × List ℕ) → IsBytes bytes → tag ≡ 15 → changed (λ step. kind.Schema step) schema_at bytes ≡ Some x → TookKind tag bytes x
took_schema tag bytes x is_bytes is e =
    let a = bind_some (schema_at bytes) (λ a. Some (kind.Schema a.0, a.1)) x e in
    let t = schema_take bytes a.0 is_bytes a.1 in
    let made : TookKind tag bytes (kind.Schema a.0.0, a.0.1) = record { tag_is = is; taken = t.taken; fits = t.fits } in
    subst (λ (y : EntryKind × List ℕ). TookKind tag bytes y) (some_is (kind.Schema a.0.0, a.0.1) x a.2) made

kind_take : (tag : ℕ) (bytes : List ℕ) (x : EntryKind × List ℕ) → IsBytes bytes → kind_at tag bytes ≡ Some x → TookKind tag bytes x
unfolding kind_at put_at add_at
kind_take tag bytes x b =
    case_of tag 1 (Some (kind.Enter, bytes)) _ x (λ is e. took_nothing tag bytes kind.Enter x b refl refl is e)
    (case_of tag 2 (Some (kind.Leave, bytes)) _ x (λ is e. took_nothing tag bytes kind.Leave x b refl refl is e)
    (case_of tag 3 (changed (λ table. kind.Open (table_id table)) (number_at w32) bytes) _ x (λ is e. took_made (to_le_bytes w32) (λ n. ltb n (2 ^ 32)) (number_at w32) laws32 (λ table. kind.Open (table_id table)) tag 3 bytes x b is (λ a. refl) (λ a h. refl) (λ a h. h) e)
    (case_of tag 4 (changed (λ table. kind.Shut (table_id table)) (number_at w32) bytes) _ x (λ is e. took_made (to_le_bytes w32) (λ n. ltb n (2 ^ 32)) (number_at w32) laws32 (λ table. kind.Shut (table_id table)) tag 4 bytes x b is (λ a. refl) (λ a h. refl) (λ a h. h) e)
    (case_of tag 5 (Some (kind.Begin, bytes)) _ x (λ is e. took_nothing tag bytes kind.Begin x b refl refl is e)
    (case_of tag 6 (Some (kind.Save, bytes)) _ x (λ is e. took_nothing tag bytes kind.Save x b refl refl is e)
    (case_of tag 7 (changed (λ change. kind.Change change) put_at bytes) _ x (λ is e. took_made put_bytes put_fits put_parts put_laws put_of tag 7 bytes x b is (λ a. refl) (λ a h. put_is a) put_kind_fits (sym (twice (λ (p : PutData). change.Put (table_id p.0.0) p.0.1 p.1.0 p.1.1) (λ c. kind.Change c) (put_parts bytes)) ∙ e))
    (case_of tag 8 (changed (λ x. kind.Change (change.Drop (table_id x.0) x.1)) table_at bytes) _ x (λ is e. took_made table_bytes table_fits table_at table_laws (λ p. kind.Change (change.Drop (table_id p.0) p.1)) tag 8 bytes x b is (λ a. refl) (λ a h. refl) (λ a h. h) e)
    (case_of tag 9 (changed (λ change. kind.Change change) add_at bytes) _ x (λ is e. took_made add_bytes add_fits add_parts add_laws add_of tag 9 bytes x b is (λ a. refl) add_is add_kind_fits (sym (twice (λ (p : AddData). change.Add (table_id p.0.0) p.0.1 (column_id p.1.0) (cast_signed w32 p.1.1)) (λ c. kind.Change c) (add_parts bytes)) ∙ e))
    (case_of tag 10 (changed (λ x. kind.Change (change.Hold (table_id x.0) x.1)) table_at bytes) _ x (λ is e. took_made table_bytes table_fits table_at table_laws (λ p. kind.Change (change.Hold (table_id p.0) p.1)) tag 10 bytes x b is (λ a. refl) (λ a h. refl) (λ a h. h) e)
    (case_of tag 11 (Some (kind.Release, bytes)) _ x (λ is e. took_nothing tag bytes kind.Release x b refl refl is e)
    (case_of tag 12 (Some (kind.Undo, bytes)) _ x (λ is e. took_nothing tag bytes kind.Undo x b refl refl is e)
    (case_of tag 13 (Some (kind.UndoAll, bytes)) _ x (λ is e. took_nothing tag bytes kind.UndoAll x b refl refl is e)
    (case_of tag 14 (Some (kind.Commit, bytes)) _ x (λ is e. took_nothing tag bytes kind.Commit x b refl refl is e)
    (case_of tag 15 (changed (λ step. kind.Schema step) schema_at bytes) None x (λ is e. took_schema tag bytes x b is e) (λ e. absurd cc)))))))))))))))

-- ---- kinds that are read again

kind_again : (k : EntryKind) (rest : List ℕ) → kind_fits k ≡ true → kind_at (entry_tag k) (kind_bytes k ++ rest) ≡ Some (k, rest)
unfolding kind_at put_at add_at
kind_again kind.Enter rest h = refl
kind_again kind.Leave rest h = refl
kind_again (kind.Open table) rest h = ap (λ (o : Option (ℕ × List ℕ)). o >>= λ a. Some (kind.Open (table_id a.0), a.1)) (laws32.again table.0 rest h)
kind_again (kind.Shut table) rest h = ap (λ (o : Option (ℕ × List ℕ)). o >>= λ a. Some (kind.Shut (table_id a.0), a.1)) (laws32.again table.0 rest h)
kind_again kind.Begin rest h = refl
kind_again kind.Save rest h = refl
kind_again (kind.Change (change.Put table bookmark copied values)) rest h =
    let x : PutData = ((table.0, bookmark), (copied, values)) in
    let a = and_parts (ltb table.0 (2 ^ 32)) (bookmark_fits bookmark && (copied_fits copied && record_fits values)) h in
    let b = and_parts (bookmark_fits bookmark) (copied_fits copied && record_fits values) a.1 in
    let fits = and_from (table_fits x.0) (copied_fits copied && record_fits values) (and_from (ltb table.0 (2 ^ 32)) (bookmark_fits bookmark) a.0 b.0) b.1 in
    ap (λ (t : List ℕ). changed (λ c. kind.Change c) put_at (t ++ rest)) (sym (put_is x))
    ∙ twice (λ (p : PutData). change.Put (table_id p.0.0) p.0.1 p.1.0 p.1.1) (λ c. kind.Change c) (put_parts (put_bytes x ++ rest))
    ∙ ap (λ (o : Option (PutData × List ℕ)). o >>= λ a. Some (put_of a.0, a.1)) (put_laws.again x rest fits)
kind_again (kind.Change (change.Drop table bookmark)) rest h = ap (λ (o : Option ((ℕ × List ℕ) × List ℕ)). o >>= λ a. Some (kind.Change (change.Drop (table_id a.0.0) a.0.1), a.1)) (table_laws.again (table.0, bookmark) rest h)
kind_again (kind.Change (change.Add table bookmark column amount)) rest h =
    let n = cast_unsigned w32 amount in
    let x : AddData = ((table.0, bookmark), (column.0, n)) in
    let a = and_parts (ltb table.0 (2 ^ 32)) (bookmark_fits bookmark && (ltb column.0 (2 ^ 16) && amount_fits amount)) h in
    let b = and_parts (bookmark_fits bookmark) (ltb column.0 (2 ^ 16) && amount_fits amount) a.1 in
    let c = and_parts (ltb column.0 (2 ^ 16)) (amount_fits amount) b.1 in
    let fits = and_from (table_fits x.0) (ltb column.0 (2 ^ 16) && ltb n (2 ^ 32)) (and_from (ltb table.0 (2 ^ 32)) (bookmark_fits bookmark) a.0 b.0) (and_from (ltb column.0 (2 ^ 16)) (ltb n (2 ^ 32)) c.0 (lt-ltb _ _ (amount_small amount c.1))) in
    ap (λ (t : List ℕ). changed (λ c. kind.Change c) add_at (t ++ rest)) (sym (append_assoc (to_le_bytes w32 table.0) (bookmark_bytes bookmark) (to_le_bytes w16 column.0 ++ to_le_bytes w32 n)))
    ∙ twice (λ (p : AddData). change.Add (table_id p.0.0) p.0.1 (column_id p.1.0) (cast_signed w32 p.1.1)) (λ c. kind.Change c) (add_parts (add_bytes x ++ rest))
    ∙ ap (λ (o : Option (AddData × List ℕ)). o >>= λ a. Some (add_of a.0, a.1)) (add_laws.again x rest fits)
    ∙ ap (λ z. Some (kind.Change (change.Add table bookmark column z), rest)) (amount_again amount c.1)
kind_again (kind.Change (change.Hold table bookmark)) rest h = ap (λ (o : Option ((ℕ × List ℕ) × List ℕ)). o >>= λ a. Some (kind.Change (change.Hold (table_id a.0.0) a.0.1), a.1)) (table_laws.again (table.0, bookmark) rest h)
kind_again kind.Release rest h = refl
kind_again kind.Undo rest h = refl
kind_again kind.UndoAll rest h = refl
kind_again kind.Commit rest h = refl
kind_again (kind.Schema step) rest h = ap (λ o. o >>= λ a. Some (kind.Schema a.0, a.1)) (schema_again step rest h)

-- ---- whole entries

abbrev pub is_label : ℕ → Bool
is_label session = leb 1 session && leb session 99

session_laws : Laws (to_le_bytes w32) (λ n. ltb n (2 ^ 32) && is_label n) (tested is_label (number_at w32))
session_laws = tested_laws is_label (to_le_bytes w32) (λ n. ltb n (2 ^ 32)) (number_at w32) laws32

abbrev pub rest_fits : Entry → Bool
rest_fits entry = is_label entry.session.0 && kind_fits entry.kind

abbrev ended : ℕ → EntryKind × List ℕ → Option Entry
ended session k = cond (eqb (length k.1) 0) (Some (record { session = session_id session; kind = k.0 })) None

pub rest_again : (entry : Entry) → rest_fits entry ≡ true → rest_at (entry_rest entry) ≡ Some entry
unfolding rest_at
rest_again entry h =
    let p = and_parts (is_label entry.session.0) (kind_fits entry.kind) h in
    let most : entry.session.0 ≤ 99 = leb-true _ _ (and_parts (leb 1 entry.session.0) (leb entry.session.0 99) p.0).1 in
    let tag = entry_tag entry.kind in
    let whole : kind_at tag (kind_bytes entry.kind) ≡ Some (entry.kind, []) = ap (kind_at tag) (sym (append-nil (kind_bytes entry.kind))) ∙ kind_again entry.kind [] p.1 in
    ap (λ (o : Option (ℕ × List ℕ)). o >>= λ session. kind_at tag session.1 >>= ended session.0) (session_laws.again entry.session.0 (kind_bytes entry.kind) (and_from (ltb entry.session.0 (2 ^ 32)) (is_label entry.session.0) (lt-ltb _ _ (omega arith)) p.0))
    ∙ ap (λ (o : Option (EntryKind × List ℕ)). o >>= ended entry.session.0) whole

pub record TookRest (bytes : List ℕ) (entry : Entry) : Type 0 where
  pub spelled : bytes ≡ entry_rest entry
  pub fits : rest_fits entry ≡ true

pub rest_take : (bytes : List ℕ) (entry : Entry) → IsBytes bytes → rest_at bytes ≡ Some entry → TookRest bytes entry
unfolding rest_at
rest_take bytes entry is_bytes e =
    let a = bind_some (byte_at bytes) (λ tag. tested is_label (number_at w32) tag.1 >>= λ session. kind_at tag.0 session.1 >>= ended session.0) entry e in
    let b = bind_some (tested is_label (number_at w32) a.0.1) (λ session. kind_at a.0.0 session.1 >>= ended session.0) entry a.2 in
    let c = bind_some (kind_at a.0.0 b.0.1) (ended b.0.0) entry b.2 in
    let g = passed_some (eqb (length c.0.1) 0) (Some (record { session = session_id b.0.0; kind = c.0.0 })) entry c.2 in
    let t = byte_laws.takes bytes a.0 is_bytes a.1 in
    let s = session_laws.takes a.0.1 b.0 t.0.rest_fits b.1 in
    let k = kind_take a.0.0 b.0.1 c.0 s.0.rest_fits c.1 in
    let nothing : c.0.1 ≡ [] = nil_from_length c.0.1 (eqb-true _ _ g.0) in
    let inner = Takes-then a.0.1 (to_le_bytes w32 b.0.0) b.0.1 (kind_bytes c.0.0) c.0.1 s.0 k.taken in
    let outer = Takes-then bytes (a.0.0 ∷ []) a.0.1 (to_le_bytes w32 b.0.0 ++ kind_bytes c.0.0) c.0.1 t.0 inner in
    let text = to_le_bytes w32 b.0.0 ++ kind_bytes c.0.0 in
    let made : TookRest bytes (record { session = session_id b.0.0; kind = c.0.0 }) = record {
      spelled = outer.parts ∙ ap (λ r. (a.0.0 ∷ text) ++ r) nothing ∙ append-nil (a.0.0 ∷ text) ∙ ap (λ n. n ∷ text) k.tag_is;
      fits = and_from (is_label b.0.0) (kind_fits c.0.0) (and_parts (ltb b.0.0 (2 ^ 32)) (is_label b.0.0) s.1).1 k.fits;
    } in
    subst (λ (y : Entry). TookRest bytes y) (some_is (record { session = session_id b.0.0; kind = c.0.0 }) entry g.1) made
