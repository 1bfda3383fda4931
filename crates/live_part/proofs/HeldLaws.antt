-- What is read of held changes was written, and what was written is read again.
use Rattle.std.proofs.Common.{◌≡◌, ℕ, zero, suc, ◌+◌, ◌^◌, ◌≤◌, ◌<◌, Bool, true, false, cond, ltb, leb, eqb, ◌&&◌, List, [], ◌∷◌, ◌++◌, length, take, drop, Option, Some, None, refl, sym, ap, subst, ◌∙◌, append_assoc, arith}
use Rattle.std.specs.Int.{w16, w32, w64, to_le_bytes, cast_unsigned}
use Rattle.std.specs.List.{flat_map, list_all}
use Rattle.std.proofs.lemmas.Bool.{leb-true, ltb-true, lt-ltb, and_parts, and_from, eqb-true, eq-eqb}
use Rattle.std.proofs.lemmas.List.{length-append}
use Rattle.common_lemmas.proofs.Options.{none_some}
use Rattle.column_set.specs.NumberReading.{◌>>=◌, number_at, IsBytes, IsBytes-take, bind_some, guard_some, passed_some, some_is, Takes, Takes-then}
use Rattle.column_set.specs.declared.changes.Change.TheVariants as change
use Rattle.column_set.specs.RecordValues.{RecordFields}
use Rattle.column_set.specs.Rows.{largest_row}
use Rattle.database_state.specs.State.{Status, uncommitted, committed, undone}
use Rattle.index_derive.specs.declared.log.Entry.{Entry}
use Rattle.index_derive.specs.declared.log.EntryKind.{EntryKind}
use Rattle.index_derive.specs.declared.log.EntryKind.TheVariants as entry
use Rattle.log_grammar.specs.EntryBytes.{bool_byte, bookmark_bytes, bookmark_fits, change_bytes, change_fits, entry_bytes, entry_rest, has_spelling, kind_fits}
use Rattle.log_grammar.specs.EntryReading.{both, byte_at, bytes_at, changed, flag_at, rest_at, tested}
use Rattle.log_grammar.proofs.FieldLaws.{flag_laws}
use Rattle.log_grammar.proofs.KindLaws.{is_label, rest_again, rest_take}
use Rattle.log_grammar.proofs.Laws.{Laws, both_laws, byte_laws, bytes_laws, changed_laws, laws16, laws32, tested_laws}
use Rattle.version_store.specs.HeldChanges.{HeldChange}
use Rattle.version_store.specs.declared.calls.ChangeKind.{ChangeKind}
use Rattle.version_store.specs.declared.calls.ChangeKind.TheVariants as kind
use Rattle.live_part.specs.LiveBytes.{bare_change, entry_of, held_bytes, held_fits, number_of, rises, row_bytes, row_fits, sized_entry_bytes, status_bytes, status_fits}
use Rattle.live_part.specs.LiveReading.{HeldFields, change_in, changes_at, entry_at, held_at, held_fields_at, held_read, is_level, kind_of_change, put_kind, rising_at, row_at, short_row_at, sized_entry_at, status_at, status_of}
use Rattle.live_part.proofs.SessionLaws.{counted_laws, from_levels, laws64, refit, rising_laws, some_levels}

-- ---- states

state_again : (state commit : ℕ) (rest : List ℕ) → ltb commit (2 ^ 64) ≡ true → both byte_at (λ s. number_at w64) (state ∷ (to_le_bytes w64 commit ++ rest)) ≡ Some ((state, commit), rest)
state_again state commit rest h = ap (λ (o : Option (ℕ × List ℕ)). o >>= λ b. Some ((state, b.0), b.1)) (laws64.again commit rest h)

abbrev stands_as : List ℕ → (ℕ × ℕ) × List ℕ → Option (Status × List ℕ)
stands_as bytes x = status_of x.0.0 x.0.1 >>= λ status. Some (status, x.1)

status_again : (status : Status) (rest : List ℕ) → status_fits status ≡ true → status_at (status_bytes status ++ rest) ≡ Some (status, rest)
unfolding status_at
status_again uncommitted rest h = ap (λ (o : Option ((ℕ × ℕ) × List ℕ)). o >>= stands_as rest) (state_again 0 0 rest refl)
status_again (committed number) rest h =
    let p = and_parts (leb 1 number) (ltb number (2 ^ 64)) h in
    ap (λ (o : Option ((ℕ × ℕ) × List ℕ)). o >>= stands_as rest) (state_again 1 number rest p.1)
    ∙ ap (λ (b : Bool). cond b None (Some (committed number)) >>= λ status. Some (status, rest)) (some_levels number p.0)
status_again undone rest h = ap (λ (o : Option ((ℕ × ℕ) × List ℕ)). o >>= stands_as rest) (state_again 2 0 rest refl)

record StandsAs (state commit : ℕ) (status : Status) : Type 0 where
  bytes : state ∷ to_le_bytes w64 commit ≡ status_bytes status
  fits : status_fits status ≡ true

status_is : (state commit : ℕ) (status : Status) → status_of state commit ≡ Some status → ltb commit (2 ^ 64) ≡ true → StandsAs state commit status
status_is zero commit status e small =
    let p = passed_some (eqb commit 0) (Some uncommitted) status e in
    subst (StandsAs 0 commit) (some_is uncommitted status p.1) (record { bytes = ap (λ n. 0 ∷ to_le_bytes w64 n) (eqb-true commit 0 p.0); fits = refl })
status_is (suc zero) commit status e small =
    let p = guard_some (eqb commit 0) (committed commit) status e in
    subst (StandsAs 1 commit) p.1 (record { bytes = refl; fits = and_from (leb 1 commit) (ltb commit (2 ^ 64)) (from_levels commit p.0) small })
status_is (suc (suc zero)) commit status e small =
    let p = passed_some (eqb commit 0) (Some undone) status e in
    subst (StandsAs 2 commit) (some_is undone status p.1) (record { bytes = ap (λ n. 2 ∷ to_le_bytes w64 n) (eqb-true commit 0 p.0); fits = refl })
status_is (suc (suc (suc n))) commit status e small = none_some status e

status_take : (bytes : List ℕ) (x : Status × List ℕ) → IsBytes bytes → status_at bytes ≡ Some x → Takes bytes (status_bytes x.0) x.1 × (status_fits x.0 ≡ true)
unfolding status_at
status_take bytes x is_bytes e =
    let a = bind_some (both byte_at (λ s. number_at w64) bytes) (stands_as bytes) x e in
    let b = bind_some (status_of a.0.0.0 a.0.0.1) (λ status. Some (status, a.0.1)) x a.2 in
    let t = pair_laws.takes bytes a.0 is_bytes a.1 in
    let p = and_parts (ltb a.0.0.0 256) (ltb a.0.0.1 (2 ^ 64)) t.1 in
    let s = status_is a.0.0.0 a.0.0.1 b.0 b.1 p.1 in
    subst (λ (y : Status × List ℕ). Takes bytes (status_bytes y.0) y.1 × (status_fits y.0 ≡ true)) (some_is (b.0, a.0.1) x b.2) (subst (λ (w : List ℕ). Takes bytes w a.0.1) s.bytes t.0, s.fits)
  where
    pair_laws : Laws (λ (p : ℕ × ℕ). (p.0 ∷ []) ++ to_le_bytes w64 p.1) (λ p. ltb p.0 256 && ltb p.1 (2 ^ 64)) (both byte_at (λ s. number_at w64))
    pair_laws = both_laws (λ n. n ∷ []) (λ n. ltb n 256) byte_at (λ n. to_le_bytes w64) (λ n m. ltb m (2 ^ 64)) (λ n. number_at w64) byte_laws (λ n. laws64)

status_laws : Laws status_bytes status_fits status_at
status_laws = record { again = status_again; takes = status_take }

-- ---- entries

abbrev fits_size : ℕ → Entry → Bool
fits_size size made = has_spelling made && eqb (length (entry_bytes made)) size

abbrev ended : List ℕ → List ℕ → Option (Entry × List ℕ)
ended text behind = rest_at text >>= λ e. Some (e, behind)

entry_again : (size : ℕ) (made : Entry) (rest : List ℕ) → has_spelling made ≡ true → length (entry_bytes made) ≡ size → entry_at size (entry_bytes made ++ rest) ≡ Some (made, rest)
unfolding entry_at has_spelling entry_bytes
entry_again size made rest h long =
    let own = entry_rest made in
    let p = and_parts (is_label made.session.0) (kind_fits made.kind && ltb (length own) (2 ^ 32)) h in
    let q = and_parts (kind_fits made.kind) (ltb (length own) (2 ^ 32)) p.1 in
    let count : length own + 4 ≡ size = omega (arith, length-append (to_le_bytes w32 (length own)) own, long) in
    ap (λ (b : List ℕ). number_at w32 b >>= λ n. cond (eqb (n.0 + 4) size) (bytes_at n.0 n.1 >>= λ r. ended r.0 r.1) None) (append_assoc (to_le_bytes w32 (length own)) own rest)
    ∙ ap (λ (o : Option (ℕ × List ℕ)). o >>= λ n. cond (eqb (n.0 + 4) size) (bytes_at n.0 n.1 >>= λ r. ended r.0 r.1) None) (laws32.again (length own) (own ++ rest) q.1)
    ∙ ap (λ (b : Bool). cond b (bytes_at (length own) (own ++ rest) >>= λ r. ended r.0 r.1) None) (eq-eqb (length own + 4) size count)
    ∙ ap (λ (o : Option (List ℕ × List ℕ)). o >>= λ r. ended r.0 r.1) ((bytes_laws (length own)).again own rest (eq-eqb (length own) (length own) refl))
    ∙ ap (λ (o : Option Entry). o >>= λ e. Some (e, rest)) (rest_again made (and_from (is_label made.session.0) (kind_fits made.kind) p.0 q.0))

entry_take : (size : ℕ) (bytes : List ℕ) (x : Entry × List ℕ) → IsBytes bytes → entry_at size bytes ≡ Some x → Takes bytes (entry_bytes x.0) x.1 × (fits_size size x.0 ≡ true)
unfolding entry_at has_spelling entry_bytes
entry_take size bytes x is_bytes e =
    let a = bind_some (number_at w32 bytes) (λ n. cond (eqb (n.0 + 4) size) (bytes_at n.0 n.1 >>= λ r. ended r.0 r.1) None) x e in
    let s = passed_some (eqb (a.0.0 + 4) size) (bytes_at a.0.0 a.0.1 >>= λ r. ended r.0 r.1) x a.2 in
    let b = bind_some (bytes_at a.0.0 a.0.1) (λ r. ended r.0 r.1) x s.1 in
    let c = bind_some (rest_at b.0.0) (λ made. Some (made, b.0.1)) x b.2 in
    let n = laws32.takes bytes a.0 is_bytes a.1 in
    let r = (bytes_laws a.0.0).takes a.0.1 b.0 n.0.rest_fits b.1 in
    let g = guard_some (ltb (length a.0.1) a.0.0) (take a.0.0 a.0.1, drop a.0.0 a.0.1) b.0 b.1 in
    let own_bytes : IsBytes b.0.0 = subst (λ (p : List ℕ × List ℕ). IsBytes p.0) g.1 (IsBytes-take a.0.0 a.0.1 n.0.rest_fits) in
    let t = rest_take b.0.0 c.0 own_bytes c.1 in
    let count : a.0.0 ≡ length (entry_rest c.0) = sym (eqb-true _ _ r.1) ∙ ap length t.spelled in
    let f = and_parts (is_label c.0.session.0) (kind_fits c.0.kind) t.fits in
    let whole = Takes-then bytes (to_le_bytes w32 a.0.0) a.0.1 b.0.0 b.0.1 n.0 r.0 in
    let taken : Takes bytes (to_le_bytes w32 (length (entry_rest c.0)) ++ entry_rest c.0) b.0.1 =
    subst (λ s. Takes bytes (to_le_bytes w32 (length (entry_rest c.0)) ++ s) b.0.1) t.spelled (subst (λ k. Takes bytes (to_le_bytes w32 k ++ b.0.0) b.0.1) count whole) in
    let formed : (is_label c.0.session.0 && (kind_fits c.0.kind && ltb (length (entry_rest c.0)) (2 ^ 32))) ≡ true =
    and_from (is_label c.0.session.0) (kind_fits c.0.kind && ltb (length (entry_rest c.0)) (2 ^ 32)) f.0 (and_from (kind_fits c.0.kind) (ltb (length (entry_rest c.0)) (2 ^ 32)) f.1 (ap (λ k. ltb k (2 ^ 32)) (sym count) ∙ n.1)) in
    let sized : length (to_le_bytes w32 (length (entry_rest c.0)) ++ entry_rest c.0) ≡ size =
    omega (arith, length-append (to_le_bytes w32 (length (entry_rest c.0))) (entry_rest c.0), count, eqb-true (a.0.0 + 4) size s.0) in
    subst (λ (y : Entry × List ℕ). Takes bytes (entry_bytes y.0) y.1 × (fits_size size y.0 ≡ true)) (some_is (c.0, b.0.1) x c.2) (taken, and_from _ _ formed (eq-eqb _ size sized))

entry_laws : (size : ℕ) → Laws entry_bytes (fits_size size) (entry_at size)
entry_laws size = record {
  again = λ made rest h. let p = and_parts (has_spelling made) (eqb (length (entry_bytes made)) size) h in entry_again size made rest p.0 (eqb-true _ _ p.1);
  takes = entry_take size;
}

abbrev sized_entry_fits : Entry → Bool
sized_entry_fits made = ltb (length (entry_bytes made)) (2 ^ 32) && has_spelling made

sized_entry_laws : Laws sized_entry_bytes sized_entry_fits sized_entry_at
unfolding sized_entry_at
sized_entry_laws =
    changed_laws {A = ℕ × Entry} {B = Entry} (λ p. to_le_bytes w32 p.0 ++ entry_bytes p.1) (λ p. ltb p.0 (2 ^ 32) && fits_size p.0 p.1) (both (number_at w32) entry_at)
    sized_entry_bytes sized_entry_fits (λ p. p.1) (λ made. (length (entry_bytes made), made))
    (both_laws (to_le_bytes w32) (λ n. ltb n (2 ^ 32)) (number_at w32) (λ n. entry_bytes) fits_size entry_at laws32 entry_laws)
    (record {
      back = λ made h. refl;
      back_fits = λ made h.
          let p = and_parts (ltb (length (entry_bytes made)) (2 ^ 32)) (has_spelling made) h in
          and_from _ _ p.0 (and_from (has_spelling made) (eqb (length (entry_bytes made)) (length (entry_bytes made))) p.1 (eq-eqb (length (entry_bytes made)) (length (entry_bytes made)) refl));
      back_writes = λ made h. refl;
      writes = λ p h. ap (λ n. to_le_bytes w32 n ++ entry_bytes p.1) (same p h);
      fits = λ p h.
          let a = and_parts (ltb p.0 (2 ^ 32)) (fits_size p.0 p.1) h in
          and_from _ _ (ap (λ n. ltb n (2 ^ 32)) (same p h) ∙ a.0) (and_parts (has_spelling p.1) (eqb (length (entry_bytes p.1)) p.0) a.1).0;
    })
  where
    same : (p : ℕ × Entry) → (ltb p.0 (2 ^ 32) && fits_size p.0 p.1) ≡ true → length (entry_bytes p.1) ≡ p.0
    same p h = eqb-true _ _ (and_parts (has_spelling p.1) (eqb (length (entry_bytes p.1)) p.0) (and_parts (ltb p.0 (2 ^ 32)) (fits_size p.0 p.1) h).1).1

-- ---- rows before

abbrev short_bytes : List ℕ → List ℕ
short_bytes row = to_le_bytes w16 (length row) ++ row

abbrev is_short : ℕ → Bool
is_short size = leb size largest_row

below_2_16 : (n : ℕ) → leb n 1700 ≡ true → ltb n (2 ^ 16) ≡ true
below_2_16 n h = lt-ltb n (2 ^ 16) (omega (arith, leb-true n 1700 h))

short_laws : Laws short_bytes (λ row. is_short (length row)) short_row_at
unfolding short_row_at
short_laws =
    changed_laws {A = ℕ × List ℕ} {B = List ℕ} (λ p. to_le_bytes w16 p.0 ++ p.1) (λ p. (ltb p.0 (2 ^ 16) && is_short p.0) && eqb (length p.1) p.0) (both (tested is_short (number_at w16)) bytes_at)
    short_bytes (λ row. is_short (length row)) (λ p. p.1) (λ row. (length row, row))
    (both_laws (to_le_bytes w16) (λ n. ltb n (2 ^ 16) && is_short n) (tested is_short (number_at w16)) (λ n text. text) (λ n text. eqb (length text) n) bytes_at (tested_laws is_short (to_le_bytes w16) (λ n. ltb n (2 ^ 16)) (number_at w16) laws16) bytes_laws)
    (record {
      back = λ row h. refl;
      back_fits = λ row h. and_from _ _ (and_from _ _ (below_2_16 (length row) h) h) (eq-eqb (length row) (length row) refl);
      back_writes = λ row h. refl;
      writes = λ p h. ap (λ n. to_le_bytes w16 n ++ p.1) (eqb-true _ _ (and_parts (ltb p.0 (2 ^ 16) && is_short p.0) (eqb (length p.1) p.0) h).1);
      fits = λ p h. let a = and_parts (ltb p.0 (2 ^ 16) && is_short p.0) (eqb (length p.1) p.0) h in ap is_short (eqb-true _ _ a.1) ∙ (and_parts (ltb p.0 (2 ^ 16)) (is_short p.0) a.0).1;
    })

row_again : (row : Option (List ℕ)) (rest : List ℕ) → row_fits row ≡ true → row_at (row_bytes row ++ rest) ≡ Some (row, rest)
unfolding row_at flag_at
row_again None rest h = refl
row_again (Some row) rest h = ap (λ (o : Option (List ℕ × List ℕ)). o >>= λ a. Some (Some a.0, a.1)) (short_laws.again row rest h)

row_take : (flag : Bool) (bytes after : List ℕ) (x : Option (List ℕ) × List ℕ) → Takes bytes (bool_byte flag ∷ []) after → cond flag (changed Some short_row_at after) (Some (None, after)) ≡ Some x → Takes bytes (row_bytes x.0) x.1 × (row_fits x.0 ≡ true)
row_take false bytes after x t e = subst (λ (y : Option (List ℕ) × List ℕ). Takes bytes (row_bytes y.0) y.1 × (row_fits y.0 ≡ true)) (some_is (None, after) x e) (t, refl)
row_take true bytes after x t e =
    let b = bind_some (short_row_at after) (λ (a : List ℕ × List ℕ). Some (Some a.0, a.1)) x e in
    let s = short_laws.takes after b.0 t.rest_fits b.1 in
    let taken = Takes-then bytes (1 ∷ []) after (short_bytes b.0.0) b.0.1 t s.0 in
    subst (λ (y : Option (List ℕ) × List ℕ). Takes bytes (row_bytes y.0) y.1 × (row_fits y.0 ≡ true)) (some_is (Some b.0.0, b.0.1) x b.2) (taken, s.1)

row_laws : Laws row_bytes row_fits row_at
unfolding row_at
row_laws = record {
  again = row_again;
  takes = λ bytes x fits e.
      let a = bind_some (flag_at bytes) (λ (flag : Bool × List ℕ). cond flag.0 (changed Some short_row_at flag.1) (Some (None, flag.1))) x e in
      let t = flag_laws.takes bytes a.0 fits a.1 in
      row_take a.0.0 bytes a.0.1 x t.0 a.2;
}

-- ---- the fields of a held change

level_laws : Laws (λ n. n ∷ []) is_level (tested is_level byte_at)
level_laws =
    refit (λ n. n ∷ []) (λ n. ltb n 256 && is_level n) is_level (tested is_level byte_at) (tested_laws is_level (λ n. n ∷ []) (λ n. ltb n 256) byte_at byte_laws)
    (λ n h. and_from (ltb n 256) (is_level n) (lt-ltb n 256 (omega (arith, leb-true n 7 (and_parts (leb 1 n) (leb n 7) h).1))) h) (λ n h. (and_parts (ltb n 256) (is_level n) h).1)

abbrev fields_bytes : HeldFields → List ℕ
fields_bytes x = to_le_bytes w64 x.0 ++ ((x.1.0 ∷ []) ++ (status_bytes x.1.1.0 ++ (sized_entry_bytes x.1.1.1.0 ++ row_bytes x.1.1.1.1)))

abbrev fields_fit : HeldFields → Bool
fields_fit x = ltb x.0 (2 ^ 64) && (is_level x.1.0 && (status_fits x.1.1.0 && (sized_entry_fits x.1.1.1.0 && row_fits x.1.1.1.1)))

fields_laws : Laws fields_bytes fields_fit held_fields_at
unfolding held_fields_at
fields_laws =
    both_laws (to_le_bytes w64) (λ n. ltb n (2 ^ 64)) (number_at w64) (λ n (p : ℕ × (Status × (Entry × Option (List ℕ)))). (p.0 ∷ []) ++ (status_bytes p.1.0 ++ (sized_entry_bytes p.1.1.0 ++ row_bytes p.1.1.1)))
    (λ n p. is_level p.0 && (status_fits p.1.0 && (sized_entry_fits p.1.1.0 && row_fits p.1.1.1))) (λ n. both (tested is_level byte_at) (λ level. both status_at (λ status. both sized_entry_at (λ made. row_at)))) laws64
    (λ n. both_laws (λ l. l ∷ []) is_level (tested is_level byte_at) (λ l (p : Status × (Entry × Option (List ℕ))). status_bytes p.0 ++ (sized_entry_bytes p.1.0 ++ row_bytes p.1.1)) (λ l p. status_fits p.0 && (sized_entry_fits p.1.0 && row_fits p.1.1)) (λ level. both status_at (λ status. both sized_entry_at (λ made. row_at))) level_laws
    (λ l. both_laws status_bytes status_fits status_at (λ s (p : Entry × Option (List ℕ)). sized_entry_bytes p.0 ++ row_bytes p.1) (λ s p. sized_entry_fits p.0 && row_fits p.1) (λ status. both sized_entry_at (λ made. row_at)) status_laws
    (λ s. both_laws sized_entry_bytes sized_entry_fits sized_entry_at (λ made. row_bytes) (λ made. row_fits) (λ made. row_at) sized_entry_laws (λ made. row_laws))))

abbrev fields_of : HeldChange → HeldFields
fields_of h = (h.number, (h.level, (h.status, (entry_of h, h.before))))

-- ---- the change that an entry is

kind_again : (what : ChangeKind) (table : ℕ) (bookmark : List ℕ) → kind_of_change (bare_change what table bookmark) ≡ Some (what, (table, bookmark))
kind_again kind.Put table bookmark = refl
kind_again kind.Drop table bookmark = refl
kind_again kind.Hold table bookmark = refl
kind_again (kind.Add column amount) table bookmark = refl

held_again : (h : HeldChange) → held_read (fields_of h) ≡ Some h
held_again h =
    ap (λ (o : Option (ChangeKind × (ℕ × List ℕ))). o >>= λ made. Some (record { number = h.number; session = h.session; level = h.level; kind = made.0; table = made.1.0; bookmark = made.1.1; before = h.before; status = h.status })) (kind_again h.kind h.table h.bookmark)

-- which change was read: the very one that is written again
record Bare (made : EntryKind) (x : ChangeKind × (ℕ × List ℕ)) : Type 0 where
  is : made ≡ entry.Change (bare_change x.0 x.1.0 x.1.1)

put_is : (table : ℕ) (bookmark : List ℕ) (copied : Option (List ℕ)) (values : RecordFields) (x : ChangeKind × (ℕ × List ℕ)) → (put_kind copied values >>= λ what. Some (what, (table, bookmark))) ≡ Some x
    → entry.Change (change.Put (record { 0 = table }) bookmark copied values) ≡ entry.Change (bare_change x.0 x.1.0 x.1.1)
put_is table bookmark None [] x e = ap (λ (y : ChangeKind × (ℕ × List ℕ)). entry.Change (bare_change y.0 y.1.0 y.1.1)) (some_is (kind.Put, (table, bookmark)) x e)
put_is table bookmark None (field ∷ fields) x e = none_some x e
put_is table bookmark (Some b) values x e = none_some x e

bare : (made : EntryKind) (x : ChangeKind × (ℕ × List ℕ)) → change_in made ≡ Some x → Bare made x
bare (entry.Change (change.Put table bookmark copied values)) x e = record { is = put_is table.0 bookmark copied values x e }
bare (entry.Change (change.Drop table bookmark)) x e = record { is = ap (λ (y : ChangeKind × (ℕ × List ℕ)). entry.Change (bare_change y.0 y.1.0 y.1.1)) (some_is (kind.Drop, (table.0, bookmark)) x e) }
bare (entry.Change (change.Hold table bookmark)) x e = record { is = ap (λ (y : ChangeKind × (ℕ × List ℕ)). entry.Change (bare_change y.0 y.1.0 y.1.1)) (some_is (kind.Hold, (table.0, bookmark)) x e) }
bare (entry.Change (change.Add table bookmark column amount)) x e = record { is = ap (λ (y : ChangeKind × (ℕ × List ℕ)). entry.Change (bare_change y.0 y.1.0 y.1.1)) (some_is (kind.Add column amount, (table.0, bookmark)) x e) }
bare entry.Enter x e = none_some x e
bare entry.Leave x e = none_some x e
bare (entry.Open table) x e = none_some x e
bare (entry.Shut table) x e = none_some x e
bare entry.Begin x e = none_some x e
bare entry.Save x e = none_some x e
bare entry.Release x e = none_some x e
bare entry.Undo x e = none_some x e
bare entry.UndoAll x e = none_some x e
bare entry.Commit x e = none_some x e
bare (entry.Schema made) x e = none_some x e

record ReadAs (x : HeldFields) (h : HeldChange) : Type 0 where
  fields : x ≡ fields_of h
  fits : held_fits h ≡ true

read_as : (x : HeldFields) (h : HeldChange) → fields_fit x ≡ true → held_read x ≡ Some h → ReadAs x h
read_as x h fits e =
    let made = x.1.1.1.0 in
    let row = x.1.1.1.1 in
    let a = bind_some (change_in made.kind) (λ (y : ChangeKind × (ℕ × List ℕ)). Some (record { number = x.0; session = made.session.0; level = x.1.0; kind = y.0; table = y.1.0; bookmark = y.1.1; before = row; status = x.1.1.0 })) h e in
    let one : HeldChange = record { number = x.0; session = made.session.0; level = x.1.0; kind = a.0.0; table = a.0.1.0; bookmark = a.0.1.1; before = row; status = x.1.1.0 } in
    let p = and_parts (ltb x.0 (2 ^ 64)) (is_level x.1.0 && (status_fits x.1.1.0 && (sized_entry_fits made && row_fits row))) fits in
    let q = and_parts (is_level x.1.0) (status_fits x.1.1.0 && (sized_entry_fits made && row_fits row)) p.1 in
    let r = and_parts (status_fits x.1.1.0) (sized_entry_fits made && row_fits row) q.1 in
    let s = and_parts (sized_entry_fits made) (row_fits row) r.1 in
    let t = and_parts (ltb (length (entry_bytes made)) (2 ^ 32)) (has_spelling made) s.0 in
    let same : made ≡ entry_of one = ap (λ (k : EntryKind). let y : Entry = record { session = made.session; kind = k } in y) (bare made.kind a.0 a.1).is in
    let whole : x ≡ fields_of one = ap (λ (m : Entry). let y : HeldFields = (x.0, (x.1.0, (x.1.1.0, (m, row)))) in y) same in
    let formed : held_fits one ≡ true = and_from _ _ p.0 (and_from _ _ q.0 (and_from _ _ r.0 (and_from _ _ (ap has_spelling (sym same) ∙ t.1) s.1))) in
    subst (ReadAs x) (some_is one h a.2) (record { fields = whole; fits = formed })

-- ---- a bare change is short

bare_length : (what : ChangeKind) (table : ℕ) (bookmark : List ℕ) → length (change_bytes (bare_change what table bookmark)) ≤ 12 + length bookmark
bare_length kind.Put table bookmark = omega (arith, length-append (bookmark_bytes bookmark) (0 ∷ 0 ∷ 0 ∷ []), length-append (to_le_bytes w16 (length bookmark)) bookmark)
bare_length kind.Drop table bookmark = omega (arith, length-append (to_le_bytes w16 (length bookmark)) bookmark)
bare_length kind.Hold table bookmark = omega (arith, length-append (to_le_bytes w16 (length bookmark)) bookmark)
bare_length (kind.Add column amount) table bookmark =
    omega (arith, length-append (bookmark_bytes bookmark) (to_le_bytes w16 column.0 ++ to_le_bytes w32 (cast_unsigned w32 amount)), length-append (to_le_bytes w16 (length bookmark)) bookmark)

bare_bookmark : (what : ChangeKind) (table : ℕ) (bookmark : List ℕ) → change_fits (bare_change what table bookmark) ≡ true → bookmark_fits bookmark ≡ true
bare_bookmark kind.Put table bookmark h = (and_parts (bookmark_fits bookmark) true (and_parts (ltb table (2 ^ 32)) (bookmark_fits bookmark && true) h).1).0
bare_bookmark kind.Drop table bookmark h = (and_parts (ltb table (2 ^ 32)) (bookmark_fits bookmark) h).1
bare_bookmark kind.Hold table bookmark h = (and_parts (ltb table (2 ^ 32)) (bookmark_fits bookmark) h).1
bare_bookmark (kind.Add column amount) table bookmark h = (and_parts (bookmark_fits bookmark) _ (and_parts (ltb table (2 ^ 32)) _ h).1).0

entry_is_short : (h : HeldChange) → has_spelling (entry_of h) ≡ true → ltb (length (entry_bytes (entry_of h))) (2 ^ 32) ≡ true
unfolding has_spelling entry_bytes
entry_is_short h spelled =
    let own = entry_rest (entry_of h) in
    let fields = change_bytes (bare_change h.kind h.table h.bookmark) in
    let p = and_parts (is_label h.session) (change_fits (bare_change h.kind h.table h.bookmark) && ltb (length own) (2 ^ 32)) spelled in
    let q = and_parts (change_fits (bare_change h.kind h.table h.bookmark)) (ltb (length own) (2 ^ 32)) p.1 in
    let most : length h.bookmark ≤ 255 = leb-true _ _ (and_parts (leb 1 (length h.bookmark)) (leb (length h.bookmark) 255) (bare_bookmark h.kind h.table h.bookmark q.0)).1 in
    lt-ltb _ _ (omega (arith, most, bare_length h.kind h.table h.bookmark, length-append (to_le_bytes w32 h.session) fields, length-append (to_le_bytes w32 (length own)) own))

pub short_spelled : (made : Entry) (h : HeldChange) → made ≡ entry_of h → has_spelling made ≡ true → length (entry_bytes made) < 2 ^ 32
short_spelled made h is spelled =
    let short : length (entry_bytes (entry_of h)) < 2 ^ 32 = ltb-true (length (entry_bytes (entry_of h))) (2 ^ 32) (entry_is_short h (sym (ap has_spelling is) ∙ spelled)) in
    subst (λ (e : Entry). length (entry_bytes e) < 2 ^ 32) (sym is) short

-- ---- held changes

fields_formed : (h : HeldChange) → held_fits h ≡ true → fields_fit (fields_of h) ≡ true
fields_formed h fits =
    let p = and_parts (ltb h.number (2 ^ 64)) (is_level h.level && (status_fits h.status && (has_spelling (entry_of h) && row_fits h.before))) fits in
    let q = and_parts (is_level h.level) (status_fits h.status && (has_spelling (entry_of h) && row_fits h.before)) p.1 in
    let r = and_parts (status_fits h.status) (has_spelling (entry_of h) && row_fits h.before) q.1 in
    let s = and_parts (has_spelling (entry_of h)) (row_fits h.before) r.1 in
    and_from _ _ p.0 (and_from _ _ q.0 (and_from _ _ r.0 (and_from _ _ (and_from (ltb (length (entry_bytes (entry_of h))) (2 ^ 32)) (has_spelling (entry_of h)) (entry_is_short h s.0) s.0) s.1)))

pub held_laws : Laws held_bytes held_fits held_at
unfolding held_at
held_laws = record {
  again = λ h rest fits.
      ap (λ (o : Option (HeldFields × List ℕ)). o >>= (λ (x : HeldFields × List ℕ). held_read x.0 >>= (λ (y : HeldChange). Some (y, x.1)))) (fields_laws.again (fields_of h) rest (fields_formed h fits))
      ∙ ap (λ (o : Option HeldChange). o >>= (λ (y : HeldChange). Some (y, rest))) (held_again h);
  takes = λ bytes x is_bytes e.
      let a = bind_some (held_fields_at bytes) (λ (y : HeldFields × List ℕ). held_read y.0 >>= (λ (h : HeldChange). Some (h, y.1))) x e in
      let b = bind_some (held_read a.0.0) (λ (h : HeldChange). Some (h, a.0.1)) x a.2 in
      let t = fields_laws.takes bytes a.0 is_bytes a.1 in
      let r = read_as a.0.0 b.0 t.1 b.1 in
      let taken : Takes bytes (held_bytes b.0) a.0.1 = subst (λ (w : List ℕ). Takes bytes w a.0.1) (ap fields_bytes r.fields) t.0 in
      subst (λ (y : HeldChange × List ℕ). Takes bytes (held_bytes y.0) y.1 × (held_fits y.0 ≡ true)) (some_is (b.0, a.0.1) x b.2) (taken, r.fits);
}

pub changes_laws : Laws (λ xs. to_le_bytes w32 (length xs) ++ flat_map held_bytes xs) (λ xs. ltb (length xs) (2 ^ 32) && (rises number_of 0 xs && list_all held_fits xs)) changes_at
unfolding changes_at
changes_laws =
    counted_laws held_bytes (λ n. ltb n (2 ^ 32)) (number_at w32) (λ xs. rises number_of 0 xs && list_all held_fits xs) (rising_at number_of held_at 0)
    laws32 (rising_laws number_of held_bytes held_fits held_at held_laws 0)
