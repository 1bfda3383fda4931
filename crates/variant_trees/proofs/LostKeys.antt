-- Indexes that lose the keys of a record, one after the other.
use Rattle.std.proofs.Common.{◌≡◌, ℕ, zero, suc, ◌+◌, ◌<◌, Bool, true, false, not, ◌&&◌, ◌||◌, cond, List, [], ◌∷◌, ◌++◌, length, Option, Some, None, find, get_or, take, refl, sym, ap, subst, ◌∙◌, arith, append_assoc}
use Rattle.std.specs.Prelude.{◌==◌, IfSome, bytes_eq}
use Rattle.std.specs.List.{AllByRecursion, list_any}
use Rattle.std.proofs.lemmas.List.Folds.{list_any-append}
use Rattle.std.proofs.lemmas.Bool.{eqb-true}
use Rattle.common_lemmas.proofs.Booleans.{impossible}
use Rattle.column_set.specs.RecordValues.{RecordFields}
use Rattle.cursor_nav.specs.Places.{Pair}
use Rattle.index_derive.specs.Schemas.{rule_with_id}
use Rattle.laws_versions.specs.KeptEntries.{has_entry}
use Rattle.index_derive.specs.declared.rules.IndexRule.{IndexRule}
use Rattle.index_derive.specs.declared.rules.Schema.{Schema}
use Rattle.index_derive.specs.Derived.{next_in}
use Rattle.table_trees.specs.StoredTables.{StoredTable, index_entries}
use Rattle.laws_engine.specs.HeldRecords.{HeldRecord}
use Rattle.stored_variants.specs.PutRecords.{HasKeysOf}
use Rattle.variant_trees.specs.GoneKeys.{ChangesEntries, LosesKey, LosesKeys, LosesRecord, OthersKeep, is_gone_key}
use Rattle.stored_variants.specs.VersionsKept.{only_secondary}
use Rattle.variant_trees.proofs.EntryTrees.{entries_stay, entries_then, other_number}
use Rattle.variant_trees.proofs.KeysLeft.{one_more}
use Rattle.variant_trees.proofs.RisingKeys.{Rise, all_keys, keys_after, keys_from}

-- ---- one index

-- The keys before the next one are gone, but for those that stay.
pub record LosesSoFar (keys : List (List ℕ)) (stays : List ℕ → Bool) (bookmark : List ℕ) (old now : List Pair) (next : Option (List ℕ)) : Type 0 where
  pub done : List (List ℕ)
  pub all : keys ≡ done ++ keys_from keys next
  pub lost : (key own : List ℕ) → has_entry key own now ≡ (has_entry key own old && not (bytes_eq own bookmark && (list_any (bytes_eq key) done && not (stays key))))

pub keys_begin : (keys : List (List ℕ)) (stays : List ℕ → Bool) (bookmark : List ℕ) (old : List Pair) (next : Option (List ℕ)) → Rise keys → next ≡ next_in keys None → LosesSoFar keys stays bookmark old old next
keys_begin keys stays bookmark old next rise is = record {
  done = [];
  all = all_keys keys rise ∙ ap (keys_from keys) (sym is);
  lost = λ key own. none (has_entry key own old) (bytes_eq own bookmark);
}
  where
    none : (a b : Bool) → a ≡ (a && not (b && false))
    none true true = refl
    none true false = refl
    none false b = refl

merged : (a o d e s : Bool) → ((a && not (o && (d && not s))) && not (o && (e && not s))) ≡ (a && not (o && ((d || (e || false)) && not s)))
merged false o d e s = refl
merged true false d e s = refl
merged true true true e true = by e
  where
    by : (e : Bool) → not (e && false) ≡ true
    by true = refl
    by false = refl
merged true true true e false = refl
merged true true false true s = refl
merged true true false false s = refl

pub keys_go_on : (keys : List (List ℕ)) (stays : List ℕ → Bool) (bookmark : List ℕ) (old now then : List Pair) (key : List ℕ) (next : Option (List ℕ)) → Rise keys → LosesSoFar keys stays bookmark old now (Some key) → LosesKey stays key bookmark now then → next ≡ next_in keys (Some key)
    → LosesSoFar keys stays bookmark old then next
keys_go_on keys stays bookmark old now then key next rise so_far loses is = record {
  done = so_far.done ++ key ∷ [];
  all =
      so_far.all
      ∙ ap (λ rest. so_far.done ++ key ∷ rest) (keys_after (Some key) keys rise ∙ ap (keys_from keys) (sym is))
      ∙ sym (append_assoc so_far.done (key ∷ []) (keys_from keys next));
  lost = λ k own.
      loses k own
      ∙ ap (λ b. b && not (bytes_eq own bookmark && (bytes_eq k key && not (stays k)))) (so_far.lost k own)
      ∙ merged (has_entry k own old) (bytes_eq own bookmark) (list_any (bytes_eq k) so_far.done) (bytes_eq k key) (stays k)
      ∙ ap (λ b. has_entry k own old && not (bytes_eq own bookmark && (b && not (stays k)))) (sym (list_any-append (bytes_eq k) so_far.done (key ∷ [])));
}

no_rest : (done : List (List ℕ)) → done ++ [] ≡ done
no_rest [] = refl
no_rest (x ∷ done) = ap (λ xs. x ∷ xs) (no_rest done)

pub keys_end : (keys : List (List ℕ)) (stays : List ℕ → Bool) (bookmark : List ℕ) (old now : List Pair) → LosesSoFar keys stays bookmark old now None
    → (key own : List ℕ) → has_entry key own now ≡ (has_entry key own old && not (bytes_eq own bookmark && (list_any (bytes_eq key) keys && not (stays key))))
keys_end keys stays bookmark old now so_far key own =
    so_far.lost key own
    ∙ ap (λ done. has_entry key own old && not (bytes_eq own bookmark && (list_any (bytes_eq key) done && not (stays key)))) (sym (so_far.all ∙ no_rest so_far.done))

-- ---- one index, of which entries with given keys go

none_taken : {X : Type 0} (test : X → Bool) (xs : List X) → list_any test (take 0 xs) ≡ false
none_taken test [] = refl
none_taken test (x ∷ xs) = refl

abbrev pub LosesAll : List (List ℕ) → List ℕ → List Pair → List Pair → Type 0
LosesAll keys bookmark old now = (key own : List ℕ) → has_entry key own now ≡ (has_entry key own old && not (bytes_eq own bookmark && list_any (bytes_eq key) keys))

pub none_lost : (keys : List (List ℕ)) (bookmark : List ℕ) (old : List Pair) → LosesAll (take 0 keys) bookmark old old
none_lost keys bookmark old key own = same (has_entry key own old) (bytes_eq own bookmark) ∙ ap (λ b. has_entry key own old && not (bytes_eq own bookmark && b)) (sym (none_taken (bytes_eq key) keys))
  where
    same : (a o : Bool) → a ≡ (a && not (o && false))
    same true true = refl
    same true false = refl
    same false o = refl

pub one_lost : (keys : List (List ℕ)) (bookmark : List ℕ) (old now then : List Pair) (n : ℕ) (key : List ℕ) → n < length keys → key ≡ get_or keys n key → LosesAll (take n keys) bookmark old now
    → ((k own : List ℕ) → has_entry k own then ≡ (has_entry k own now && not (bytes_eq own bookmark && bytes_eq k key))) → LosesAll (take (n + 1) keys) bookmark old then
one_lost keys bookmark old now then n key low is so_far loses k own =
    loses k own
    ∙ ap (λ b. b && not (bytes_eq own bookmark && bytes_eq k key)) (so_far k own)
    ∙ joined (has_entry k own old) (bytes_eq own bookmark) (list_any (bytes_eq k) (take n keys)) (bytes_eq k key)
    ∙ ap (λ b. has_entry k own old && not (bytes_eq own bookmark && b)) (sym (one_more keys n key low is k))
  where
    joined : (a o d e : Bool) → ((a && not (o && d)) && not (o && e)) ≡ (a && not (o && (d || e)))
    joined false o d e = refl
    joined true false d e = refl
    joined true true true e = refl
    joined true true false e = refl

-- ---- all indexes

abbrev pub is_numbered : ℕ → IndexRule → Bool
is_numbered index rule = rule.id.0 == index

-- an index that has had its turn has lost the keys, and any other is as it was
abbrev pub LosesWhere : Bool → (List Pair → List Pair → Type 0) → List Pair → List Pair → Type 0
LosesWhere true loses old now = loses old now
LosesWhere false loses old now = now ≡ old

-- The indexes of the first rules have lost the keys.
pub record LosesUpTo (newest : Option RecordFields) (held : List HeldRecord) (schema : Schema) (table : ℕ) (bookmark : List ℕ) (gone : RecordFields) (count : ℕ) (old now : List StoredTable) : Type 0 where
  pub others : ChangesEntries table old now
  pub keys : (index : ℕ) → IfSome (only_secondary (rule_with_id schema index)) (λ rule. LosesWhere (list_any (is_numbered index) (take count schema.indexes)) (LosesKeys newest held rule schema table bookmark gone) (index_entries old table index) (index_entries now table index))

any_more : {X : Type 0} (test : X → Bool) (xs : List X) (i : ℕ) (x : X) → i < length xs → x ≡ get_or xs i x → list_any test (take (suc i) xs) ≡ (list_any test (take i xs) || test x)
any_more test [] i x low is = absurd (no low)
  where
    no : {i : ℕ} → i < 0 → ⊥
    no h = omega arith
any_more test (y ∷ ys) zero x low is = ap (λ b. test y || b) (none_taken test ys) ∙ or_none (test y) ∙ ap test (sym is)
  where
    or_none : (b : Bool) → (b || false) ≡ b
    or_none true = refl
    or_none false = refl
any_more test (y ∷ ys) (suc i) x low is = ap (λ b. test y || b) (any_more test ys i x (omega arith) is) ∙ joined (test y)
  where
    joined : (b : Bool) → (b || (list_any test (take i ys) || test x)) ≡ ((b || list_any test (take i ys)) || test x)
    joined true = refl
    joined false = refl

pub all_at : {X : Type 0} (P : X → Type 0) (xs : List X) (i : ℕ) (x : X) → AllByRecursion P xs → i < length xs → x ≡ get_or xs i x → P x
all_at P [] i x all low is = absurd (no low)
  where
    no : {i : ℕ} → i < 0 → ⊥
    no h = omega arith
all_at P (y ∷ ys) zero x all low is = subst P (sym is) all.0
all_at P (y ∷ ys) (suc i) x all low is = all_at P ys i x all.1 (omega arith) is

pub indexes_begin : (newest : Option RecordFields) (held : List HeldRecord) (schema : Schema) (table : ℕ) (bookmark : List ℕ) (gone : RecordFields) (old : List StoredTable) → LosesUpTo newest held schema table bookmark gone 0 old old
indexes_begin newest held schema table bookmark gone old = record {
  others = entries_stay table old;
  keys = λ index. by index (only_secondary (rule_with_id schema index)) (list_any (is_numbered index) (take 0 schema.indexes)) (none_taken (is_numbered index) schema.indexes);
}
  where
    by : (index : ℕ) (o : Option IndexRule) (b : Bool) → b ≡ false → IfSome o (λ rule. LosesWhere b (LosesKeys newest held rule schema table bookmark gone) (index_entries old table index) (index_entries old table index))
    by index None b e = tt
    by index (Some rule) true e = impossible (sym e)
    by index (Some rule) false e = refl

-- a rule whose index has no tree passes
pub indexes_pass : (newest : Option RecordFields) (held : List HeldRecord) (schema : Schema) (table : ℕ) (bookmark : List ℕ) (gone : RecordFields) (count : ℕ) (old now : List StoredTable) (rule : IndexRule)
    → LosesUpTo newest held schema table bookmark gone count old now → HasKeysOf schema gone rule → rule.flags.primary ≡ true → count < length schema.indexes → rule ≡ get_or schema.indexes count rule
    → LosesUpTo newest held schema table bookmark gone (suc count) old now
indexes_pass newest held schema table bookmark gone count old now rule so_far has primary low is = record {
  others = so_far.others;
  keys = λ index.
      subst (λ (b : Bool). IfSome (only_secondary (rule_with_id schema index)) (λ r. LosesWhere b (LosesKeys newest held r schema table bookmark gone) (index_entries old table index) (index_entries now table index)))
      (sym (any_more (is_numbered index) schema.indexes count rule low is)) (by index (rule.id.0 == index) refl (so_far.keys index));
}
  where
    none : (index : ℕ) → (rule.id.0 == index) ≡ true → only_secondary (rule_with_id schema index) ≡ None
    none index e = ap (λ n. only_secondary (rule_with_id schema n)) (sym (eqb-true rule.id.0 index e)) ∙ ap only_secondary has.found ∙ ap (λ b. cond b None (Some rule)) primary

    same : (o : Option IndexRule) (b : Bool) (index : ℕ) → IfSome o (λ r. LosesWhere b (LosesKeys newest held r schema table bookmark gone) (index_entries old table index) (index_entries now table index))
        → IfSome o (λ r. LosesWhere (b || false) (LosesKeys newest held r schema table bookmark gone) (index_entries old table index) (index_entries now table index))
    same o true index h = h
    same o false index h = h

    by : (index : ℕ) (c : Bool) → (rule.id.0 == index) ≡ c → IfSome (only_secondary (rule_with_id schema index)) (λ r. LosesWhere (list_any (is_numbered index) (take count schema.indexes)) (LosesKeys newest held r schema table bookmark gone) (index_entries old table index) (index_entries now table index))
        → IfSome (only_secondary (rule_with_id schema index)) (λ r. LosesWhere (list_any (is_numbered index) (take count schema.indexes) || c) (LosesKeys newest held r schema table bookmark gone) (index_entries old table index) (index_entries now table index))
    by index true e h = subst (λ (o : Option IndexRule). IfSome o (λ r. LosesWhere (list_any (is_numbered index) (take count schema.indexes) || true) (LosesKeys newest held r schema table bookmark gone) (index_entries old table index) (index_entries now table index))) (sym (none index e)) tt
    by index false e h = same (only_secondary (rule_with_id schema index)) (list_any (is_numbered index) (take count schema.indexes)) index h

twice : (a b : Bool) → ((a && b) && b) ≡ (a && b)
twice true true = refl
twice true false = refl
twice false b = refl

-- a rule whose index has lost the keys now
pub indexes_lose : (newest : Option RecordFields) (held : List HeldRecord) (schema : Schema) (table : ℕ) (bookmark : List ℕ) (gone : RecordFields) (count : ℕ) (old now then : List StoredTable) (rule : IndexRule)
    → LosesUpTo newest held schema table bookmark gone count old now → HasKeysOf schema gone rule → rule.flags.primary ≡ false → count < length schema.indexes → rule ≡ get_or schema.indexes count rule
    → ChangesEntries table now then → OthersKeep table rule.id.0 now then → LosesKeys newest held rule schema table bookmark gone (index_entries now table rule.id.0) (index_entries then table rule.id.0)
    → LosesUpTo newest held schema table bookmark gone (suc count) old then
indexes_lose newest held schema table bookmark gone count old now then rule so_far has secondary low is changes keep loses = record {
  others = entries_then table old now then so_far.others changes;
  keys = λ index.
      subst (λ (b : Bool). IfSome (only_secondary (rule_with_id schema index)) (λ r. LosesWhere b (LosesKeys newest held r schema table bookmark gone) (index_entries old table index) (index_entries then table index)))
      (sym (any_more (is_numbered index) schema.indexes count rule low is)) (by index (rule.id.0 == index) refl (so_far.keys index));
}
  where
    this : (index : ℕ) → (rule.id.0 == index) ≡ true → only_secondary (rule_with_id schema index) ≡ Some rule
    this index e = ap (λ n. only_secondary (rule_with_id schema n)) (sym (eqb-true rule.id.0 index e)) ∙ ap only_secondary has.found ∙ ap (λ b. cond b None (Some rule)) secondary

    joined : (b : Bool) (index : ℕ) → LosesWhere b (LosesKeys newest held rule schema table bookmark gone) (index_entries old table index) (index_entries now table index) → LosesKeys newest held rule schema table bookmark gone (index_entries now table index) (index_entries then table index)
        → LosesWhere (b || true) (LosesKeys newest held rule schema table bookmark gone) (index_entries old table index) (index_entries then table index)
    joined true index one two = λ key own.
        two key own
        ∙ ap (λ b. b && not (bytes_eq own bookmark && is_gone_key newest held rule schema table bookmark gone key)) (one key own)
        ∙ twice (has_entry key own (index_entries old table index)) (not (bytes_eq own bookmark && is_gone_key newest held rule schema table bookmark gone key))
    joined false index one two = subst (λ (entries : List Pair). LosesKeys newest held rule schema table bookmark gone entries (index_entries then table index)) one two

    same : (o : Option IndexRule) (b : Bool) (index : ℕ) → index_entries then table index ≡ index_entries now table index → IfSome o (λ r. LosesWhere b (LosesKeys newest held r schema table bookmark gone) (index_entries old table index) (index_entries now table index))
        → IfSome o (λ r. LosesWhere (b || false) (LosesKeys newest held r schema table bookmark gone) (index_entries old table index) (index_entries then table index))
    same None b index e h = tt
    same (Some r) true index e h = subst (LosesKeys newest held r schema table bookmark gone (index_entries old table index)) (sym e) h
    same (Some r) false index e h = e ∙ h

    by : (index : ℕ) (c : Bool) → (rule.id.0 == index) ≡ c → IfSome (only_secondary (rule_with_id schema index)) (λ r. LosesWhere (list_any (is_numbered index) (take count schema.indexes)) (LosesKeys newest held r schema table bookmark gone) (index_entries old table index) (index_entries now table index))
        → IfSome (only_secondary (rule_with_id schema index)) (λ r. LosesWhere (list_any (is_numbered index) (take count schema.indexes) || c) (LosesKeys newest held r schema table bookmark gone) (index_entries old table index) (index_entries then table index))
    by index true e h =
        subst (λ (o : Option IndexRule). IfSome o (λ r. LosesWhere (list_any (is_numbered index) (take count schema.indexes) || true) (LosesKeys newest held r schema table bookmark gone) (index_entries old table index) (index_entries then table index))) (sym (this index e))
        (joined (list_any (is_numbered index) (take count schema.indexes)) index
        (subst (λ (o : Option IndexRule). IfSome o (λ r. LosesWhere (list_any (is_numbered index) (take count schema.indexes)) (LosesKeys newest held r schema table bookmark gone) (index_entries old table index) (index_entries now table index))) (this index e) h)
        (subst (λ (n : ℕ). LosesKeys newest held rule schema table bookmark gone (index_entries now table n) (index_entries then table n)) (eqb-true rule.id.0 index e) loses))
    by index false e h =
        same (only_secondary (rule_with_id schema index)) (list_any (is_numbered index) (take count schema.indexes)) index (keep index (λ turned. other_number rule.id.0 index e (sym turned))) h

found_any : {X : Type 0} (test : X → Bool) (xs : List X) (x : X) → find test xs ≡ Some x → list_any test xs ≡ true
found_any test [] x e = cc
found_any test (y ∷ ys) x e = by (test y) e (found_any test ys x)
  where
    by : (b : Bool) → cond b (Some y) (find test ys) ≡ Some x → (find test ys ≡ Some x → list_any test ys ≡ true) → (b || list_any test ys) ≡ true
    by true e rest = refl
    by false e rest = rest e

take_all : {X : Type 0} (xs : List X) → take (length xs) xs ≡ xs
take_all [] = refl
take_all (x ∷ xs) = ap (λ ys. x ∷ ys) (take_all xs)

pub indexes_end : (newest : Option RecordFields) (held : List HeldRecord) (schema : Schema) (table : ℕ) (bookmark : List ℕ) (gone : RecordFields) (old now : List StoredTable) → LosesUpTo newest held schema table bookmark gone (length schema.indexes) old now
    → LosesRecord newest held schema table bookmark gone old now
indexes_end newest held schema table bookmark gone old now so_far index = by (rule_with_id schema index) refl (so_far.keys index)
  where
    by : (o : Option IndexRule) → rule_with_id schema index ≡ o → IfSome (only_secondary o) (λ r. LosesWhere (list_any (is_numbered index) (take (length schema.indexes) schema.indexes)) (LosesKeys newest held r schema table bookmark gone) (index_entries old table index) (index_entries now table index))
        → IfSome (only_secondary o) (λ r. LosesKeys newest held r schema table bookmark gone (index_entries old table index) (index_entries now table index))
    by None e h = tt
    by (Some rule) e h =
        subst (λ (b : Bool). IfSome (only_secondary (Some rule)) (λ r. LosesWhere b (LosesKeys newest held r schema table bookmark gone) (index_entries old table index) (index_entries now table index)))
        (ap (list_any (is_numbered index)) (take_all schema.indexes) ∙ found_any (is_numbered index) schema.indexes rule e) h
