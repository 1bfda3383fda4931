-- Which bytes are a cut entry, by the length that they tell.
use Rattle.std.proofs.Common.{◌≡◌, ℕ, suc, ◌+◌, ◌^◌, true, ltb, ◌&&◌, leb, List, [], ◌∷◌, ◌++◌, length, Some, refl, sym, ap, ◌∙◌, append_assoc, arith}
use Rattle.std.specs.Int.{w32, to_le_bytes}
use Rattle.std.proofs.lemmas.Bool.{and_parts}
use Rattle.std.proofs.lemmas.List.{length-append}
use Rattle.column_set.specs.NumberReading.{number_at, IsBytes, some_is}
use Rattle.index_derive.specs.declared.log.Entry.{Entry}
use Rattle.log_grammar.specs.EntryBytes.{IsCut, entry_bytes, entry_rest, has_spelling, kind_fits}
use Rattle.log_grammar.proofs.Laws.{laws32}
use Rattle.log_record.proofs.CutLaws.{Ends}

-- the bytes are what stands behind the length of an entry
pub record IsRest (bytes : List ℕ) : Type 0 where
  pub entry : Entry
  pub spelled : has_spelling entry ≡ true
  pub rest : bytes ≡ entry_rest entry

-- at least one byte is missing of those that the length counts
pub record IsCutRest (count : ℕ) (rest : List ℕ) : Type 0 where
  pub missing : ℕ
  pub counted : length rest + suc missing ≡ count
  pub ends : Ends IsRest rest (suc missing)

length_spelled : (entry : Entry) → has_spelling entry ≡ true → ltb (length (entry_rest entry)) (2 ^ 32) ≡ true
unfolding has_spelling
length_spelled entry h =
    let short = ltb (length (entry_rest entry)) (2 ^ 32) in
    let a = and_parts (leb 1 entry.session.0 && leb entry.session.0 99) (kind_fits entry.kind && short) h in
    (and_parts (kind_fits entry.kind) short a.1).1

pub cut_by_length : (bytes rest : List ℕ) (count : ℕ) → IsBytes bytes → number_at w32 bytes ≡ Some (count, rest) → IsCut bytes → IsCutRest count rest
unfolding entry_bytes
cut_by_length bytes rest count fits is cut =
    let entry = cut.0 in
    let byte = cut.1 in
    let more = cut.2 in
    let spelled : has_spelling entry ≡ true = cut.3 in
    let t = laws32.takes bytes (count, rest) fits is in
    let there : number_at w32 (bytes ++ byte ∷ more) ≡ Some (length (entry_rest entry), entry_rest entry) = ap (number_at w32) (sym cut.4) ∙ laws32.again (length (entry_rest entry)) (entry_rest entry) (length_spelled entry spelled) in
    let here : number_at w32 (bytes ++ byte ∷ more) ≡ Some (count, rest ++ byte ∷ more) = ap (number_at w32) (ap (λ (b : List ℕ). b ++ byte ∷ more) t.0.parts ∙ append_assoc (to_le_bytes w32 count) rest (byte ∷ more)) ∙ laws32.again count (rest ++ byte ∷ more) t.1 in
    let same : (count, rest ++ byte ∷ more) ≡ (length (entry_rest entry), entry_rest entry) = some_is (count, rest ++ byte ∷ more) (length (entry_rest entry), entry_rest entry) (sym here ∙ there) in
    let rest_is : rest ++ byte ∷ more ≡ entry_rest entry = ap (λ (p : ℕ × List ℕ). p.1) same in
    let count_is : count ≡ length (entry_rest entry) = ap (λ (p : ℕ × List ℕ). p.0) same in
    record {
      missing = length more;
      counted = sym (length-append rest (byte ∷ more)) ∙ ap length rest_is ∙ sym count_is;
      ends = record { more = byte ∷ more; many = refl; whole = record { entry = entry; spelled = spelled; rest = rest_is } };
    }

pub cut_from_length : (bytes rest : List ℕ) (count : ℕ) → IsBytes bytes → number_at w32 bytes ≡ Some (count, rest) → IsCutRest count rest → IsCut bytes
unfolding entry_bytes
cut_from_length bytes rest count fits is c = from c.ends.more c.ends.many c.ends.whole where
  from : (more : List ℕ) → length more ≡ suc c.missing → IsRest (rest ++ more) → IsCut bytes
  from [] none w = absurd (omega arith)
  from (byte ∷ more) many w =
      let t = laws32.takes bytes (count, rest) fits is in
      let size : length (entry_rest w.entry) ≡ count = ap length (sym w.rest) ∙ length-append rest (byte ∷ more) ∙ ap (λ n. length rest + n) many ∙ c.counted in
      let split : bytes ++ byte ∷ more ≡ to_le_bytes w32 count ++ (rest ++ byte ∷ more) = ap (λ (b : List ℕ). b ++ byte ∷ more) t.0.parts ∙ append_assoc (to_le_bytes w32 count) rest (byte ∷ more) in
      (w.entry, byte, more, w.spelled, (λ k. to_le_bytes w32 (size k) ++ sym w.rest k) ∙ sym split)
