-- The entry that bytes begin with.
use Rattle.std.proofs.Common.{◌≡◌, ℕ, ◌+◌, ◌^◌, true, ltb, ◌&&◌, List, ◌++◌, length, take, drop, Option, Some, refl, sym, ap, subst, ◌∙◌, append_assoc, arith}
use Rattle.std.specs.Int.{w32, to_le_bytes}
use Rattle.std.proofs.lemmas.Bool.{and_parts, and_from, eqb-true, eq-eqb}
use Rattle.std.proofs.lemmas.List.{length-append}
use Rattle.column_set.specs.NumberReading.{◌>>=◌, number_at, IsBytes, IsBytes-take, bind_some, guard_some, some_is, Takes-then}
use Rattle.index_derive.specs.declared.log.Entry.{Entry}
use Rattle.log_grammar.specs.EntryBytes.{BeginsWith, entry_bytes, entry_rest, has_spelling, kind_fits}
use Rattle.log_grammar.specs.EntryReading.{bytes_at, rest_at, front_at}
use Rattle.log_grammar.proofs.KindLaws.{is_label, rest_again, rest_take}
use Rattle.log_grammar.proofs.Laws.{bytes_laws, laws32}

front_again : (entry : Entry) (rest : List ℕ) → has_spelling entry ≡ true → front_at (entry_bytes entry ++ rest) ≡ Some (entry, length (entry_bytes entry))
unfolding front_at has_spelling entry_bytes
front_again entry rest h =
    let own = entry_rest entry in
    let small = ltb (length own) (2 ^ 32) in
    let p = and_parts (is_label entry.session.0) (kind_fits entry.kind && small) h in
    let q = and_parts (kind_fits entry.kind) small p.1 in
    let end : List ℕ → ℕ → Option (Entry × ℕ) = λ text n. rest_at text >>= λ e. Some (e, 4 + n) in
    ap (λ (b : List ℕ). number_at w32 b >>= λ n. bytes_at n.0 n.1 >>= λ r. end r.0 n.0) (append_assoc (to_le_bytes w32 (length own)) own rest)
    ∙ ap (λ (o : Option (ℕ × List ℕ)). o >>= λ n. bytes_at n.0 n.1 >>= λ r. end r.0 n.0) (laws32.again (length own) (own ++ rest) q.1)
    ∙ ap (λ (o : Option (List ℕ × List ℕ)). o >>= λ r. end r.0 (length own)) ((bytes_laws (length own)).again own rest (eq-eqb (length own) (length own) refl))
    ∙ ap (λ (o : Option Entry). o >>= λ e. Some (e, 4 + length own)) (rest_again entry (and_from (is_label entry.session.0) (kind_fits entry.kind) p.0 q.0))
    ∙ ap (λ (n : ℕ). Some (entry, n)) (omega (arith, length-append (to_le_bytes w32 (length own)) own))

pub record TookFront (bytes : List ℕ) (x : Entry × ℕ) : Type 0 where
  pub rest : List ℕ
  pub formed : has_spelling x.0 ≡ true
  pub spelled : bytes ≡ entry_bytes x.0 ++ rest
  pub size : x.1 ≡ length (entry_bytes x.0)

pub front_take : (bytes : List ℕ) (x : Entry × ℕ) → IsBytes bytes → front_at bytes ≡ Some x → TookFront bytes x
unfolding front_at has_spelling entry_bytes
front_take bytes x is_bytes e =
    let a = bind_some (number_at w32 bytes) (λ n. bytes_at n.0 n.1 >>= λ r. rest_at r.0 >>= λ entry. Some (entry, 4 + n.0)) x e in
    let b = bind_some (bytes_at a.0.0 a.0.1) (λ r. rest_at r.0 >>= λ entry. Some (entry, 4 + a.0.0)) x a.2 in
    let c = bind_some (rest_at b.0.0) (λ entry. Some (entry, 4 + a.0.0)) x b.2 in
    let n = laws32.takes bytes a.0 is_bytes a.1 in
    let r = (bytes_laws a.0.0).takes a.0.1 b.0 n.0.rest_fits b.1 in
    let g = guard_some (ltb (length a.0.1) a.0.0) (take a.0.0 a.0.1, drop a.0.0 a.0.1) b.0 b.1 in
    let own_bytes : IsBytes b.0.0 = subst (λ (p : List ℕ × List ℕ). IsBytes p.0) g.1 (IsBytes-take a.0.0 a.0.1 n.0.rest_fits) in
    let t = rest_take b.0.0 c.0 own_bytes c.1 in
    let count : a.0.0 ≡ length (entry_rest c.0) = sym (eqb-true _ _ r.1) ∙ ap length t.spelled in
    let f = and_parts (is_label c.0.session.0) (kind_fits c.0.kind) t.fits in
    let whole = Takes-then bytes (to_le_bytes w32 a.0.0) a.0.1 b.0.0 b.0.1 n.0 r.0 in
    let made : TookFront bytes (c.0, 4 + a.0.0) = record {
      rest = b.0.1;
      formed = and_from (is_label c.0.session.0) (kind_fits c.0.kind && ltb (length (entry_rest c.0)) (2 ^ 32)) f.0 (and_from (kind_fits c.0.kind) (ltb (length (entry_rest c.0)) (2 ^ 32)) f.1 (ap (λ k. ltb k (2 ^ 32)) (sym count) ∙ n.1));
      spelled = whole.parts ∙ ap (λ k. (to_le_bytes w32 k ++ b.0.0) ++ b.0.1) count ∙ ap (λ s. (to_le_bytes w32 (length (entry_rest c.0)) ++ s) ++ b.0.1) t.spelled;
      size = omega (arith, count, length-append (to_le_bytes w32 (length (entry_rest c.0))) (entry_rest c.0));
    } in
    subst (λ (y : Entry × ℕ). TookFront bytes y) (some_is (c.0, 4 + a.0.0) x c.2) made

pub begins : (bytes : List ℕ) (entry : Entry) → BeginsWith bytes entry → front_at bytes ≡ Some (entry, length (entry_bytes entry))
begins bytes entry h = ap front_at h.2 ∙ front_again entry h.0 h.1

pub one_spelling : (bytes : List ℕ) (a b : Entry) → BeginsWith bytes a → BeginsWith bytes b → a ≡ b
one_spelling bytes a b p q = ap (λ (x : Entry × ℕ). x.0) (some_is (a, length (entry_bytes a)) (b, length (entry_bytes b)) (sym (begins bytes a p) ∙ begins bytes b q))
