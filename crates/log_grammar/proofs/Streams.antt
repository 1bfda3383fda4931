-- Entries one after the other.
use Rattle.std.proofs.Common.{◌≡◌, ℕ, zero, suc, ◌+◌, Bool, true, ◌&&◌, List, [], ◌∷◌, ◌++◌, length, refl, sym, ap, subst, ◌∙◌, append_assoc, arith, ◌⊎◌, inl, inr}
use Rattle.std.specs.List.{flat_map, list_all}
use Rattle.std.proofs.lemmas.Bool.{and_parts, and_from}
use Rattle.std.proofs.lemmas.List.{length-append, append-nil}
use Rattle.std.proofs.lemmas.List.Concat.{flat_map-cons}
use Rattle.index_derive.specs.declared.log.Entry.{Entry}
use Rattle.index_derive.specs.declared.log.EntryKind.TheVariants.{Begin}
use Rattle.log_grammar.specs.EntryBytes.{BeginsWith, BeginsWithNone, IsCut, entry_bytes, has_spelling}
use Rattle.log_grammar.specs.EntryStreams.{Holds, HoldsFirst, stream_bytes, stream_fits}
use Rattle.log_grammar.specs.Samples.{of_session_1}
use Rattle.log_grammar.proofs.FrontLaws.{one_spelling}

-- of two cuts of the same bytes, one front begins with the other
pub fronts : (a b c d : List ℕ) → a ++ b ≡ c ++ d → ((t : List ℕ) × (a ≡ c ++ t)) ⊎ ((t : List ℕ) × (c ≡ a ++ t) × (b ≡ t ++ d))
fronts [] b c d e = inr (c, refl, e)
fronts (x ∷ a) b [] d e = inl (x ∷ a, refl)
fronts (x ∷ a) b (y ∷ c) d e =
    let head : x ≡ y = cc in
    let tail : a ++ b ≡ c ++ d = cc in
    elim (fronts a b c d tail) [
      | inl t ↦ inl (t.0, (λ k. head k ∷ t.1 k))
      | inr t ↦ inr (t.0, (λ k. sym head k ∷ t.1 k), t.2)
    ]

-- ---- cut bytes

pub nothing_is_cut : IsCut []
unfolding entry_bytes has_spelling
nothing_is_cut = (of_session_1 Begin, 5, 0 ∷ 0 ∷ 0 ∷ 5 ∷ 1 ∷ 0 ∷ 0 ∷ 0 ∷ [], refl, refl)

pub cut_is_not_whole : (bytes : List ℕ) → IsCut bytes → BeginsWithNone bytes
cut_is_not_whole bytes cut entry begins =
    let whole = cut.0 in
    let behind = begins.0 ++ cut.1 ∷ cut.2 in
    let split : entry_bytes whole ≡ entry_bytes entry ++ behind = cut.4 ∙ ap (λ (b : List ℕ). b ++ cut.1 ∷ cut.2) begins.2 ∙ append_assoc (entry_bytes entry) begins.0 (cut.1 ∷ cut.2) in
    let same : whole ≡ entry = one_spelling (entry_bytes whole) whole entry ([], cut.3, sym (append-nil (entry_bytes whole))) (behind, begins.1, split) in
    let sizes : length (entry_bytes entry) ≡ length (entry_bytes entry) + length behind = ap (λ e. length (entry_bytes e)) (sym same) ∙ ap length split ∙ length-append (entry_bytes entry) behind in
    omega (arith, sizes, length-append begins.0 (cut.1 ∷ cut.2))

-- ---- streams that are read back

cancel : (a b c : List ℕ) → a ++ b ≡ a ++ c → b ≡ c
cancel [] b c e = e
cancel (x ∷ a) b c e = let tail : a ++ b ≡ a ++ c = cc in cancel a b c tail

-- the first entry, and what stands behind it
first_split : (x : Entry) (entries : List Entry) (rest : List ℕ) → stream_bytes (x ∷ entries) ++ rest ≡ entry_bytes x ++ (stream_bytes entries ++ rest)
first_split x entries rest = ap (λ (t : List ℕ). t ++ rest) (flat_map-cons entry_bytes x entries) ∙ append_assoc (entry_bytes x) (stream_bytes entries) rest

first_begins : (bytes : List ℕ) (x : Entry) (entries : List Entry) (rest : List ℕ) → stream_fits (x ∷ entries) ≡ true → bytes ≡ stream_bytes (x ∷ entries) ++ rest → BeginsWith bytes x
first_begins bytes x entries rest fits is = (stream_bytes entries ++ rest, (and_parts (has_spelling x) (stream_fits entries) fits).0, is ∙ first_split x entries rest)

pub read_back : (a b : List Entry) (bytes s t : List ℕ) → Holds bytes a s → Holds bytes b t → (a ≡ b) × (s ≡ t)
read_back [] [] bytes s t p q = (refl, sym p.1 ∙ q.1)
read_back [] (y ∷ b) bytes s t p q = absurd (p.2 y (first_begins s y b t q.0 (sym p.1 ∙ q.1)))
read_back (x ∷ a) [] bytes s t p q = absurd (q.2 x (first_begins t x a s p.0 (sym q.1 ∙ p.1)))
read_back (x ∷ a) (y ∷ b) bytes s t p q =
    let same : x ≡ y = one_spelling bytes x y (first_begins bytes x a s p.0 p.1) (first_begins bytes y b t q.0 q.1) in
    let here : bytes ≡ entry_bytes y ++ (stream_bytes a ++ s) = p.1 ∙ first_split x a s ∙ ap (λ e. entry_bytes e ++ (stream_bytes a ++ s)) same in
    let there : bytes ≡ entry_bytes y ++ (stream_bytes b ++ t) = q.1 ∙ first_split y b t in
    let behind : stream_bytes a ++ s ≡ stream_bytes b ++ t = cancel (entry_bytes y) (stream_bytes a ++ s) (stream_bytes b ++ t) (sym here ∙ there) in
    let others = read_back a b (stream_bytes a ++ s) s t ((and_parts (has_spelling x) (stream_fits a) p.0).1, refl, p.2) ((and_parts (has_spelling y) (stream_fits b) q.0).1, behind, q.2) in
    ((λ k. same k ∷ others.0 k), others.1)

-- ---- fronts of streams

nothing_left : (a b : List ℕ) → [] ≡ a ++ b → a ≡ []
nothing_left [] b e = refl
nothing_left (x ∷ a) b e = absurd cc

front_first : (x : Entry) (entries : List Entry) (front t : List ℕ) → has_spelling x ≡ true → entry_bytes x ≡ front ++ t → HoldsFirst front (x ∷ entries)
front_first x entries front [] fits is =
    let whole : front ≡ stream_bytes (x ∷ []) = sym (append-nil front) ∙ sym is ∙ sym (append-nil (entry_bytes x)) ∙ sym (flat_map-cons entry_bytes x []) in
    (x ∷ [], entries, [], refl, whole ∙ sym (append-nil (stream_bytes (x ∷ []))), nothing_is_cut)
front_first x entries front (byte ∷ t) fits is = ([], x ∷ entries, front, refl, refl, (x, byte, t, fits, is))

pub front_of_stream : (entries : List Entry) (front rest : List ℕ) → stream_fits entries ≡ true → stream_bytes entries ≡ front ++ rest → HoldsFirst front entries
front_of_stream [] front rest fits is = ([], [], [], refl, nothing_left front rest is, nothing_is_cut)
front_of_stream (x ∷ entries) front rest fits is =
    let p = and_parts (has_spelling x) (stream_fits entries) fits in
    let split : entry_bytes x ++ stream_bytes entries ≡ front ++ rest = sym (flat_map-cons entry_bytes x entries) ∙ is in
    elim (fronts (entry_bytes x) (stream_bytes entries) front rest split) [
      | inl t ↦ front_first x entries front t.0 p.0 t.1
      | inr t ↦
          let others = front_of_stream entries t.0 rest p.1 t.2 in
          (x ∷ others.0, others.1, others.2, ap (λ (xs : List Entry). x ∷ xs) others.3, t.1 ∙ ap (λ (b : List ℕ). entry_bytes x ++ b) others.4 ∙ sym (first_split x others.0 others.2), others.5)
    ]
