-- Chains after a push, and after the first or the last item has gone.
use Rattle.std.proofs.Common.{◌≡◌, ◌≢◌, ◌⊎◌, inl, inr, ℕ, zero, suc, ◌+◌, ◌-◌, ◌*◌, ◌/◌, ◌^◌, ◌<◌, ◌≤◌, ◌==◌, Bool, true, false, List, [], ◌∷◌, ◌++◌, length, get_or, set, take, drop, refl, sym, ap, subst, ◌∙◌, arith}
use Rattle.std.specs.Prelude.{if◌then◌else◌}
use Rattle.std.proofs.lemmas.Bool.{cases_lt, eq-eqb, eqb-false, eqb-true}
use Rattle.std.proofs.lemmas.List.{get_or-set_same, get_or-set_other, get_or_append_left, length-map, length-set, map-append, take-append-le, length_push, get_or_at}
use Rattle.std.proofs.Math.ListN.{get_or-eq_default}
use Rattle.std.proofs.Math.Nat.{div-lt_iff_lt-mul, mul_assoc, mul_comm, pow-succ'}
use Rattle.std.proofs.lemmas.Nat.{pow_pos}
use Rattle.std.proofs.Math.Seq.{take-append_seam}
use Rattle.version_store.specs.Chained.{AreLinked, Chains, Walk, befores_of, hashes_of, latest, one_later, slot_of, slots_of}
use Rattle.version_store.specs.declared.chains.Link.{Link}

one_later-tail : (b : Bool) (n : ℕ) → one_later b n - 1 ≡ n
one_later-tail true zero = refl
one_later-tail false zero = refl
one_later-tail b (suc n) = omega arith

one_later-bound : (b : Bool) (n : ℕ) → one_later b n ≤ suc n
one_later-bound true zero = omega arith
one_later-bound false zero = omega arith
one_later-bound b (suc n) = omega arith

one_later-if : (c b : Bool) (n m : ℕ) → one_later c (if b then suc n else m) ≡ (if b then suc (suc n) else one_later c m)
one_later-if c true n m = refl
one_later-if c false n m = refl

pub latest-bound : (slot : ℕ) (xs : List ℕ) → latest slot xs ≤ length xs
latest-bound slot [] = omega arith
latest-bound slot (x ∷ xs) = omega (arith, one_later-bound (x == slot) (latest slot xs), latest-bound slot xs)

pub latest-push : (slot : ℕ) (xs : List ℕ) (y : ℕ) → latest slot (xs ++ y ∷ []) ≡ (if y == slot then suc (length xs) else latest slot xs)
latest-push slot [] y = refl
latest-push slot (x ∷ xs) y = ap (one_later (x == slot)) (latest-push slot xs y) ∙ one_later-if (x == slot) (y == slot) (length xs) (latest slot xs)

pub latest-tail : (slot x : ℕ) (xs : List ℕ) → latest slot (x ∷ xs) - 1 ≡ latest slot xs
latest-tail slot x xs = one_later-tail (x == slot) (latest slot xs)

pub length-slots : (shift : ℕ) (links : List Link) → length (slots_of shift links) ≡ length links
length-slots shift links = length-map links (λ (link : Link). slot_of shift link.hash)

head_after : (first n slot s number old : ℕ) (heads : List ℕ) (b : Bool) → (slot == s) ≡ b → slot < length heads → number ≡ first + n + 1 → get_or heads s 0 - first ≡ old → get_or (set heads slot number) s 0 - first ≡ (if b then suc n else old)
head_after first n slot s number old heads true e within is before =
    let same : slot ≡ s = eqb-true slot s e in
    let at : get_or (set heads slot number) s 0 ≡ number = subst (λ (k : ℕ). get_or (set heads slot number) k 0 ≡ number) same (get_or-set_same heads slot number 0 within) in
    omega (arith, at, is)
head_after first n slot s number old heads false e within is before =
    let other : s ≢ slot = λ (h : s ≡ slot). eqb-false slot s e (sym h) in
    omega (arith, get_or-set_other heads slot s number 0 other, before)

pub chains-push : (first shift : ℕ) (links new : List Link) (heads : List ℕ) (hash number : ℕ) → Chains first shift links heads → slot_of shift hash < length heads → first + length links + 1 < 2 ^ 64 → new ≡ links ++ record { hash = hash; before = get_or heads (slot_of shift hash) 0 } ∷ [] → number ≡ first + length links + 1 → Chains first shift new (set heads (slot_of shift hash) number)
chains-push first shift links new heads hash number kept within fits is is_number =
    let link : Link = record { hash = hash; before = get_or heads slot 0 } in
    let slots : slots_of shift new ≡ slots_of shift links ++ slot ∷ [] = ap (slots_of shift) is ∙ map-append (λ (l : Link). slot_of shift l.hash) links (link ∷ []) in
    let befores : befores_of new ≡ befores_of links ++ get_or heads slot 0 ∷ [] = ap befores_of is ∙ map-append (λ (l : Link). l.before) links (link ∷ []) in
    let len : length new ≡ length links + 1 = ap length is ∙ length_push links link in
    record {
      are_heads = λ (s : ℕ). head_after first (length (slots_of shift links)) slot s number (latest s (slots_of shift links)) heads (slot == s) refl (omega arith) (omega (arith, length-slots shift links)) (kept.are_heads s)
          ∙ sym (ap (latest s) slots ∙ latest-push s (slots_of shift links) slot);
      are_links = λ (i : ℕ) (h : i < length new). links_after i (slots_of shift new) (befores_of new) slots befores (cases_lt i (length links)) (omega arith);
      begun = λ (h : 0 < length (set heads slot number)). ap (λ (n : ℕ). n * 2 ^ shift) (length-set heads slot number) ∙ kept.begun (omega arith);
      shifts = kept.shifts;
      fits = omega arith;
    }
  where
    slot : ℕ
    slot = slot_of shift hash

    links_after : (i : ℕ) (ss bs : List ℕ) → ss ≡ slots_of shift links ++ slot ∷ [] → bs ≡ befores_of links ++ get_or heads slot 0 ∷ [] → (i < length links) ⊎ (length links ≤ i) → i < length links + 1 → get_or bs i 0 - first ≡ latest (get_or ss i 0) (take i ss)
    links_after i ss bs es eb (inl lt) h =
        let a : get_or bs i 0 ≡ get_or (befores_of links) i 0 = ap (λ (l : List ℕ). get_or l i 0) eb ∙ get_or_append_left (befores_of links) (get_or heads slot 0 ∷ []) 0 i (omega (arith, length-map links (λ (l : Link). l.before))) in
        let b : get_or ss i 0 ≡ get_or (slots_of shift links) i 0 = ap (λ (l : List ℕ). get_or l i 0) es ∙ get_or_append_left (slots_of shift links) (slot ∷ []) 0 i (omega (arith, length-slots shift links)) in
        let t : take i ss ≡ take i (slots_of shift links) = ap (take i) es ∙ take-append-le i (slots_of shift links) (slot ∷ []) (omega (arith, length-slots shift links)) in
        ap (λ (n : ℕ). n - first) a ∙ kept.are_links i lt ∙ ap (λ (n : ℕ). latest n (take i (slots_of shift links))) (sym b) ∙ ap (latest (get_or ss i 0)) (sym t)
    links_after i ss bs es eb (inr le) h =
        let n : length links ≡ i = omega arith in
        let a : get_or bs i 0 ≡ get_or heads slot 0 = ap (λ (l : List ℕ). get_or l i 0) eb ∙ get_or_at (befores_of links) (get_or heads slot 0) [] 0 i (length-map links (λ (l : Link). l.before) ∙ n) in
        let b : get_or ss i 0 ≡ slot = ap (λ (l : List ℕ). get_or l i 0) es ∙ get_or_at (slots_of shift links) slot [] 0 i (length-slots shift links ∙ n) in
        let t : take i ss ≡ slots_of shift links = ap (take i) es ∙ ap (λ (k : ℕ). take k (slots_of shift links ++ slot ∷ [])) (sym (length-slots shift links ∙ n)) ∙ take-append_seam (slots_of shift links) (slot ∷ []) in
        ap (λ (n : ℕ). n - first) a ∙ kept.are_heads slot ∙ ap (λ (k : ℕ). latest k (slots_of shift links)) (sym b) ∙ ap (latest (get_or ss i 0)) (sym t)

pub chains-pop_front : (first shift : ℕ) (links new : List Link) (heads : List ℕ) → Chains first shift links heads → 0 < length links → new ≡ drop 1 links → Chains (first + 1) shift new heads
chains-pop_front first shift [] new heads kept some is = absurd (omega arith)
chains-pop_front first shift (link ∷ links) new heads kept some is =
    subst (λ (l : List Link). Chains (first + 1) shift l heads) (sym is)
    (record {
      are_heads = λ (s : ℕ). omega (arith, kept.are_heads s, latest-tail s (slot_of shift link.hash) (slots_of shift links));
      are_links = λ (i : ℕ) (h : i < length links).
          omega (arith, kept.are_links (suc i) (omega arith), latest-tail (get_or (slots_of shift links) i 0) (slot_of shift link.hash) (take i (slots_of shift links)));
      begun = kept.begun;
      shifts = kept.shifts;
      fits = omega (arith, kept.fits);
    })

-- the last item's slot has a head, and the number there goes back to the one before it
pub chains-last : (first shift : ℕ) (links new : List Link) (heads : List ℕ) (link : Link) → Chains first shift links heads → links ≡ new ++ link ∷ [] → slot_of shift link.hash < length heads
chains-last first shift links new heads link kept joined = within (cases_lt slot (length heads))
  where
    slot : ℕ
    slot = slot_of shift link.hash

    seen : latest slot (slots_of shift links) ≡ suc (length (slots_of shift new))
    seen = ap (latest slot) (ap (slots_of shift) joined ∙ map-append (λ (l : Link). slot_of shift l.hash) new (link ∷ [])) ∙ latest-push slot (slots_of shift new) slot
        ∙ ap (λ (b : Bool). if b then suc (length (slots_of shift new)) else latest slot (slots_of shift new)) (eq-eqb slot slot refl)

    within : (slot < length heads) ⊎ (length heads ≤ slot) → slot < length heads
    within (inl lt) = lt
    within (inr le) = absurd (omega (arith, get_or-eq_default heads 0 le, kept.are_heads slot, seen))

pub chains-pop_back : (first shift : ℕ) (links new : List Link) (heads : List ℕ) (link : Link) → Chains first shift links heads → links ≡ new ++ link ∷ [] → Chains first shift new (set heads (slot_of shift link.hash) link.before)
chains-pop_back first shift links new heads link kept joined =
    let slots : slots_of shift links ≡ slots_of shift new ++ slot ∷ [] = ap (slots_of shift) joined ∙ map-append (λ (l : Link). slot_of shift l.hash) new (link ∷ []) in
    let befores : befores_of links ≡ befores_of new ++ link.before ∷ [] = ap befores_of joined ∙ map-append (λ (l : Link). l.before) new (link ∷ []) in
    let len : length links ≡ length new + 1 = ap length joined ∙ length_push new link in
    let at_slot : get_or (slots_of shift links) (length new) 0 ≡ slot = ap (λ (l : List ℕ). get_or l (length new) 0) slots ∙ get_or_at (slots_of shift new) slot [] 0 (length new) (length-slots shift new) in
    let at_before : get_or (befores_of links) (length new) 0 ≡ link.before = ap (λ (l : List ℕ). get_or l (length new) 0) befores ∙ get_or_at (befores_of new) link.before [] 0 (length new) (length-map new (λ (l : Link). l.before)) in
    let at_take : take (length new) (slots_of shift links) ≡ slots_of shift new = ap (take (length new)) slots ∙ ap (λ (k : ℕ). take k (slots_of shift new ++ slot ∷ [])) (sym (length-slots shift new)) ∙ take-append_seam (slots_of shift new) (slot ∷ []) in
    let was : link.before - first ≡ latest slot (slots_of shift new) = ap (λ (n : ℕ). n - first) (sym at_before) ∙ kept.are_links (length new) (omega arith)
    ∙ ap (λ (k : ℕ). latest k (take (length new) (slots_of shift links))) at_slot ∙ ap (latest slot) at_take in
    record {
      are_heads = λ (s : ℕ). head_back s (slot == s) refl (chains-last first shift links new heads link kept joined) was
          (kept.are_heads s ∙ ap (latest s) slots ∙ latest-push s (slots_of shift new) slot);
      are_links = λ (i : ℕ) (h : i < length new).
          ap (λ (n : ℕ). n - first) (sym (ap (λ (l : List ℕ). get_or l i 0) befores ∙ get_or_append_left (befores_of new) (link.before ∷ []) 0 i (omega (arith, length-map new (λ (l : Link). l.before)))))
          ∙ kept.are_links i (omega arith)
          ∙ ap (λ (k : ℕ). latest k (take i (slots_of shift links))) (ap (λ (l : List ℕ). get_or l i 0) slots ∙ get_or_append_left (slots_of shift new) (slot ∷ []) 0 i (omega (arith, length-slots shift new)))
          ∙ ap (latest (get_or (slots_of shift new) i 0)) (ap (take i) slots ∙ take-append-le i (slots_of shift new) (slot ∷ []) (omega (arith, length-slots shift new)));
      begun = λ (h : 0 < length (set heads slot link.before)). ap (λ (n : ℕ). n * 2 ^ shift) (length-set heads slot link.before) ∙ kept.begun (omega (arith, length-set heads slot link.before));
      shifts = kept.shifts;
      fits = omega (arith, kept.fits);
    }
  where
    slot : ℕ
    slot = slot_of shift link.hash

    head_back : (s : ℕ) (b : Bool) → (slot == s) ≡ b → slot < length heads → link.before - first ≡ latest slot (slots_of shift new) → get_or heads s 0 - first ≡ (if b then suc (length (slots_of shift new)) else latest s (slots_of shift new)) → get_or (set heads slot link.before) s 0 - first ≡ latest s (slots_of shift new)
    head_back s true e within was at =
        let same : slot ≡ s = eqb-true slot s e in
        let read : get_or (set heads slot link.before) s 0 ≡ link.before = subst (λ (k : ℕ). get_or (set heads slot link.before) k 0 ≡ link.before) same (get_or-set_same heads slot link.before 0 within) in
        ap (λ (n : ℕ). n - first) read ∙ was ∙ ap (λ (k : ℕ). latest k (slots_of shift new)) same
    head_back s false e within was at =
        ap (λ (n : ℕ). n - first) (get_or-set_other heads slot s link.before 0 (λ (h : s ≡ slot). eqb-false slot s e (sym h))) ∙ at

-- heads that name no item
pub chains-none : (first shift : ℕ) (heads : List ℕ) → ((slot : ℕ) → get_or heads slot 0 ≡ 0) → length heads * 2 ^ shift ≡ 2 ^ 64 → shift < 64 → first < 2 ^ 64 → Chains first shift [] heads
chains-none first shift heads none count shifts fits = record {
  are_heads = λ (slot : ℕ). omega (arith, none slot);
  are_links = λ (i : ℕ) (h : i < 0). absurd (omega arith);
  begun = λ (h : 0 < length heads). count;
  shifts = shifts;
  fits = omega arith;
}

-- a hash of 64 bits has a head
pub slot-within : (hash count shift : ℕ) → hash < 2 ^ 64 → count * 2 ^ shift ≡ 2 ^ 64 → slot_of shift hash < count
slot-within hash count shift fits all = (div-lt_iff_lt-mul {k = 2 ^ shift} {x = hash} {y = count} (pow_pos shift)).1 (omega (arith, all, fits))

-- twice as many heads, each for half as many hashes
pub twice : (count shift : ℕ) → count * 2 ^ shift ≡ 2 ^ 64 → count < 2 ^ 63 → 2 * count * 2 ^ (shift - 1) ≡ 2 ^ 64
twice count zero all limit = absurd (omega (arith, all, limit))
twice count (suc shift) all limit =
    let e : suc shift - 1 ≡ shift = omega arith in
    ap (λ (k : ℕ). 2 * count * 2 ^ k) e ∙ ap (λ (n : ℕ). n * 2 ^ shift) (mul_comm 2 count) ∙ mul_assoc count 2 (2 ^ shift) ∙ ap (λ (n : ℕ). count * n) (sym (pow-succ' 2 shift)) ∙ all
