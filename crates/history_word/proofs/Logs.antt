-- Beginnings of one log, and the entries of some sessions in it.
use Rattle.std.proofs.Common.{◌≡◌, ◌⊎◌, inl, inr, eqb, eq-eqb, eqb-true, ne_eqb, ℕ, ◌≤◌, Bool, true, false, cond, ◌||◌, List, [], ◌∷◌, ◌++◌, length, refl, ap, sym, ◌∙◌, arith, append_assoc, append-nil, true≢false, ltb-true, ltb-false, ltb}
use Rattle.std.specs.Prelude.{filter}
use Rattle.std.proofs.lemmas.List.Elements.{filter-append}
use mathlib.Core.List.{IsPrefix}
use Rattle.index_derive.specs.declared.log.Entry.{Entry}
use Rattle.history_word.specs.Parts.{has_right, own_entries, are_own}

pub off : false ≡ true → ⊥
off e = true≢false (sym e)

pub prefix_self : {A : Type 0} (xs : List A) → IsPrefix xs xs
prefix_self xs = ([], append-nil xs)

pub prefix_more : {A : Type 0} (xs ys more : List A) → IsPrefix xs ys → IsPrefix xs (ys ++ more)
prefix_more xs ys more p = (p.0 ++ more, sym (append_assoc xs p.0 more) ∙ ap (λ w. w ++ more) p.1)

-- of two beginnings of one list the shorter begins the longer_log
pub prefix_shorter : {A : Type 0} (xs ys zs : List A) → IsPrefix xs zs → IsPrefix ys zs → length xs ≤ length ys → IsPrefix xs ys
prefix_shorter [] ys zs p q le = (ys, refl)
prefix_shorter (x ∷ xs) [] zs p q le = absurd (omega arith)
prefix_shorter (x ∷ xs) (y ∷ ys) [] p q le = absurd (cc (p.1))
prefix_shorter (x ∷ xs) (y ∷ ys) (z ∷ zs) p q le =
    let heads : x ≡ y = cc (p.1, q.1) in
    let rest = prefix_shorter xs ys zs (p.0, cc (p.1)) (q.0, cc (q.1)) (omega arith) in
    (rest.0, cc (heads, rest.1))

-- without a right no entry is one's own
pub own_none : (log : List Entry) → own_entries [] log ≡ []
own_none [] = refl
own_none (e ∷ es) = own_none es

pub own_append : (rights : List ℕ) (xs ys : List Entry) → own_entries rights (xs ++ ys) ≡ own_entries rights xs ++ own_entries rights ys
own_append rights xs ys = filter-append (λ e. has_right e.session.0 rights) xs ys

-- the filter at a head whose test is known
own_head : (rights : List ℕ) (e : Entry) (es : List Entry) (b : Bool) → has_right e.session.0 rights ≡ b → own_entries rights (e ∷ es) ≡ cond b (e ∷ own_entries rights es) (own_entries rights es)
own_head rights e es b is = ap (λ (b : Bool). cond b (e ∷ own_entries rights es) (own_entries rights es)) is

-- all name these sessions: so does the head, and so do the others
all_head : (rights : List ℕ) (e : Entry) (es : List Entry) (b : Bool) → has_right e.session.0 rights ≡ b → are_own rights (e ∷ es) ≡ true → (has_right e.session.0 rights ≡ true) × (are_own rights es ≡ true)
all_head rights e es true is all = (is, sym (ap (λ (b : Bool). cond b (are_own rights es) false) is) ∙ all)
all_head rights e es false is all = absurd (off (sym (ap (λ (b : Bool). cond b (are_own rights es) false) is) ∙ all))

-- entries that name these sessions are all their own
pub own_all : (rights : List ℕ) (es : List Entry) → are_own rights es ≡ true → own_entries rights es ≡ es
own_all rights [] all = refl
own_all rights (e ∷ es) all =
    let h = all_head rights e es (has_right e.session.0 rights) refl all in
    own_head rights e es true h.0 ∙ ap (λ l. e ∷ l) (own_all rights es h.1)

strange_head : (others rights : List ℕ) (e : Entry) (es : List Entry) (b : Bool) → has_right e.session.0 others ≡ b → (b ≡ true → ⊥) → own_entries others es ≡ [] → own_entries others (e ∷ es) ≡ []
strange_head others rights e es true is never rest = absurd (never refl)
strange_head others rights e es false is never rest = own_head others e es false is ∙ rest

-- what others wrote is not one's own
pub own_strange : (others rights : List ℕ) (es : List Entry) → are_own rights es ≡ true → ((s : ℕ) → has_right s others ≡ true → has_right s rights ≡ true → ⊥) → own_entries others es ≡ []
own_strange others rights [] all apart = refl
own_strange others rights (e ∷ es) all apart =
    let h = all_head rights e es (has_right e.session.0 rights) refl all in
    strange_head others rights e es (has_right e.session.0 others) refl (λ his. apart e.session.0 his h.0) (own_strange others rights es h.1 apart)

nothing_left : {A : Type 0} (xs ys : List A) → xs ≡ xs ++ ys → ys ≡ []
nothing_left [] ys e = sym e
nothing_left (x ∷ xs) ys e = nothing_left xs ys (cc e)

front_nothing : {A : Type 0} (xs ys : List A) → xs ++ ys ≡ [] → xs ≡ []
front_nothing [] ys e = refl
front_nothing (x ∷ xs) ys e = absurd (cc e)

-- where the beginning has_right all of one's own entries, each longer_log beginning has_right just these
pub own_between : (rights : List ℕ) (xs ys zs : List Entry) → IsPrefix xs ys → IsPrefix ys zs → own_entries rights xs ≡ own_entries rights zs → own_entries rights ys ≡ own_entries rights xs
own_between rights xs ys zs p q same =
    let o : List Entry → List Entry = own_entries rights in
    let mid : o ys ≡ o xs ++ o p.0 = ap o (sym p.1) ∙ own_append rights xs p.0 in
    let all : o zs ≡ (o xs ++ o p.0) ++ o q.0 = ap o (sym q.1) ∙ own_append rights ys q.0 ∙ ap (λ l. l ++ o q.0) mid in
    let none : o p.0 ++ o q.0 ≡ [] = nothing_left (o xs) (o p.0 ++ o q.0) (same ∙ all ∙ append_assoc (o xs) (o p.0) (o q.0)) in
    mid ∙ ap (λ l. o xs ++ l) (front_nothing (o p.0) (o q.0) none) ∙ append-nil (o xs)

-- of two beginnings of one list, one begins the other
pub prefixes_agree : {A : Type 0} (xs ys zs : List A) → IsPrefix xs zs → IsPrefix ys zs → IsPrefix xs ys ⊎ IsPrefix ys xs
prefixes_agree {A} xs ys zs p q = by_case (ltb (length xs) (length ys)) refl
  where
    by_case : (b : Bool) → ltb (length xs) (length ys) ≡ b → IsPrefix xs ys ⊎ IsPrefix ys xs
    by_case true is = let lt = ltb-true (length xs) (length ys) is in inl (prefix_shorter xs ys zs p q (omega (arith, lt)))
    by_case false is = inr (prefix_shorter ys xs zs q p (ltb-false (length xs) (length ys) is))

-- a list that has just one right
one_right : (s x : ℕ) → has_right x (s ∷ []) ≡ eqb x s
one_right s x = by_case (eqb s x) refl
  where
    by_case : (b : Bool) → eqb s x ≡ b → (b || false) ≡ eqb x s
    by_case true is = sym (eq-eqb x s (sym (eqb-true s x is)))
    by_case false is = sym (ne_eqb x s (λ e. true≢false (sym (eq-eqb s x (sym e)) ∙ is)))

-- the own entries of one right are the entries of that session
pub own_of_one : (s : ℕ) (log : List Entry) → own_entries (s ∷ []) log ≡ filter (λ e. eqb e.session.0 s) log
own_of_one s [] = refl
own_of_one s (e ∷ es) = ap (λ (b : Bool). cond b (e ∷ own_entries (s ∷ []) es) (own_entries (s ∷ []) es)) (one_right s e.session.0) ∙ ap (λ (l : List Entry). cond (eqb e.session.0 s) (e ∷ l) l) (own_of_one s es)

-- where the own entries stay as the log goes on, what was added has none
pub own_stays : (rights : List ℕ) (seen more : List Entry) → own_entries rights (seen ++ more) ≡ own_entries rights seen → own_entries rights more ≡ []
own_stays rights seen more same = nothing_left (own_entries rights seen) (own_entries rights more) (sym same ∙ own_append rights seen more)
