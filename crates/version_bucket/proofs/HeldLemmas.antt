-- What `Keeps` says of the fields, and how a push and a pop keep it.
use Rattle.std.proofs.Common.{◌≡◌, ℕ, zero, suc, ◌+◌, ◌-◌, ◌*◌, ◌/◌, ◌<◌, ◌≤◌, List, [], ◌∷◌, ◌++◌, length, map, take, drop, get_or, set, refl, sym, ap, subst, ◌∙◌, arith, length-append, append_assoc}
use Rattle.std.proofs.lemmas.List.{map-append}
use Rattle.std.proofs.lemmas.List.Sums.{sum_by-append, sum_by-cons}
use Rattle.std.specs.Prelude.{sum_by}
use Rattle.version_bucket.specs.Layout.{HasPiece, cost, piece_at, stored}
use Rattle.version_bucket.specs.Held.{Holds, IsFull, Keeps, Lies, bytes_of, joined, pieces_of}
use Rattle.version_bucket.specs.declared.held.Held.{Held}
use Rattle.version_bucket.specs.declared.Place.{Place}
use Rattle.version_bucket.proofs.LayoutLemmas.{HasPiece-stored, length-stored, piece_at-stored, stored-behind, take-more, within}

-- what is read at each place is the piece that lies there
Lies-map : (bytes : List ℕ) (k a : ℕ) (qs : List Place) (ps : List (List ℕ)) (g : Place → List ℕ) → ((q : Place) → q.bucket ≡ k → g q ≡ piece_at bytes q.offset) → Lies bytes k a qs ps → map g qs ≡ ps
Lies-map bytes k a [] [] g is h = refl
Lies-map bytes k a [] (p ∷ ps) g is h = absurd h
Lies-map bytes k a (q ∷ qs) [] g is h = absurd h
Lies-map bytes k a (q ∷ qs) (p ∷ ps) g is h =
    let first : g q ≡ p = is q h.0 ∙ ap (λ j. piece_at bytes j) h.1 ∙ piece_at-stored bytes a p h.2 h.3 in
    let rest = Lies-map bytes k (a + cost p) qs ps g is h.4 in λ i. first i ∷ rest i

Holds-map : (k a : ℕ) (held : List Held) (qss : List (List Place)) (pss : List (List (List ℕ))) (g : Place → List ℕ) → ((q : Place) (i : ℕ) → q.bucket ≡ k + i → g q ≡ piece_at (bytes_of held i) q.offset)
    → Holds k a held qss pss → map g (joined qss) ≡ joined pss
Holds-map k a [] [] [] g is h = refl
Holds-map k a [] (qs ∷ qss) pss g is h = absurd h
Holds-map k a [] [] (ps ∷ pss) g is h = absurd h
Holds-map k a (x ∷ held) [] pss g is h = absurd h
Holds-map k a (x ∷ held) (qs ∷ qss) [] g is h = absurd h
Holds-map k a (x ∷ held) (qs ∷ qss) (ps ∷ pss) g is h =
    let here = Lies-map x.memory.bytes k a qs ps g (λ q e. is q 0 (omega (arith, e))) h.2 in
    let rest = Holds-map (k + 1) 0 held qss pss g (λ q i e. is q (suc i) (omega (arith, e))) h.4 in
    map-append g qs (joined qss) ∙ (λ i. here i ++ rest i)

pub pieces_of-Holds : (k a : ℕ) (held : List Held) (qss : List (List Place)) (pss : List (List (List ℕ))) → Holds k a held qss pss → pieces_of k held (joined qss) ≡ joined pss
pieces_of-Holds k a held qss pss h =
    Holds-map k a held qss pss (λ q. piece_at (bytes_of held (q.bucket - k)) q.offset) (λ q i e. let at : q.bucket - k ≡ i = omega (arith, e) in ap (λ j. piece_at (bytes_of held j) q.offset) at) h

-- as many places as pieces, and as many counts as buckets
length-Lies : (bytes : List ℕ) (k a : ℕ) (qs : List Place) (ps : List (List ℕ)) → Lies bytes k a qs ps → length qs ≡ length ps
length-Lies bytes k a [] [] h = refl
length-Lies bytes k a [] (p ∷ ps) h = absurd h
length-Lies bytes k a (q ∷ qs) [] h = absurd h
length-Lies bytes k a (q ∷ qs) (p ∷ ps) h = ap suc (length-Lies bytes k (a + cost p) qs ps h.4)

pub length-joined_places : (k a : ℕ) (held : List Held) (qss : List (List Place)) (pss : List (List (List ℕ))) → Holds k a held qss pss → length (joined qss) ≡ length (joined pss)
length-joined_places k a [] [] [] h = refl
length-joined_places k a [] (qs ∷ qss) pss h = absurd h
length-joined_places k a [] [] (ps ∷ pss) h = absurd h
length-joined_places k a (x ∷ held) [] pss h = absurd h
length-joined_places k a (x ∷ held) (qs ∷ qss) [] h = absurd h
length-joined_places k a (x ∷ held) (qs ∷ qss) (ps ∷ pss) h =
    omega (arith, length-append qs (joined qss), length-append ps (joined pss), length-Lies x.memory.bytes k a qs ps h.2, length-joined_places (k + 1) 0 held qss pss h.4)

-- each bucket has a piece
pub length-held : (k a : ℕ) (held : List Held) (qss : List (List Place)) (pss : List (List (List ℕ))) → Holds k a held qss pss → length held ≤ length (joined pss)
length-held k a [] [] [] h = omega arith
length-held k a [] (qs ∷ qss) pss h = absurd h
length-held k a [] [] (ps ∷ pss) h = absurd h
length-held k a (x ∷ held) [] pss h = absurd h
length-held k a (x ∷ held) (qs ∷ qss) [] h = absurd h
length-held k a (x ∷ held) (qs ∷ qss) (ps ∷ pss) h = omega (arith, h.1, length-append ps (joined pss), length-held (k + 1) 0 held qss pss h.4)

kept-joined : (k a : ℕ) (held : List Held) (qss : List (List Place)) (pss : List (List (List ℕ))) (i : ℕ) (d : Held) → i < length held → Holds k a held qss pss → (get_or held i d).kept ≤ length (joined pss)
kept-joined k a [] qss pss i d lt h = absurd (omega arith)
kept-joined k a (x ∷ held) [] pss i d lt h = absurd h
kept-joined k a (x ∷ held) (qs ∷ qss) [] i d lt h = absurd h
kept-joined k a (x ∷ held) (qs ∷ qss) (ps ∷ pss) zero d lt h = omega (arith, h.0, length-append ps (joined pss))
kept-joined k a (x ∷ held) (qs ∷ qss) (ps ∷ pss) (suc i) d lt h = omega (arith, length-append ps (joined pss), kept-joined (k + 1) 0 held qss pss i d (omega (arith, lt)) h.4)

-- the pieces fill the bucket from the offset on
sum_by-Lies : (bytes : List ℕ) (k a : ℕ) (qs : List Place) (ps : List (List ℕ)) → Lies bytes k a qs ps → a + sum_by cost ps ≡ length bytes
sum_by-Lies bytes k a [] [] h = omega (arith, h)
sum_by-Lies bytes k a [] (p ∷ ps) h = absurd h
sum_by-Lies bytes k a (q ∷ qs) [] h = absurd h
sum_by-Lies bytes k a (q ∷ qs) (p ∷ ps) h = omega (arith, sum_by-cons cost p ps, sum_by-Lies bytes k (a + cost p) qs ps h.4)

-- each bucket but the last is full, where the first is so from its start on
full : (k : ℕ) (held : List Held) (qss : List (List Place)) (pss : List (List (List ℕ))) → Holds k 0 held qss pss → 61440 * (length held - 1) ≤ sum_by cost (joined pss)
full k [] [] [] h = omega arith
full k [] (qs ∷ qss) pss h = absurd h
full k [] [] (ps ∷ pss) h = absurd h
full k (x ∷ held) [] pss h = absurd h
full k (x ∷ held) (qs ∷ qss) [] h = absurd h
full k (x ∷ []) (qs ∷ qss) (ps ∷ pss) h = omega arith
full k (x ∷ y ∷ held) (qs ∷ qss) (ps ∷ pss) h =
    omega (arith, h.3, sum_by-append cost ps (joined pss), sum_by-Lies x.memory.bytes k 0 qs ps h.2, full (k + 1) (y ∷ held) qss pss h.4)

pub bound : (k a : ℕ) (held : List Held) (qss : List (List Place)) (pss : List (List (List ℕ))) → Holds k a held qss pss → length held ≤ 2 + sum_by cost (joined pss) / 61440
bound k a [] qss pss h = omega arith
bound k a (x ∷ held) [] pss h = absurd h
bound k a (x ∷ held) (qs ∷ qss) [] h = absurd h
bound k a (x ∷ held) (qs ∷ qss) (ps ∷ pss) h = omega (arith, sum_by-append cost ps (joined pss), full (k + 1) held qss pss h.4)

module _ (first freed room : ℕ) (places : List Place) (held : List Held) (k : Keeps first freed room places held) where
  pub shown-pieces : pieces_of freed held places ≡ joined k.pieces_in
  shown-pieces = ap (λ qs. pieces_of freed held qs) k.are_places ∙ pieces_of-Holds freed k.start held k.places_in k.pieces_in k.holds

  pub length-places : length places ≡ length (joined k.pieces_in)
  length-places = ap length k.are_places ∙ length-joined_places freed k.start held k.places_in k.pieces_in k.holds

  pub length-held-places : length held ≤ length places
  length-held-places = omega (arith, length-places, length-held freed k.start held k.places_in k.pieces_in k.holds)

  pub kept-places : (i : ℕ) (d : Held) → i < length held → (get_or held i d).kept ≤ length places
  kept-places i d lt = omega (arith, length-places, kept-joined freed k.start held k.places_in k.pieces_in i d lt k.holds)

-- each place is in a bucket that is held, with a piece behind it
abbrev pub IsPlaced : ℕ → List Held → Place → Type 0
IsPlaced k held q = (k ≤ q.bucket) × (q.bucket - k < length held) × HasPiece (bytes_of held (q.bucket - k)) q.offset

abbrev pub Each : (Place → Type 0) → List Place → Type 0
Each P [] = Unit {0}
Each P (q ∷ qs) = P q × Each P qs

pub each-get : (P : Place → Type 0) (qs : List Place) (i : ℕ) (d : Place) → i < length qs → Each P qs → P (get_or qs i d)
each-get P [] i d lt h = absurd (omega arith)
each-get P (q ∷ qs) zero d lt h = h.0
each-get P (q ∷ qs) (suc i) d lt h = each-get P qs i d (omega (arith, lt)) h.1

Each-Lies : (bytes : List ℕ) (k a : ℕ) (qs : List Place) (ps : List (List ℕ)) (P : Place → Type 0) → ((q : Place) → q.bucket ≡ k → HasPiece bytes q.offset → P q) → Lies bytes k a qs ps → (more : List Place) → Each P more → Each P (qs ++ more)
Each-Lies bytes k a [] [] P is h more m = m
Each-Lies bytes k a [] (p ∷ ps) P is h more m = absurd h
Each-Lies bytes k a (q ∷ qs) [] P is h more m = absurd h
Each-Lies bytes k a (q ∷ qs) (p ∷ ps) P is h more m =
    let here : HasPiece bytes q.offset = subst (λ (j : ℕ). HasPiece bytes j) (sym h.1) (HasPiece-stored bytes a p h.2 h.3) in
    (is q h.0 here, Each-Lies bytes k (a + cost p) qs ps P is h.4 more m)

Each-Holds : (k a : ℕ) (held : List Held) (qss : List (List Place)) (pss : List (List (List ℕ))) (P : Place → Type 0) → ((q : Place) (i : ℕ) → q.bucket ≡ k + i → i < length held → HasPiece (bytes_of held i) q.offset → P q)
    → Holds k a held qss pss → Each P (joined qss)
Each-Holds k a [] [] [] P is h = tt
Each-Holds k a [] (qs ∷ qss) pss P is h = absurd h
Each-Holds k a [] [] (ps ∷ pss) P is h = absurd h
Each-Holds k a (x ∷ held) [] pss P is h = absurd h
Each-Holds k a (x ∷ held) (qs ∷ qss) [] P is h = absurd h
Each-Holds k a (x ∷ held) (qs ∷ qss) (ps ∷ pss) P is h =
    Each-Lies x.memory.bytes k a qs ps P (λ q e has. is q 0 (omega (arith, e)) (omega arith) has) h.2 (joined qss)
    (Each-Holds (k + 1) 0 held qss pss P (λ q i e lt has. is q (suc i) (omega (arith, e)) (omega (arith, lt)) has) h.4)

pub each-placed : (first freed room : ℕ) (places : List Place) (held : List Held) (k : Keeps first freed room places held) → Each (IsPlaced freed held) places
each-placed first freed room places held k =
    subst (λ (qs : List Place). Each (IsPlaced freed held) qs) (sym k.are_places) (Each-Holds freed k.start held k.places_in k.pieces_in (IsPlaced freed held)
    (λ q i e lt has. let at : q.bucket - freed ≡ i = omega (arith, e) in (omega (arith, e), omega (arith, e, lt), subst (λ (j : ℕ). HasPiece (bytes_of held j) q.offset) (sym at) has)) k.holds)

pub bytes_of-get : (held : List Held) (i : ℕ) (d : Held) → i < length held → bytes_of held i ≡ (get_or held i d).memory.bytes
bytes_of-get [] i d lt = absurd (omega arith)
bytes_of-get (x ∷ held) zero d lt = refl
bytes_of-get (x ∷ held) (suc i) d lt = bytes_of-get held i d (omega (arith, lt))

-- one more in the last list
abbrev pub extended : {X : Type 0} → List (List X) → X → List (List X)
extended [] x = []
extended (xs ∷ []) x = (xs ++ x ∷ []) ∷ []
extended (xs ∷ ys ∷ xss) x = xs ∷ extended (ys ∷ xss) x

pub joined-extended : {X : Type 0} (xss : List (List X)) (x : X) → 0 < length xss → joined (extended xss x) ≡ joined xss ++ x ∷ []
joined-extended [] x lt = absurd (omega arith)
joined-extended (xs ∷ []) x lt = append_assoc xs (x ∷ []) [] ∙ (λ i. xs ++ (x ∷ [])) ∙ sym (append_assoc xs [] (x ∷ []))
joined-extended (xs ∷ ys ∷ xss) x lt = ap (λ l. xs ++ l) (joined-extended (ys ∷ xss) x (omega arith)) ∙ sym (append_assoc xs (joined (ys ∷ xss)) (x ∷ []))

Lies-extended : (bytes : List ℕ) (k a : ℕ) (qs : List Place) (ps : List (List ℕ)) (q : Place) (p : List ℕ) → q.bucket ≡ k → q.offset ≡ length bytes → length p ≤ 4096
    → Lies bytes k a qs ps → Lies (bytes ++ stored p) k a (qs ++ q ∷ []) (ps ++ p ∷ [])
Lies-extended bytes k a [] [] q p e f le h =
    (e, f ∙ sym h, ap (λ j. take (cost p) (drop j (bytes ++ stored p))) h ∙ stored-behind bytes p, le, omega (arith, h, length-append bytes (stored p), length-stored p))
Lies-extended bytes k a [] (x ∷ ps) q p e f le h = absurd h
Lies-extended bytes k a (y ∷ qs) [] q p e f le h = absurd h
Lies-extended bytes k a (y ∷ qs) (x ∷ ps) q p e f le h =
    (h.0, h.1, take-more bytes (stored p) a (cost x) (within bytes a x h.2) ∙ h.2, h.3, Lies-extended bytes k (a + cost x) qs ps q p e f le h.4)

IsFull-set : (held : List Held) (i : ℕ) (y : Held) (bytes : List ℕ) → IsFull held bytes → IsFull (set held i y) bytes
IsFull-set [] i y bytes h = h
IsFull-set (x ∷ held) zero y bytes h = h
IsFull-set (x ∷ held) (suc i) y bytes h = h

-- the last bucket gets one more piece
pub Holds-extended : (k a : ℕ) (held : List Held) (qss : List (List Place)) (pss : List (List (List ℕ))) (i : ℕ) (y : Held) (q : Place) (p : List ℕ)
    → length held ≡ suc i → y.memory.bytes ≡ bytes_of held i ++ stored p → ((d : Held) → y.kept ≡ (get_or held i d).kept + 1) → q.bucket ≡ k + i → q.offset ≡ length (bytes_of held i) → length p ≤ 4096
    → Holds k a held qss pss → Holds k a (set held i y) (extended qss q) (extended pss p)
Holds-extended k a [] qss pss i y q p n b c e f le h = absurd (omega (arith, n))
Holds-extended k a (x ∷ held) [] pss i y q p n b c e f le h = absurd h
Holds-extended k a (x ∷ held) (qs ∷ qss) [] i y q p n b c e f le h = absurd h
Holds-extended k a (x ∷ []) (qs ∷ []) (ps ∷ []) zero y q p n b c e f le h = (
  c x ∙ ap (λ j. j + 1) h.0 ∙ sym (length-append ps (p ∷ [])),
  omega (arith, length-append ps (p ∷ [])),
  subst (λ (bytes : List ℕ). Lies bytes k a (qs ++ q ∷ []) (ps ++ p ∷ [])) (sym b) (Lies-extended x.memory.bytes k a qs ps q p (omega (arith, e)) f le h.2),
  tt,
  tt,
)
Holds-extended k a (x ∷ []) (qs ∷ rs ∷ qss) (ps ∷ pss) zero y q p n b c e f le h = absurd h.4
Holds-extended k a (x ∷ []) (qs ∷ []) (ps ∷ ss ∷ pss) zero y q p n b c e f le h = absurd h.4
Holds-extended k a (x ∷ []) (qs ∷ qss) (ps ∷ pss) (suc i) y q p n b c e f le h = absurd (omega (arith, n))
Holds-extended k a (x ∷ z ∷ held) (qs ∷ qss) (ps ∷ pss) zero y q p n b c e f le h = absurd (omega (arith, n))
Holds-extended k a (x ∷ z ∷ held) (qs ∷ []) (ps ∷ pss) (suc i) y q p n b c e f le h = absurd h.4
Holds-extended k a (x ∷ z ∷ held) (qs ∷ rs ∷ qss) (ps ∷ []) (suc i) y q p n b c e f le h = absurd h.4
Holds-extended k a (x ∷ z ∷ held) (qs ∷ rs ∷ qss) (ps ∷ ss ∷ pss) (suc i) y q p n b c e f le h = (
  h.0,
  h.1,
  h.2,
  IsFull-set (z ∷ held) i y x.memory.bytes h.3,
  Holds-extended (k + 1) 0 (z ∷ held) (rs ∷ qss) (ss ∷ pss) i y q p (omega (arith, n)) b c (omega (arith, e)) f le h.4,
)

get-map : (g : Place → List ℕ) (qs : List Place) (i : ℕ) (q : Place) → i < length qs → get_or (map g qs) i [] ≡ g (get_or qs i q)
get-map g [] i q lt = absurd (omega arith)
get-map g (x ∷ qs) zero q lt = refl
get-map g (x ∷ qs) (suc i) q lt = get-map g qs i q (omega (arith, lt))

-- the place of the piece at the index, and the piece that is read there
module _ (first freed room : ℕ) (places : List Place) (held : List Held) (k : Keeps first freed room places held) (i : ℕ) (q : Place) (lt : i < length places) (at : q ≡ get_or places i q) where
  pub placed : IsPlaced freed held q
  placed = subst (λ (r : Place). IsPlaced freed held r) (sym at) (each-get (IsPlaced freed held) places i q lt (each-placed first freed room places held k))

  pub get-pieces : get_or (pieces_of freed held places) i [] ≡ piece_at (bytes_of held (q.bucket - freed)) q.offset
  get-pieces = get-map (λ r. piece_at (bytes_of held (r.bucket - freed)) r.offset) places i q lt ∙ ap (λ (r : Place). piece_at (bytes_of held (r.bucket - freed)) r.offset) (sym at)
