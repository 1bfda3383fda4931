-- A push and a pop keep what `Keeps` says, and what they make of the pieces and the counts.
use Rattle.std.proofs.Common.{◌≡◌, ℕ, zero, suc, ◌+◌, ◌-◌, ◌*◌, ◌/◌, ◌^◌, ◌<◌, ◌≤◌, List, [], ◌∷◌, ◌++◌, length, map, take, drop, get_or, set, refl, sym, ap, subst, ◌∙◌, arith, length-append, append_assoc, true, false, if◌then◌else◌, le-leb, leb, length-drop}
use Rattle.std.proofs.lemmas.Bool.{lt-leb}
use Rattle.version_bucket.specs.Layout.{cost, stored}
use Rattle.version_bucket.specs.Pieces.{Pieces, appended, one_less, one_more, room_in}
use Rattle.version_bucket.specs.Held.{Holds, IsFull, Keeps, Lies, bytes_of, joined, pieces_of, room_of}
use Rattle.version_bucket.specs.declared.held.Held.{Held}
use Rattle.version_bucket.specs.declared.Place.{Place}
use Rattle.version_bucket.proofs.LayoutLemmas.{length-stored, stored-behind}
use Rattle.version_bucket.proofs.HeldLemmas.{Holds-extended, bytes_of-get, extended, joined-extended, length-places, shown-pieces}

-- the count of each bucket
abbrev pub counts_of : List Held → List ℕ
counts_of held = map (λ h. h.kept) held

fits_of : (held : List Held) (i : ℕ) → length (bytes_of held i) ≤ 65536
fits_of [] i = omega arith
fits_of (x ∷ held) zero = x.memory.fits
fits_of (x ∷ held) (suc i) = fits_of held i

room_of-last : (held : List Held) (i : ℕ) → length held ≡ suc i → room_of held ≡ 65536 - length (bytes_of held i)
room_of-last [] i n = absurd (omega (arith, n))
room_of-last (x ∷ []) zero n = refl
room_of-last (x ∷ []) (suc i) n = absurd (omega (arith, n))
room_of-last (x ∷ y ∷ held) zero n = absurd (omega (arith, n))
room_of-last (x ∷ y ∷ held) (suc i) n = room_of-last (y ∷ held) i (omega (arith, n))

-- where the last bucket ends
pub end-last : (room : ℕ) (held : List Held) (i : ℕ) → room ≡ room_of held → length held ≡ suc i → 65536 - room ≡ length (bytes_of held i)
end-last room held i e n = omega (arith, e, room_of-last held i n, fits_of held i)

pub room-fits : (held : List Held) → room_of held ≤ 65536
room-fits [] = omega arith
room-fits (x ∷ []) = omega arith
room-fits (x ∷ y ∷ held) = room-fits (y ∷ held)

pub length-set_held : (held : List Held) (i : ℕ) (y : Held) → length (set held i y) ≡ length held
length-set_held [] i y = refl
length-set_held (x ∷ held) zero y = refl
length-set_held (x ∷ held) (suc i) y = ap suc (length-set_held held i y)

bytes_of-set : (held : List Held) (i : ℕ) (y : Held) → i < length held → bytes_of (set held i y) i ≡ y.memory.bytes
bytes_of-set [] i y lt = absurd (omega arith)
bytes_of-set (x ∷ held) zero y lt = refl
bytes_of-set (x ∷ held) (suc i) y lt = bytes_of-set held i y (omega (arith, lt))

pub counts_of-extended : (held : List Held) (i : ℕ) (y : Held) → length held ≡ suc i → ((d : Held) → y.kept ≡ (get_or held i d).kept + 1) → counts_of (set held i y) ≡ one_more (counts_of held)
counts_of-extended [] i y n e = absurd (omega (arith, n))
counts_of-extended (x ∷ []) zero y n e = ap (λ j. j ∷ []) (e x)
counts_of-extended (x ∷ []) (suc i) y n e = absurd (omega (arith, n))
counts_of-extended (x ∷ z ∷ held) zero y n e = absurd (omega (arith, n))
counts_of-extended (x ∷ z ∷ held) (suc i) y n e = ap (λ l. x.kept ∷ l) (counts_of-extended (z ∷ held) i y (omega (arith, n)) e)

counts_of-begun : (held : List Held) (y : Held) → y.kept ≡ 1 → counts_of (held ++ y ∷ []) ≡ counts_of held ++ 1 ∷ []
counts_of-begun [] y e = ap (λ j. j ∷ []) e
counts_of-begun (x ∷ held) y e = ap (λ l. x.kept ∷ l) (counts_of-begun held y e)

length-pieces_in : (k a : ℕ) (held : List Held) (qss : List (List Place)) (pss : List (List (List ℕ))) → Holds k a held qss pss → (length qss ≡ length held) × (length pss ≡ length held)
length-pieces_in k a [] [] [] h = (refl, refl)
length-pieces_in k a [] (qs ∷ qss) pss h = absurd h
length-pieces_in k a [] [] (ps ∷ pss) h = absurd h
length-pieces_in k a (x ∷ held) [] pss h = absurd h
length-pieces_in k a (x ∷ held) (qs ∷ qss) [] h = absurd h
length-pieces_in k a (x ∷ held) (qs ∷ qss) (ps ∷ pss) h = let rest = length-pieces_in (k + 1) 0 held qss pss h.4 in (ap suc rest.0, ap suc rest.1)

-- the piece goes into the last bucket
pub Keeps-extended : (first freed room : ℕ) (places : List Place) (held : List Held) (k : Keeps first freed room places held) (i : ℕ) (y : Held) (q : Place) (p : List ℕ)
    → length held ≡ suc i → y.memory.bytes ≡ bytes_of held i ++ stored p → ((d : Held) → y.kept ≡ (get_or held i d).kept + 1) → q.bucket ≡ freed + i → q.offset ≡ 65536 - room → length p ≤ 4096
    → cost p ≤ room → first + length places + 1 < 2 ^ 64
    → (new : Keeps first freed (room - cost p) (places ++ q ∷ []) (set held i y)) × (joined new.pieces_in ≡ joined k.pieces_in ++ p ∷ [])
Keeps-extended first freed room places held k i y q p n b c e f le enough few =
    let counts = length-pieces_in freed k.start held k.places_in k.pieces_in k.holds in
    let end = end-last room held i k.is_room n in
    let small = fits_of held i in let grown = length-append (bytes_of held i) (stored p) in (
      record {
        start = k.start;
        places_in = extended k.places_in q;
        pieces_in = extended k.pieces_in p;
        are_places = ap (λ l. l ++ q ∷ []) k.are_places ∙ sym (joined-extended k.places_in q (omega (arith, counts.0, n)));
        holds = Holds-extended freed k.start held k.places_in k.pieces_in i y q p n b c e (f ∙ end) le k.holds;
        words = k.words - (1 + (length p + 7) / 8);
        is_words = omega (arith, k.is_words);
        is_room =
            omega (arith, end, small, grown, k.is_room, room-fits held, length-stored p, ap length b, room_of-last (set held i y) i (length-set_held held i y ∙ n), ap length (bytes_of-set held i y (omega (arith, n))));
        is_freed = k.is_freed;
        fits = omega (arith, few, length-append places (q ∷ []));
      },
      joined-extended k.pieces_in p (omega (arith, counts.1, n)),
    )

-- where the buckets begin once one more is there: at 0 where there was none
abbrev start_of : List Held → ℕ → ℕ
start_of [] a = 0
start_of (x ∷ held) a = a

Holds-begun : (k a : ℕ) (held : List Held) (qss : List (List Place)) (pss : List (List (List ℕ))) (y : Held) (q : Place) (p : List ℕ)
    → y.memory.bytes ≡ stored p → y.kept ≡ 1 → q.bucket ≡ k + length held → q.offset ≡ 0 → length p ≤ 4096 → room_of held ≤ 4096
    → Holds k a held qss pss → Holds k (start_of held a) (held ++ y ∷ []) (qss ++ (q ∷ []) ∷ []) (pss ++ (p ∷ []) ∷ [])
Holds-begun k a [] [] [] y q p b c e f le little h =
    (c, omega arith, (omega (arith, e), f, ap (λ l. take (cost p) l) b ∙ stored-behind [] p, le, omega (arith, ap length b, length-stored p)), tt, tt)
Holds-begun k a [] (qs ∷ qss) pss y q p b c e f le little h = absurd h
Holds-begun k a [] [] (ps ∷ pss) y q p b c e f le little h = absurd h
Holds-begun k a (x ∷ held) [] pss y q p b c e f le little h = absurd h
Holds-begun k a (x ∷ held) (qs ∷ qss) [] y q p b c e f le little h = absurd h
Holds-begun k a (x ∷ []) (qs ∷ qss) (ps ∷ pss) y q p b c e f le little h =
    (h.0, h.1, h.2, omega (arith, little), Holds-begun (k + 1) 0 [] qss pss y q p b c (omega (arith, e)) f le (omega arith) h.4)
Holds-begun k a (x ∷ z ∷ held) (qs ∷ qss) (ps ∷ pss) y q p b c e f le little h =
    (h.0, h.1, h.2, h.3, Holds-begun (k + 1) 0 (z ∷ held) qss pss y q p b c (omega (arith, e)) f le little h.4)

room_of-begun : (held : List Held) (y : Held) → room_of (held ++ y ∷ []) ≡ 65536 - length y.memory.bytes
room_of-begun [] y = refl
room_of-begun (x ∷ []) y = refl
room_of-begun (x ∷ z ∷ held) y = room_of-begun (z ∷ held) y

joined-begun : {X : Type 0} (xss : List (List X)) (x : X) → joined (xss ++ (x ∷ []) ∷ []) ≡ joined xss ++ x ∷ []
joined-begun [] x = refl
joined-begun (xs ∷ xss) x = ap (λ l. xs ++ l) (joined-begun xss x) ∙ sym (append_assoc xs (joined xss) (x ∷ []))

-- the piece goes into a new bucket
pub Keeps-begun : (first freed room : ℕ) (places : List Place) (held : List Held) (k : Keeps first freed room places held) (y : Held) (q : Place) (p : List ℕ)
    → y.memory.bytes ≡ stored p → y.kept ≡ 1 → q.bucket ≡ freed + length held → q.offset ≡ 0 → length p ≤ 4096 → room < cost p → first + length places + 1 < 2 ^ 64
    → (new : Keeps first freed (65536 - cost p) (places ++ q ∷ []) (held ++ y ∷ [])) × (joined new.pieces_in ≡ joined k.pieces_in ++ p ∷ [])
Keeps-begun first freed room places held k y q p b c e f le more few = (
  record {
    start = start_of held k.start;
    places_in = k.places_in ++ (q ∷ []) ∷ [];
    pieces_in = k.pieces_in ++ (p ∷ []) ∷ [];
    are_places = ap (λ l. l ++ q ∷ []) k.are_places ∙ sym (joined-begun k.places_in q);
    holds = Holds-begun freed k.start held k.places_in k.pieces_in y q p b c e f le (omega (arith, k.is_room, k.is_words, more)) k.holds;
    words = 8191 - (length p + 7) / 8;
    is_words = omega arith;
    is_room = omega (arith, room_of-begun held y, ap length b, length-stored p);
    is_freed = k.is_freed;
    fits = omega (arith, few, length-append places (q ∷ []));
  },
  joined-begun k.pieces_in p,
)

pub get-any : (held : List Held) (i : ℕ) (d e : Held) → i < length held → get_or held i d ≡ get_or held i e
get-any [] i d e lt = absurd (omega arith)
get-any (x ∷ held) zero d e lt = refl
get-any (x ∷ held) (suc i) d e lt = get-any held i d e (omega (arith, lt))

-- without the first one of the first list
abbrev pub popped : {X : Type 0} → List (List X) → List (List X)
popped [] = []
popped ([] ∷ xss) = [] ∷ xss
popped ((x ∷ xs) ∷ xss) = xs ∷ xss

-- The first piece goes, and others are left in its bucket.
record Stays (k a : ℕ) (held : List Held) (qss : List (List Place)) (pss : List (List (List ℕ))) (y : Held) : Type 0 where
  pub start : ℕ
  pub holds : Holds k start (set held 0 y) (popped qss) (popped pss)
  pub places : joined (popped qss) ≡ drop 1 (joined qss)
  pub pieces : joined (popped pss) ≡ drop 1 (joined pss)
  pub counts : counts_of (set held 0 y) ≡ one_less (counts_of held)
  pub room : room_of (set held 0 y) ≡ room_of held

room_of-same : (x y : Held) (held : List Held) → y.memory.bytes ≡ x.memory.bytes → room_of (y ∷ held) ≡ room_of (x ∷ held)
room_of-same x y [] e = ap (λ l. 65536 - length l) e
room_of-same x y (z ∷ held) e = refl

stays : (k a : ℕ) (held : List Held) (qss : List (List Place)) (pss : List (List (List ℕ))) (y d : Held) → 0 < length held → y.memory.bytes ≡ (get_or held 0 d).memory.bytes → y.kept + 1 ≡ (get_or held 0 d).kept → 0 < y.kept
    → Holds k a held qss pss → Stays k a held qss pss y
stays k a [] qss pss y d lt b c some h = absurd (omega arith)
stays k a (x ∷ held) [] pss y d lt b c some h = absurd h
stays k a (x ∷ held) (qs ∷ qss) [] y d lt b c some h = absurd h
stays k a (x ∷ held) ([] ∷ qss) ([] ∷ pss) y d lt b c some h = absurd (omega (arith, h.1))
stays k a (x ∷ held) ((q ∷ qs) ∷ qss) ([] ∷ pss) y d lt b c some h = absurd h.2
stays k a (x ∷ held) ([] ∷ qss) ((p ∷ ps) ∷ pss) y d lt b c some h = absurd h.2
stays k a (x ∷ held) ((q ∷ qs) ∷ qss) ((p ∷ ps) ∷ pss) y d lt b c some h =
    let many : leb x.kept 1 ≡ false = lt-leb x.kept 1 (omega (arith, c, some)) in
    let one : y.kept ≡ x.kept - 1 = omega (arith, c) in
    record {
      start = a + cost p;
      holds = (omega (arith, c, h.0), omega (arith, c, h.0, some), subst (λ (bytes : List ℕ). Lies bytes k (a + cost p) qs ps) (sym b) h.2.4, subst (λ (bytes : List ℕ). IsFull held bytes) (sym b) h.3, h.4);
      places = refl;
      pieces = refl;
      counts = ap (λ j. j ∷ counts_of held) one ∙ sym (ap (λ t. if t then counts_of held else (x.kept - 1) ∷ counts_of held) many);
      room = room_of-same x y held b;
    }

pub Keeps-stays : (first freed room : ℕ) (places : List Place) (held : List Held) (k : Keeps first freed room places held) (y d : Held) → 0 < length places → y.memory.bytes ≡ (get_or held 0 d).memory.bytes → y.kept + 1 ≡ (get_or held 0 d).kept → 0 < y.kept → 0 < length held
    → (new : Keeps (first + 1) freed room (drop 1 places) (set held 0 y)) × (joined new.pieces_in ≡ drop 1 (joined k.pieces_in)) × (counts_of (set held 0 y) ≡ one_less (counts_of held))
Keeps-stays first freed room places held k y d some b c more lt =
    let s = stays freed k.start held k.places_in k.pieces_in y d lt b c more k.holds in (
      record {
        start = s.start;
        places_in = popped k.places_in;
        pieces_in = popped k.pieces_in;
        are_places = ap (λ l. drop 1 l) k.are_places ∙ sym s.places;
        holds = s.holds;
        words = k.words;
        is_words = k.is_words;
        is_room = k.is_room ∙ sym s.room;
        is_freed = omega (arith, k.is_freed);
        fits = omega (arith, k.fits, length-drop 1 places);
      },
      s.pieces,
      s.counts,
    )

-- The first piece goes, and its bucket with it.
record Goes (k : ℕ) (held : List Held) (qss : List (List Place)) (pss : List (List (List ℕ))) : Type 0 where
  pub holds : Holds (k + 1) 0 (drop 1 held) (drop 1 qss) (drop 1 pss)
  pub places : joined (drop 1 qss) ≡ drop 1 (joined qss)
  pub pieces : joined (drop 1 pss) ≡ drop 1 (joined pss)
  pub counts : counts_of (drop 1 held) ≡ one_less (counts_of held)
  pub room : room_of (drop 1 held) ≡ room_in (one_less (counts_of held)) (room_of held)

room_in-counts : (held : List Held) (x : Held) → room_of held ≡ room_in (counts_of held) (room_of (x ∷ held))
room_in-counts [] x = refl
room_in-counts (y ∷ held) x = refl

goes : (k a : ℕ) (held : List Held) (qss : List (List Place)) (pss : List (List (List ℕ))) (d : Held) → 0 < length held → (get_or held 0 d).kept ≡ 1 → Holds k a held qss pss → Goes k held qss pss
goes k a [] qss pss d lt c h = absurd (omega arith)
goes k a (x ∷ held) [] pss d lt c h = absurd h
goes k a (x ∷ held) (qs ∷ qss) [] d lt c h = absurd h
goes k a (x ∷ held) ([] ∷ qss) ([] ∷ pss) d lt c h = absurd (omega (arith, h.1))
goes k a (x ∷ held) ((q ∷ qs) ∷ qss) ([] ∷ pss) d lt c h = absurd h.2
goes k a (x ∷ held) ([] ∷ qss) ((p ∷ ps) ∷ pss) d lt c h = absurd h.2
goes k a (x ∷ held) ((q ∷ []) ∷ qss) ((p ∷ []) ∷ pss) d lt c h =
    let one : leb x.kept 1 ≡ true = le-leb x.kept 1 (omega (arith, c)) in
    let same : counts_of held ≡ one_less (counts_of (x ∷ held)) = sym (ap (λ t. if t then counts_of held else (x.kept - 1) ∷ counts_of held) one) in
    record { holds = h.4; places = refl; pieces = refl; counts = same; room = room_in-counts held x ∙ ap (λ l. room_in l (room_of (x ∷ held))) same }
goes k a (x ∷ held) ((q ∷ r ∷ qs) ∷ qss) ((p ∷ []) ∷ pss) d lt c h = absurd h.2.4
goes k a (x ∷ held) ((q ∷ []) ∷ qss) ((p ∷ s ∷ ps) ∷ pss) d lt c h = absurd h.2.4
goes k a (x ∷ held) ((q ∷ r ∷ qs) ∷ qss) ((p ∷ s ∷ ps) ∷ pss) d lt c h = absurd (omega (arith, h.0, c))

room_in-words : (counts : List ℕ) (room words : ℕ) → room ≡ 8 * words → room_in counts room ≡ 8 * room_in counts words
room_in-words [] room words e = refl
room_in-words (count ∷ counts) room words e = e

-- what is left of a list whose first one was changed before it went
pub drop-set : (held : List Held) (y : Held) → drop 1 (set held 0 y) ≡ drop 1 held
drop-set [] y = refl
drop-set (x ∷ held) y = refl

pub Keeps-goes : (first freed room : ℕ) (places : List Place) (held : List Held) (k : Keeps first freed room places held) (d : Held) → 0 < length places → (get_or held 0 d).kept ≡ 1 → 0 < length held
    → (new : Keeps (first + 1) (freed + 1) (room_in (one_less (counts_of held)) room) (drop 1 places) (drop 1 held)) × (joined new.pieces_in ≡ drop 1 (joined k.pieces_in)) × (counts_of (drop 1 held) ≡ one_less (counts_of held))
Keeps-goes first freed room places held k d some c lt =
    let g = goes freed k.start held k.places_in k.pieces_in d lt c k.holds in
    let left = one_less (counts_of held) in (
      record {
        start = 0;
        places_in = drop 1 k.places_in;
        pieces_in = drop 1 k.pieces_in;
        are_places = ap (λ l. drop 1 l) k.are_places ∙ sym g.places;
        holds = g.holds;
        words = room_in left k.words;
        is_words = room_in-words left room k.words k.is_words;
        is_room = ap (λ j. room_in left j) k.is_room ∙ sym g.room;
        is_freed = omega (arith, k.is_freed);
        fits = omega (arith, k.fits, length-drop 1 places);
      },
      g.pieces,
      g.counts,
    )

-- what the value of the fields becomes
abbrev pub value : ℕ → List (List ℕ) → List ℕ → ℕ → Pieces
value first pieces counts room = record { first = first; pieces = pieces; counts = counts; room = room }

pub appended-fits : (old : Pieces) (p : List ℕ) → cost p ≤ old.room → value old.first (old.pieces ++ p ∷ []) (one_more old.counts) (old.room - cost p) ≡ appended old p
appended-fits old p le =
    sym (ap (λ t. value old.first (old.pieces ++ p ∷ []) (if t then one_more old.counts else old.counts ++ 1 ∷ []) ((if t then old.room else 65536) - cost p)) (le-leb (cost p) old.room le))

pub appended-begins : (old : Pieces) (p : List ℕ) → old.room < cost p → value old.first (old.pieces ++ p ∷ []) (old.counts ++ 1 ∷ []) (65536 - cost p) ≡ appended old p
appended-begins old p lt =
    sym (ap (λ t. value old.first (old.pieces ++ p ∷ []) (if t then one_more old.counts else old.counts ++ 1 ∷ []) ((if t then old.room else 65536) - cost p)) (lt-leb (cost p) old.room lt))

pub room-held : (held : List Held) → 0 < room_of held → 0 < length held
room-held [] lt = absurd (omega arith)
room-held (x ∷ held) lt = omega arith

-- what a push makes of the fields, in either bucket
pub record Pushed (first freed room : ℕ) (places : List Place) (held : List Held) (p : List ℕ) (counts : List ℕ) (old : List (List ℕ)) : Type 0 where
  pub keeps : Keeps first freed room places held
  pub pieces : pieces_of freed held places ≡ old ++ p ∷ []
  pub is_counts : counts_of held ≡ counts

module _ (first freed room : ℕ) (places : List Place) (held : List Held) (k : Keeps first freed room places held) (p : List ℕ) (small : length p ≤ 4096) (few : first + length places + 1 < 2 ^ 64) (cost' : ℕ) (is_cost : cost' ≡ cost p) where
  pub push-fits : (last : ℕ) (old new : Held) (all : List Place) → last ≡ length held → cost' ≤ room → old ≡ get_or held (last - 1) old → new.memory.bytes ≡ old.memory.bytes ++ stored p → new.kept ≡ old.kept + 1
      → all ≡ places ++ record { bucket = freed + (last - 1); offset = 65536 - room } ∷ [] → Pushed first freed (room - cost') all (set held (last - 1) new) p (one_more (counts_of held)) (pieces_of freed held places)
  push-fits last old new all n enough at b c e =
      let some : 0 < length held = room-held held (omega (arith, enough, is_cost, k.is_room)) in
      let one : length held ≡ suc (last - 1) = omega (arith, n, some) in
      let lt : last - 1 < length held = omega (arith, n, some) in
      let q : Place = record { bucket = freed + (last - 1); offset = 65536 - room } in
      let kept : (d : Held) → new.kept ≡ (get_or held (last - 1) d).kept + 1 = λ d. c ∙ ap (λ (h : Held). h.kept + 1) (at ∙ get-any held (last - 1) old d lt) in
      let bytes : new.memory.bytes ≡ bytes_of held (last - 1) ++ stored p = b ∙ ap (λ l. l ++ stored p) (ap (λ (h : Held). h.memory.bytes) at ∙ sym (bytes_of-get held (last - 1) old lt)) in
      let s = Keeps-extended first freed room places held k (last - 1) new q p one bytes kept refl refl small (omega (arith, enough, is_cost)) few in
      let F : ℕ → List Place → Type 0 = λ j qs. Pushed first freed (room - j) qs (set held (last - 1) new) p (one_more (counts_of held)) (pieces_of freed held places) in
      subst (λ j. F j all) (sym is_cost) (subst (λ qs. F (cost p) qs) (sym e) (record {
        keeps = s.0;
        pieces = shown-pieces first freed (room - cost p) (places ++ q ∷ []) (set held (last - 1) new) s.0 ∙ s.1 ∙ ap (λ l. l ++ p ∷ []) (sym (shown-pieces first freed room places held k));
        is_counts = counts_of-extended held (last - 1) new one kept;
      }))

  pub push-begins : (count : ℕ) (new : Held) (all : List Place) (buckets : List Held) → count ≡ length held → room < cost' → new.memory.bytes ≡ stored p → new.kept ≡ 1
      → all ≡ places ++ record { bucket = freed + count; offset = 0 } ∷ [] → buckets ≡ held ++ new ∷ [] → Pushed first freed (65536 - cost') all buckets p (counts_of held ++ 1 ∷ []) (pieces_of freed held places)
  push-begins count new all buckets n less b c e e' =
      let q : Place = record { bucket = freed + count; offset = 0 } in
      let s = Keeps-begun first freed room places held k new q p b c (ap (λ j. freed + j) n) refl small (omega (arith, less, is_cost)) few in
      let F : ℕ → List Place → List Held → Type 0 = λ j qs hs. Pushed first freed (65536 - j) qs hs p (counts_of held ++ 1 ∷ []) (pieces_of freed held places) in
      subst (λ j. F j all buckets) (sym is_cost) (subst (λ qs. F (cost p) qs buckets) (sym e) (subst (λ hs. F (cost p) (places ++ q ∷ []) hs) (sym e') (record {
        keeps = s.0;
        pieces = shown-pieces first freed (65536 - cost p) (places ++ q ∷ []) (held ++ new ∷ []) s.0 ∙ s.1 ∙ ap (λ l. l ++ p ∷ []) (sym (shown-pieces first freed room places held k));
        is_counts = counts_of-begun held new c;
      })))

-- what a pop makes of the fields, whether the bucket stays or goes
pub record Popped (first freed room : ℕ) (places : List Place) (held : List Held) (counts : List ℕ) (old : List (List ℕ)) : Type 0 where
  pub keeps : Keeps first freed room places held
  pub pieces : pieces_of freed held places ≡ drop 1 old
  pub is_counts : counts_of held ≡ counts

some-held : (k a : ℕ) (held : List Held) (qss : List (List Place)) (pss : List (List (List ℕ))) → Holds k a held qss pss → 0 < length (joined pss) → 0 < length held
some-held k a [] [] [] h lt = absurd (omega (arith, lt))
some-held k a [] (qs ∷ qss) pss h lt = absurd h
some-held k a [] [] (ps ∷ pss) h lt = absurd h
some-held k a (x ∷ held) qss pss h lt = omega arith

some-kept : (k a : ℕ) (held : List Held) (qss : List (List Place)) (pss : List (List (List ℕ))) (d : Held) → Holds k a held qss pss → 0 < length held → 0 < (get_or held 0 d).kept
some-kept k a [] qss pss d h lt = absurd (omega arith)
some-kept k a (x ∷ held) [] pss d h lt = absurd h
some-kept k a (x ∷ held) (qs ∷ qss) [] d h lt = absurd h
some-kept k a (x ∷ held) (qs ∷ qss) (ps ∷ pss) d h lt = omega (arith, h.0, h.1)

pub room_in-none : (held : List Held) (counts : List ℕ) (room : ℕ) → counts_of held ≡ counts → length held ≡ 0 → 0 ≡ room_in counts room
room_in-none [] counts room e n = ap (λ l. room_in l room) e
room_in-none (x ∷ held) counts room e n = absurd (omega (arith, n))

pub room_in-some : (held : List Held) (counts : List ℕ) (room : ℕ) → counts_of held ≡ counts → 0 < length held → room ≡ room_in counts room
room_in-some [] counts room e n = absurd (omega arith)
room_in-some (x ∷ held) counts room e n = ap (λ l. room_in l room) e

module _ (first freed room : ℕ) (places : List Place) (held : List Held) (k : Keeps first freed room places held) (some : 0 < length places) (old : Held) (at : old ≡ get_or held 0 old) where
  pub is_held : 0 < length held
  is_held = some-held freed k.start held k.places_in k.pieces_in k.holds (omega (arith, some, length-places first freed room places held k))

  pub is_kept : 0 < old.kept
  is_kept = omega (arith, some-kept freed k.start held k.places_in k.pieces_in old k.holds is_held, ap (λ (h : Held). h.kept) at)

  abbrev left : List ℕ
  left = one_less (counts_of held)

  pub pop-stays : (new : Held) (all : List Place) → new.memory.bytes ≡ old.memory.bytes → new.kept ≡ old.kept - 1 → (old.kept - 1 ≡ 0 → ⊥) → all ≡ drop 1 places
      → Popped (first + 1) freed room all (set held 0 new) left (pieces_of freed held places)
  pop-stays new all b c more e =
      let was : old.kept ≡ (get_or held 0 old).kept = ap (λ (h : Held). h.kept) at in
      let s = Keeps-stays first freed room places held k new old some (b ∙ ap (λ (h : Held). h.memory.bytes) at) (omega (arith, c, more, was)) (omega (arith, c, more)) is_held in
      subst (λ qs. Popped (first + 1) freed room qs (set held 0 new) left (pieces_of freed held places)) (sym e) (record {
        keeps = s.0;
        pieces = shown-pieces (first + 1) freed room (drop 1 places) (set held 0 new) s.0 ∙ s.1 ∙ ap (λ l. drop 1 l) (sym (shown-pieces first freed room places held k));
        is_counts = s.2;
      })

  pub pop-goes : (new : Held) (all : List Place) (buckets : List Held) → old.kept - 1 ≡ 0 → all ≡ drop 1 places → buckets ≡ drop 1 (set held 0 new)
      → Popped (first + 1) (freed + 1) (room_in left room) all buckets left (pieces_of freed held places)
  pop-goes new all buckets none e e' =
      let was : old.kept ≡ (get_or held 0 old).kept = ap (λ (h : Held). h.kept) at in
      let s = Keeps-goes first freed room places held k old some (omega (arith, none, is_kept, was)) is_held in
      subst (λ qs. Popped (first + 1) (freed + 1) (room_in left room) qs buckets left (pieces_of freed held places)) (sym e)
      (subst (λ hs. Popped (first + 1) (freed + 1) (room_in left room) (drop 1 places) hs left (pieces_of freed held places)) (sym (e' ∙ drop-set held new)) (record {
        keeps = s.0;
        pieces = shown-pieces (first + 1) (freed + 1) (room_in left room) (drop 1 places) (drop 1 held) s.0 ∙ s.1 ∙ ap (λ l. drop 1 l) (sym (shown-pieces first freed room places held k));
        is_counts = s.2;
      }))
