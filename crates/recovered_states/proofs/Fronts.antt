-- Files that have the bytes of a log up to some position recover to the state after the entries up to there.
use Rattle.std.proofs.Common.{◌≡◌, ◌⊎◌, inl, inr, ⊎_elim, ℕ, zero, suc, ◌+◌, ◌-◌, ◌≤◌, ◌<◌, Bool, true, ◌&&◌, List, [], ◌∷◌, ◌++◌, length, take, drop, Option, refl, sym, ◌∙◌, ap, subst, arith, append_assoc, length-append, take-append-drop, length-take, add-one}
use Rattle.std.specs.List.{flat_map, list_all}
use Rattle.std.proofs.lemmas.Bool.{and_from, and_parts, cases_lt}
use Rattle.std.proofs.lemmas.List.{append-nil, take-append-le}
use Rattle.std.proofs.lemmas.List.Concat.{flat_map-append, flat_map-cons}
use Rattle.std.proofs.Math.Seq.{take-append-add, take_at, drop_at}
use Rattle.index_derive.specs.declared.log.Entry.{Entry}
use Rattle.database_state.specs.State.{DatabaseState}
use Rattle.database_state.specs.Step.{state_after, state_after_all}
use Rattle.laws_engine.specs.LawfulSteps.{AreLawful}
use Rattle.laws_images.specs.Settled.{AreAlike}
use Rattle.log_grammar.specs.EntryBytes.{IsCut, entry_bytes, has_spelling}
use Rattle.log_grammar.specs.EntryStreams.{HoldsFirst, stream_bytes, stream_fits}
use Rattle.log_grammar.proofs.Streams.{cut_is_not_whole, front_of_stream}
use Rattle.log_keeper.specs.Keeping.{between}
use Rattle.loggable_steps.specs.Replays.{closed}
use Rattle.store_core.specs.Stands.{Checkpoint}
use Rattle.recovered_states.specs.Recovers.{Covers, IsHeld, MayCome, Reaches, RecoversFrom, ShowsState}
use Rattle.recovered_states.proofs.Alike.{AlikeLaws, comes, goes, held_after}

-- ---- entries one behind the other

pub stream_append : (xs ys : List Entry) → stream_bytes (xs ++ ys) ≡ stream_bytes xs ++ stream_bytes ys
stream_append xs ys = flat_map-append entry_bytes xs ys

pub stream_more : (x : Entry) (xs : List Entry) → stream_bytes (x ∷ xs) ≡ entry_bytes x ++ stream_bytes xs
stream_more x xs = flat_map-cons entry_bytes x xs

pub after_append : (state : DatabaseState) (xs ys : List Entry) → state_after_all state (xs ++ ys) ≡ state_after_all (state_after_all state xs) ys
after_append state [] ys = refl
after_append state (x ∷ xs) ys = after_append (state_after state x) xs ys

lawful_first : (state : DatabaseState) (xs ys : List Entry) → AreLawful state (xs ++ ys) → AreLawful state xs
lawful_first state [] ys h = tt
lawful_first state (x ∷ xs) ys h = (h.0, lawful_first (state_after state x) xs ys h.1)

lawful_last : (state : DatabaseState) (xs ys : List Entry) → AreLawful state (xs ++ ys) → AreLawful (state_after_all state xs) ys
lawful_last state [] ys h = h
lawful_last state (x ∷ xs) ys h = lawful_last (state_after state x) xs ys h.1

spelled_first : (xs ys : List Entry) → stream_fits (xs ++ ys) ≡ true → stream_fits xs ≡ true
spelled_first [] ys h = refl
spelled_first (x ∷ xs) ys h = let both = and_parts (has_spelling x) (stream_fits (xs ++ ys)) h in and_from (has_spelling x) (stream_fits xs) both.0 (spelled_first xs ys both.1)

pub spelled_last : (xs ys : List Entry) → stream_fits (xs ++ ys) ≡ true → stream_fits ys ≡ true
spelled_last [] ys h = h
spelled_last (x ∷ xs) ys h = spelled_last xs ys (and_parts (has_spelling x) (stream_fits (xs ++ ys)) h).1

pub come_first : (state : DatabaseState) (xs ys : List Entry) → MayCome state (xs ++ ys) → MayCome state xs
come_first state xs ys come = record { lawful = lawful_first state xs ys come.lawful; spelled = spelled_first xs ys come.spelled }

pub come_last : (state : DatabaseState) (xs ys : List Entry) → MayCome state (xs ++ ys) → MayCome (state_after_all state xs) ys
come_last state xs ys come = record { lawful = lawful_last state xs ys come.lawful; spelled = spelled_last xs ys come.spelled }

-- ---- cut bytes

-- what is cut from an entry does not begin with a whole one
no_further : (rest back more : List ℕ) (made : Entry) → has_spelling made ≡ true → IsCut rest → rest ++ back ≡ entry_bytes made ++ more → length rest < length (entry_bytes made)
no_further rest back more made spelled cut same = ⊎_elim (λ (lt : length rest < length (entry_bytes made)). lt)
    (λ (ge : length (entry_bytes made) ≤ length rest).
    let n = length (entry_bytes made) in
    let front : take n rest ≡ entry_bytes made = sym (take-append-le n rest back ge) ∙ ap (λ (l : List ℕ). take n l) same ∙ take_at (entry_bytes made) more n refl in
    absurd (cut_is_not_whole rest cut made (drop n rest, spelled, sym (take-append-drop n rest) ∙ ap (λ (l : List ℕ). l ++ drop n rest) front)))
    (cases_lt (length rest) (length (entry_bytes made)))

-- entries behind the first ones, the bytes of which are not all there
behind_first : (first others : List Entry) (rest back : List ℕ) (m : ℕ) → stream_fits others ≡ true → IsCut rest
    → stream_bytes first ++ (rest ++ back) ≡ stream_bytes (first ++ others)
    → length first < m → m ≤ length (first ++ others) → length (stream_bytes first ++ rest) < length (stream_bytes (take m (first ++ others)))
behind_first first [] rest back m spelled cut same lt most = absurd (omega (arith, lt, most, length-append first []))
behind_first first (made ∷ others) rest back m spelled cut same lt most =
    let j : ℕ = m - (length first + 1) in
    let m_is : m ≡ length first + (j + 1) = omega (arith, lt) in
    let taken : take m (first ++ made ∷ others) ≡ first ++ made ∷ take j others =
    ap (λ (n : ℕ). take n (first ++ made ∷ others)) m_is ∙ take-append-add first (made ∷ others) (j + 1) ∙ ap (λ (l : List Entry). first ++ l) (take_more_of j) in
    let bytes_are : stream_bytes (take m (first ++ made ∷ others)) ≡ stream_bytes first ++ (entry_bytes made ++ stream_bytes (take j others)) =
    ap (λ (l : List Entry). stream_bytes l) taken ∙ stream_append first (made ∷ take j others) ∙ ap (λ (l : List ℕ). stream_bytes first ++ l) (stream_more made (take j others)) in
    let behind : rest ++ back ≡ entry_bytes made ++ stream_bytes others =
    sym (drop_at (stream_bytes first) (rest ++ back) (length (stream_bytes first)) refl)
    ∙ ap (λ (l : List ℕ). drop (length (stream_bytes first)) l) (same ∙ stream_append first (made ∷ others))
    ∙ drop_at (stream_bytes first) (stream_bytes (made ∷ others)) (length (stream_bytes first)) refl
    ∙ stream_more made others in
    let short = no_further rest back (stream_bytes others) made (and_parts (has_spelling made) (stream_fits others) spelled).0 cut behind in
    omega (
      arith,
      short,
      ap length bytes_are,
      length-append (stream_bytes first) rest,
      length-append (stream_bytes first) (entry_bytes made ++ stream_bytes (take j others)),
      length-append (entry_bytes made) (stream_bytes (take j others)),
    )
  where
    take_more_of : (j : ℕ) → take (j + 1) (made ∷ others) ≡ made ∷ take j others
    take_more_of j = ap (λ (n : ℕ). take n (made ∷ others)) (add-one j)

-- ---- what is recovered

-- what a checkpoint shows is held
abbrev pub ShowsHeld : Type 0
ShowsHeld = (checkpoint : Option Checkpoint) (state : DatabaseState) → ShowsState checkpoint state → IsHeld state

abbrev pub Closes : Type 0
Closes = (one other : DatabaseState) → AreAlike one other → closed one ≡ closed other

-- the first entries of which so many have their bytes behind a checkpoint
pub record ReachesFrom (opening : DatabaseState) (entries : List Entry) (checkpoint : Option Checkpoint) (base at : ℕ) : Type 0 where
  pub k : ℕ
  pub within : k ≤ length entries
  pub reaches : Reaches entries at k
  pub from : RecoversFrom checkpoint (between base at (stream_bytes entries)) (closed (state_after_all opening (take k entries)))

module _ (laws : AlikeLaws) (shows_held : ShowsHeld) (closes : Closes) (opening : DatabaseState) (held : IsHeld opening) (entries : List Entry) (come : MayCome opening entries) where
  pub front_recovers : (checkpoint : Option Checkpoint) (base at : ℕ) → Covers opening entries checkpoint base → base ≤ at → at ≤ length (stream_bytes entries) → ReachesFrom opening entries checkpoint base at
  front_recovers checkpoint base at covers from within =
      let before = covers.before in
      let behind = covers.behind in
      let a : ℕ = at - base in
      let bytes : List ℕ = stream_bytes behind in
      let whole_is : stream_bytes entries ≡ stream_bytes before ++ bytes = ap (λ (l : List Entry). stream_bytes l) covers.split ∙ stream_append before behind in
      let front : List ℕ = take a bytes in
      let front_is : between base at (stream_bytes entries) ≡ front =
      ap (λ (l : List ℕ). take a l) (ap (λ (l : List ℕ). drop base l) whole_is ∙ drop_at (stream_bytes before) bytes base (sym covers.base_is)) in
      let come_all : MayCome opening (before ++ behind) = subst (λ (l : List Entry). MayCome opening l) covers.split come in
      let come_behind : MayCome (state_after_all opening before) behind = come_last opening before behind come_all in
      let held_before : IsHeld (state_after_all opening before) = held_after laws opening before held (come_first opening before behind come_all) in
      let first_of : HoldsFirst front behind = front_of_stream behind front (drop a bytes) come_behind.spelled (sym (take-append-drop a bytes)) in
      let first = first_of.0 in
      let others = first_of.1 in
      let rest = first_of.2 in
      let k : ℕ = length before + length first in
      let split : entries ≡ before ++ (first ++ others) = covers.split ∙ ap (λ (l : List Entry). before ++ l) first_of.3 in
      let taken : take k entries ≡ before ++ first =
      ap (λ (l : List Entry). take k l) split ∙ take-append-add before (first ++ others) (length first) ∙ ap (λ (l : List Entry). before ++ l) (take_at first others (length first) refl) in
      let counted : length entries ≡ length before + (length first + length others) = omega (arith, ap length split, length-append before (first ++ others), length-append first others) in
      let come_split : MayCome (state_after_all opening before) (first ++ others) = subst (λ (l : List Entry). MayCome (state_after_all opening before) l) first_of.3 come_behind in
      let come_first_of : MayCome (state_after_all opening before) first = come_first (state_after_all opening before) first others come_split in
      let length_front : length front ≡ a = omega (arith, length-take a bytes, ap length whole_is, length-append (stream_bytes before) bytes, covers.base_is, from, within) in
      let whole_first : stream_bytes first ++ (rest ++ drop a bytes) ≡ stream_bytes (first ++ others) =
      sym (append_assoc (stream_bytes first) rest (drop a bytes)) ∙ ap (λ (l : List ℕ). l ++ drop a bytes) (sym first_of.4) ∙ take-append-drop a bytes ∙ ap (λ (l : List Entry). stream_bytes l) first_of.3 in
      let further : (m : ℕ) → m ≤ length entries → length (stream_bytes (take m entries)) ≤ at → k < m → ⊥ =
      λ m most short lt.
      let n : ℕ = m - length before in
      let taken_m : take m entries ≡ before ++ take n (first ++ others) =
      ap (λ (l : List Entry). take m l) split ∙ ap (λ (i : ℕ). take i (before ++ (first ++ others))) (let same : m ≡ length before + n = omega (arith, lt) in same) ∙ take-append-add before (first ++ others) n in
      let longer = behind_first first others rest (drop a bytes) n (spelled_last first others come_split.spelled) first_of.5 whole_first (omega (arith, lt)) (omega (arith, counted, most, length-append first others)) in
      omega (
        arith,
        longer,
        short,
        ap (λ (l : List Entry). length (stream_bytes l)) taken_m,
        ap length (stream_append before (take n (first ++ others))),
        length-append (stream_bytes before) (stream_bytes (take n (first ++ others))),
        covers.base_is,
        ap length first_of.4,
        length_front,
        from,
      ) in
      let held_shown : IsHeld covers.shown = shows_held checkpoint covers.shown covers.shows in
      record {
        k = k;
        within = omega (arith, counted);
        reaches = λ m most short. ⊎_elim (λ (lt : k < m). absurd (further m most short lt)) (λ (le : m ≤ k). le) (cases_lt k m);
        from = record {
          shown = covers.shown;
          shows = covers.shows;
          entries = first;
          rest = rest;
          reads = front_is ∙ first_of.4;
          cut = first_of.5;
          come = comes laws (state_after_all opening before) covers.shown first held_before held_shown covers.alike come_first_of;
          is = ap (λ (l : List Entry). closed (state_after_all opening l)) taken ∙ ap closed (after_append opening before first)
              ∙ closes (state_after_all (state_after_all opening before) first) (state_after_all covers.shown first) (goes laws (state_after_all opening before) covers.shown first held_before held_shown covers.alike come_first_of);
        };
      }
