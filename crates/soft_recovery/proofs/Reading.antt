-- A log is read in one way.
use Rattle.std.proofs.Common.{◌≡◌, ℕ, ◌+◌, ◌-◌, ◌≤◌, true, List, [], ◌∷◌, ◌++◌, length, take, drop, refl, sym, ◌∙◌, ap, subst, arith, append_assoc, length-take, length-drop, take-append-drop}
use Rattle.std.specs.Prelude.{Option, Ok, Err}
use Rattle.std.proofs.lemmas.Bool.{and_from, and_parts}
use Rattle.std.proofs.lemmas.List.{append-nil}
use Rattle.std.proofs.lemmas.List.Concat.{flat_map-append, flat_map-cons}
use Rattle.std.proofs.Math.Seq.{take_at, drop_at, take-append-add, take_all}
use Rattle.index_derive.specs.declared.log.Entry.{Entry}
use Rattle.database_state.specs.Lawful.{is_lawful}
use Rattle.database_state.specs.State.{DatabaseState}
use Rattle.database_state.specs.Step.{state_after, state_after_all}
use Rattle.laws_engine.specs.LawfulSteps.{AreLawful}
use Rattle.laws_engine.specs.EngineState.{EngineState}
use Rattle.laws_engine.specs.HoldsState.{HoldsState}
use Rattle.log_grammar.specs.EntryBytes.{IsCut, entry_bytes, has_spelling}
use Rattle.log_grammar.specs.EntryStreams.{stream_bytes, stream_fits}
use Rattle.log_grammar.proofs.FrontLaws.{one_spelling}
use Rattle.log_grammar.proofs.Streams.{cut_is_not_whole, nothing_is_cut}
use Rattle.recovered_states.specs.Recovers.{MayCome}
use Rattle.soft_recovery.specs.Replaying.{HasMade, HasNoFront, IsNoLog, IsReplayed, TakesFront, TellsFront}
use Rattle.soft_recovery.specs.declared.fault.ReplayFault.{ReplayFault}
use Rattle.soft_recovery.proofs.Making.{KeepsSound, sound_after}

-- ---- entries one behind the other

stream_append : (xs ys : List Entry) → stream_bytes (xs ++ ys) ≡ stream_bytes xs ++ stream_bytes ys
stream_append xs ys = flat_map-append entry_bytes xs ys

stream_more : (x : Entry) (xs : List Entry) → stream_bytes (x ∷ xs) ≡ entry_bytes x ++ stream_bytes xs
stream_more x xs = flat_map-cons entry_bytes x xs

after_append : (state : DatabaseState) (xs ys : List Entry) → state_after_all state (xs ++ ys) ≡ state_after_all (state_after_all state xs) ys
after_append state [] ys = refl
after_append state (x ∷ xs) ys = after_append (state_after state x) xs ys

lawful_last : (state : DatabaseState) (xs ys : List Entry) → AreLawful state (xs ++ ys) → AreLawful (state_after_all state xs) ys
lawful_last state [] ys h = h
lawful_last state (x ∷ xs) ys h = lawful_last (state_after state x) xs ys h.1

spelled_last : (xs ys : List Entry) → stream_fits (xs ++ ys) ≡ true → stream_fits ys ≡ true
spelled_last [] ys h = h
spelled_last (x ∷ xs) ys h = spelled_last xs ys (and_parts (has_spelling x) (stream_fits (xs ++ ys)) h).1

come_last : (state : DatabaseState) (xs ys : List Entry) → MayCome state (xs ++ ys) → MayCome (state_after_all state xs) ys
come_last state xs ys come = record { lawful = lawful_last state xs ys come.lawful; spelled = spelled_last xs ys come.spelled }

-- the first entry, and what stands behind it
front : (x : Entry) (entries : List Entry) (rest : List ℕ) → stream_bytes (x ∷ entries) ++ rest ≡ entry_bytes x ++ (stream_bytes entries ++ rest)
front x entries rest = ap (λ (t : List ℕ). t ++ rest) (stream_more x entries) ∙ append_assoc (entry_bytes x) (stream_bytes entries) rest

-- ---- other readings

-- what was read begins every other reading
begins : (done entries : List Entry) (tail rest : List ℕ) → stream_fits done ≡ true → stream_fits entries ≡ true → IsCut rest → stream_bytes done ++ tail ≡ stream_bytes entries ++ rest
    → (behind : List Entry) × (entries ≡ done ++ behind) × (tail ≡ stream_bytes behind ++ rest)
begins [] entries tail rest fits spelled cut same = (entries, refl, same)
begins (made ∷ done) [] tail rest fits spelled cut same =
    absurd (cut_is_not_whole rest cut made (stream_bytes done ++ tail, (and_parts (has_spelling made) (stream_fits done) fits).0, sym same ∙ front made done tail))
begins (made ∷ done) (other ∷ entries) tail rest fits spelled cut same =
    let one = and_parts (has_spelling made) (stream_fits done) fits in
    let next = and_parts (has_spelling other) (stream_fits entries) spelled in
    let apart : entry_bytes made ++ (stream_bytes done ++ tail) ≡ entry_bytes other ++ (stream_bytes entries ++ rest) = sym (front made done tail) ∙ same ∙ front other entries rest in
    let is : made ≡ other = one_spelling (entry_bytes made ++ (stream_bytes done ++ tail)) made other (stream_bytes done ++ tail, one.0, refl) (stream_bytes entries ++ rest, next.0, apart) in
    let behind_same : stream_bytes done ++ tail ≡ stream_bytes entries ++ rest =
    sym (drop_at (entry_bytes made) (stream_bytes done ++ tail) (length (entry_bytes made)) refl)
    ∙ ap (λ (l : List ℕ). drop (length (entry_bytes made)) l) apart
    ∙ drop_at (entry_bytes other) (stream_bytes entries ++ rest) (length (entry_bytes made)) (ap (λ (e : Entry). length (entry_bytes e)) (sym is)) in
    let found = begins done entries tail rest one.1 next.1 cut behind_same in
    (found.0, ap (λ (l : List Entry). other ∷ l) found.1 ∙ ap (λ (e : Entry). e ∷ (done ++ found.0)) (sym is), found.2)

-- so where nothing may come next there is no other reading
pub no_log : (done : List Entry) (tail bytes : List ℕ) (state : DatabaseState) → bytes ≡ stream_bytes done ++ tail → stream_fits done ≡ true → HasNoFront tail (state_after_all state done) → IsNoLog bytes state
no_log done tail bytes state is fits none entries rest reads cut come =
    let found = begins done entries tail rest fits come.spelled cut (sym is ∙ reads) in
    by found.0 found.1 found.2
  where
    by : (behind : List Entry) → entries ≡ done ++ behind → tail ≡ stream_bytes behind ++ rest → ⊥
    by [] split tail_is = none.uncut (subst (λ (l : List ℕ). IsCut l) (sym tail_is) cut)
    by (made ∷ behind) split tail_is =
        let last = come_last state done (made ∷ behind) (subst (λ (l : List Entry). MayCome state l) split come) in
        none.none made (stream_bytes behind ++ rest, (and_parts (has_spelling made) (stream_fits behind) last.spelled).0, tail_is ∙ front made behind rest) last.lawful.0

-- ---- one entry more

lawful_more : (state : DatabaseState) (done : List Entry) (made : Entry) → AreLawful state done → is_lawful (state_after_all state done) made ≡ true → AreLawful state (done ++ made ∷ [])
lawful_more state [] made come h = (h, tt)
lawful_more state (x ∷ done) made come h = (come.0, lawful_more (state_after state x) done made come.1 h)

spelled_more : (done : List Entry) (made : Entry) → stream_fits done ≡ true → has_spelling made ≡ true → stream_fits (done ++ made ∷ []) ≡ true
spelled_more [] made fits h = and_from (has_spelling made) true h refl
spelled_more (x ∷ done) made fits h =
    let both = and_parts (has_spelling x) (stream_fits done) fits in
    and_from (has_spelling x) (stream_fits (done ++ made ∷ [])) both.0 (spelled_more done made both.1 h)

pub made_more : (old new : EngineState) (bytes : List ℕ) (at size : ℕ) (state : DatabaseState) → at ≤ length bytes → HasMade old bytes at state → TakesFront old new (drop at bytes) size → HasMade new bytes (at + size) state
made_more old new bytes at size state within made taken =
    let next = taken.is_made (state_after_all state made.done) made.holds in
    let more : List Entry = taken.made ∷ [] in
    let front_is : length (take at bytes) ≡ at = omega (arith, length-take at bytes, within) in
    let one : take size (drop at bytes) ≡ entry_bytes taken.made = ap (λ (l : List ℕ). take size l) taken.is ∙ take_at (entry_bytes taken.made) taken.behind size (sym taken.size_is) in
    let split : take (at + size) bytes ≡ take at bytes ++ take size (drop at bytes) =
    ap (λ (l : List ℕ). take (at + size) l) (sym (take-append-drop at bytes)) ∙ ap (λ (m : ℕ). take (m + size) (take at bytes ++ drop at bytes)) (sym front_is) ∙ take-append-add (take at bytes) (drop at bytes) size in
    let single : stream_bytes more ≡ entry_bytes taken.made = stream_more taken.made [] ∙ append-nil (entry_bytes taken.made) in
    record {
      done = made.done ++ more;
      is = stream_append made.done more ∙ ap (λ (l : List ℕ). stream_bytes made.done ++ l) single ∙ ap (λ (l : List ℕ). l ++ entry_bytes taken.made) made.is
          ∙ ap (λ (l : List ℕ). take at bytes ++ l) (sym one) ∙ sym split;
      come = record { lawful = lawful_more state made.done taken.made made.come.lawful next.lawful; spelled = spelled_more made.done taken.made made.come.spelled taken.spelled };
      holds = subst (λ (s : DatabaseState). HoldsState new s) (sym (after_append state made.done more)) next.holds;
    }

-- ---- the whole

-- what stands from a position on
pub rest_is : (at : ℕ) (bytes : List ℕ) → take (length bytes - at) (drop at bytes) ≡ drop at bytes
rest_is at bytes = take_all (length bytes - at) (drop at bytes) (omega (arith, length-drop at bytes))

abbrev pub rest_of : ℕ → List ℕ → List ℕ
rest_of at bytes = take (length bytes - at) (drop at bytes)

pub front_told : (old new : EngineState) (bytes : List ℕ) (at : ℕ) (taken is : Option ℕ) → taken ≡ is → TellsFront old new (rest_of at bytes) (Ok taken) → TellsFront old new (drop at bytes) (Ok is)
front_told old new bytes at taken is same tells =
    subst (λ (l : List ℕ). TellsFront old new l (Ok is)) (rest_is at bytes) (subst (λ (o : Option ℕ). TellsFront old new (rest_of at bytes) (Ok o)) same tells)

pub fault_told : (old new : EngineState) (bytes : List ℕ) (at : ℕ) (fault is : ReplayFault) → fault ≡ is → TellsFront old new (rest_of at bytes) (Err fault) → TellsFront old new (drop at bytes) (Err is)
fault_told old new bytes at fault is same tells =
    subst (λ (l : List ℕ). TellsFront old new l (Err is)) (rest_is at bytes) (subst (λ (f : ReplayFault). TellsFront old new (rest_of at bytes) (Err f)) same tells)

pub parts : (at : ℕ) (bytes : List ℕ) (done : List Entry) → stream_bytes done ≡ take at bytes → bytes ≡ stream_bytes done ++ drop at bytes
parts at bytes done is = sym (ap (λ (l : List ℕ). l ++ drop at bytes) is ∙ take-append-drop at bytes)

-- all that can be read was made
pub replayed_all : KeepsSound → (now : EngineState) (bytes : List ℕ) (at : ℕ) (state : DatabaseState) → HasMade now bytes at state → IsCut (drop at bytes) → IsReplayed now bytes state
replayed_all keeps now bytes at state made cut = record {
  entries = made.done;
  rest = drop at bytes;
  reads = parts at bytes made.done made.is;
  cut = cut;
  come = made.come;
  holds = made.holds;
  sound = sound_after keeps state made.done made.come.lawful made.come.spelled;
}

-- no byte is left
pub cut_at_end : (rest : List ℕ) → rest ≡ [] → IsCut rest
cut_at_end rest none = subst (λ (l : List ℕ). IsCut l) (sym none) nothing_is_cut
