-- The whole live part, and the same without undone changes.
use Rattle.std.proofs.Common.{◌≡◌, ℕ, ◌^◌, ◌≤◌, Bool, true, false, cond, ltb, leb, eqb, not, ◌&&◌, List, [], ◌∷◌, ◌++◌, length, filter, Option, Some, None, option_map, refl, sym, ap, subst, ◌∙◌, arith}
use Rattle.std.specs.Int.{w32, to_le_bytes}
use Rattle.std.specs.List.{flat_map, list_all}
use Rattle.std.proofs.lemmas.Bool.{ltb-true, lt-ltb, and_parts, and_from, eqb-true}
use Rattle.std.proofs.lemmas.List.{append-nil}
use Rattle.common_lemmas.proofs.Lists.{length-filter, all_filtered}
use Rattle.column_set.specs.NumberReading.{◌>>=◌, IsBytes, bind_some, passed_some, some_is}
use Rattle.database_state.specs.State.{is_undone}
use Rattle.log_grammar.specs.EntryReading.{both}
use Rattle.log_grammar.proofs.Laws.{Laws, both_laws}
use Rattle.version_cleanup.specs.LiveSessions.{LiveState}
use Rattle.version_store.specs.HeldChanges.{HeldChange}
use Rattle.live_part.specs.LiveBytes.{LivePart, held_bytes, held_fits, label_of, live_bytes, live_fits, number_of, rises, session_bytes, session_fits, standing, without_undone}
use Rattle.live_part.specs.LiveReading.{changes_at, live_in, live_read, sessions_at, whole_in}
use Rattle.live_part.proofs.SessionLaws.{sessions_laws}
use Rattle.live_part.proofs.HeldLaws.{changes_laws}

abbrev list_bytes : {A : Type 0} → (A → List ℕ) → List A → List ℕ
list_bytes w xs = to_le_bytes w32 (length xs) ++ flat_map w xs

abbrev sessions_fit : List LiveState → Bool
sessions_fit xs = leb (length xs) 64 && (rises label_of 0 xs && list_all session_fits xs)

abbrev changes_fit : List HeldChange → Bool
changes_fit xs = ltb (length xs) (2 ^ 32) && (rises number_of 0 xs && list_all held_fits xs)

parts_laws : Laws (λ (x : List LiveState × List HeldChange). list_bytes session_bytes x.0 ++ list_bytes held_bytes x.1) (λ x. sessions_fit x.0 && changes_fit x.1) (both sessions_at (λ sessions. changes_at))
parts_laws = both_laws (list_bytes session_bytes) sessions_fit sessions_at (λ sessions. list_bytes held_bytes) (λ sessions. changes_fit) (λ sessions. changes_at) sessions_laws (λ sessions. changes_laws)

abbrev end_of : (List LiveState × List HeldChange) × List ℕ → Option LivePart
end_of x = cond (eqb (length x.1) 0) (Some (live_read x.0)) None

pub whole_again : (live : LivePart) → live_fits live ≡ true → whole_in (live_bytes live) ≡ Some live
unfolding whole_in
whole_again live h =
    ap (λ (b : List ℕ). both sessions_at (λ sessions. changes_at) b >>= end_of) (sym (append-nil (live_bytes live)))
    ∙ ap (λ (o : Option ((List LiveState × List HeldChange) × List ℕ)). o >>= end_of) (parts_laws.again (live.sessions, live.held) [] h)

nothing : (xs : List ℕ) → length xs ≡ 0 → xs ≡ []
nothing [] e = refl
nothing (x ∷ xs) e = absurd (omega arith)

pub whole_takes : (bytes : List ℕ) (live : LivePart) → IsBytes bytes → whole_in bytes ≡ Some live → (bytes ≡ live_bytes live) × (live_fits live ≡ true)
unfolding whole_in
whole_takes bytes live is_bytes e =
    let a = bind_some (both sessions_at (λ sessions. changes_at) bytes) end_of live e in
    let p = passed_some (eqb (length a.0.1) 0) (Some (live_read a.0.0)) live a.2 in
    let t = parts_laws.takes bytes a.0 is_bytes a.1 in
    let none : a.0.1 ≡ [] = nothing a.0.1 (eqb-true _ _ p.0) in
    subst (λ (y : LivePart). (bytes ≡ live_bytes y) × (live_fits y ≡ true)) (some_is (live_read a.0.0) live p.1)
    (t.0.parts ∙ ap (λ (rest : List ℕ). live_bytes (live_read a.0.0) ++ rest) none ∙ append-nil (live_bytes (live_read a.0.0)), t.1)

-- ---- without undone changes

abbrev stands : HeldChange → Bool
stands h = not (is_undone h.status)

rises-lower : {A : Type 0} (key : A → ℕ) (low lower : ℕ) (xs : List A) → lower ≤ low → rises key low xs ≡ true → rises key lower xs ≡ true
rises-lower key low lower [] le h = refl
rises-lower key low lower (x ∷ xs) le h =
    let p = and_parts (ltb low (key x)) (rises key (key x) xs) h in
    and_from (ltb lower (key x)) (rises key (key x) xs) (lt-ltb lower (key x) (omega (arith, le, ltb-true low (key x) p.0))) p.1

rises-filter : {A : Type 0} (key : A → ℕ) (p : A → Bool) (low : ℕ) (xs : List A) → rises key low xs ≡ true → rises key low (filter p xs) ≡ true
rises-filter key p low [] h = refl
rises-filter {A = A} key p low (x ∷ xs) h =
    let parts = and_parts (ltb low (key x)) (rises key (key x) xs) h in
    at (p x) (and_from (ltb low (key x)) (rises key (key x) (filter p xs)) parts.0 (rises-filter key p (key x) xs parts.1))
    (rises-filter key p low xs (rises-lower key (key x) low xs (omega (arith, ltb-true low (key x) parts.0)) parts.1))
  where
    at : (b : Bool) → rises key low (x ∷ filter p xs) ≡ true → rises key low (filter p xs) ≡ true → rises key low (cond b (x ∷ filter p xs) (filter p xs)) ≡ true
    at true taken left = taken
    at false taken left = left

filter-again : {A : Type 0} (p : A → Bool) (xs : List A) → filter p (filter p xs) ≡ filter p xs
filter-again p [] = refl
filter-again {A = A} p (x ∷ xs) = at (p x) refl (filter-again p xs)
  where
    at : (b : Bool) → p x ≡ b → filter p (filter p xs) ≡ filter p xs → filter p (cond b (x ∷ filter p xs) (filter p xs)) ≡ cond b (x ∷ filter p xs) (filter p xs)
    at true e rest = ap (λ (b : Bool). cond b (x ∷ filter p (filter p xs)) (filter p (filter p xs))) e ∙ ap (λ (ys : List A). x ∷ ys) rest
    at false e rest = rest

pub settled_fits : (live : LivePart) → live_fits live ≡ true → live_fits (without_undone live) ≡ true
settled_fits live h =
    let p = and_parts (sessions_fit live.sessions) (changes_fit live.held) h in
    let q = and_parts (ltb (length live.held) (2 ^ 32)) (rises number_of 0 live.held && list_all held_fits live.held) p.1 in
    let r = and_parts (rises number_of 0 live.held) (list_all held_fits live.held) q.1 in
    let few : ltb (length (standing live.held)) (2 ^ 32) ≡ true = lt-ltb _ _ (omega (arith, length-filter stands live.held, ltb-true (length live.held) (2 ^ 32) q.0)) in
    and_from (sessions_fit live.sessions) (changes_fit (standing live.held)) p.0
    (and_from _ _ few (and_from _ _ (rises-filter number_of stands 0 live.held r.0) (all_filtered held_fits stands live.held r.1)))

pub settled_again : (live : LivePart) → live_fits live ≡ true → live_in (live_bytes (without_undone live)) ≡ Some (without_undone live)
settled_again live h =
    ap (λ (o : Option LivePart). option_map without_undone o) (whole_again (without_undone live) (settled_fits live h))
    ∙ ap (λ (held : List HeldChange). let y : LivePart = record { sessions = live.sessions; held = held } in Some y) (filter-again stands live.held)
