-- Pieces of a script's calls that grow, and the lines that they remember.
use Rattle.std.proofs.Common.{◌≡◌, ◌<◌, ◌+◌, ◌-◌, ◌⊎◌, inl, inr, ⊎_elim, ℕ, zero, suc, List, [], ◌∷◌, ◌++◌, All, Some, get_or, length, replicate, set, take, refl, sym, ap, subst, ◌∙◌, arith}
use Rattle.std.specs.Prelude.{slice_get}
use Rattle.std.proofs.lemmas.List.{length_push, length-set, length-replicate, get_or-replicate, get_or_append_left, get_or_push, map-append, take_more}
use Rattle.std.proofs.Math.Seq.{take-length}
use Rattle.std.proofs.lemmas.Option.{slice_get_within, get_or_from_slice_get}
use Rattle.std.proofs.lemmas.List.Elements.{All-head, All-tail, All-push, All-weaker}
use Rattle.jet_base.specs.declared.ids.Session.{Session}
use Rattle.session_local.specs.declared.request.Request.{Request}
use Rattle.script_text.specs.Grammar.{line_request}
use Rattle.script_text.specs.Parsed.{call_of}
use Rattle.script_text.specs.Pieces.{no_call, calls_at, AreRead, IsOfLast}

abbrev pub Call : Type 0
Call = Session × Request

abbrev pub ArePlaced : List Call → List ℕ → Type 0
ArePlaced calls order = All (λ place. place < length calls) order

-- ---- one call more

placed_in_more : (calls : List Call) (call : Call) (order : List ℕ) → ArePlaced calls order → ArePlaced (calls ++ call ∷ []) order
placed_in_more calls call order placed =
    All-weaker (λ place. place < length calls) (λ place. place < length (calls ++ call ∷ [])) (λ place below. omega (arith, below, length_push calls call)) order placed

pub placed_with_new : (calls : List Call) (call : Call) (order : List ℕ) → ArePlaced calls order → ArePlaced (calls ++ call ∷ []) (order ++ length calls ∷ [])
placed_with_new calls call order placed =
    All-push (λ place. place < length (calls ++ call ∷ [])) order (length calls) (placed_in_more calls call order placed) (omega (arith, length_push calls call))

calls_at-more : (calls : List Call) (call : Call) (order : List ℕ) → ArePlaced calls order → calls_at (calls ++ call ∷ []) order ≡ calls_at calls order
calls_at-more calls call [] placed = refl
calls_at-more calls call (place ∷ order) placed =
    ap (λ first. first ∷ calls_at (calls ++ call ∷ []) order) (get_or_append_left calls (call ∷ []) no_call place (All-head (λ place. place < length calls) place order placed))
    ∙ ap (λ rest. get_or calls place no_call ∷ rest) (calls_at-more calls call order (All-tail (λ place. place < length calls) place order placed))

pub calls_at-new : (calls : List Call) (call : Call) (order : List ℕ) → ArePlaced calls order → calls_at (calls ++ call ∷ []) (order ++ length calls ∷ []) ≡ calls_at calls order ++ call ∷ []
calls_at-new calls call order placed =
    map-append (λ place. get_or (calls ++ call ∷ []) place no_call) order (length calls ∷ [])
    ∙ ap (λ front. front ++ get_or (calls ++ call ∷ []) (length calls) no_call ∷ []) (calls_at-more calls call order placed)
    ∙ ap (λ last. calls_at calls order ++ last ∷ []) (get_or_push calls call no_call (length calls) refl)

pub calls_at-again : (calls : List Call) (order : List ℕ) (place : ℕ) → calls_at calls (order ++ place ∷ []) ≡ calls_at calls order ++ get_or calls place no_call ∷ []
calls_at-again calls order place = map-append (λ place. get_or calls place no_call) order (place ∷ [])

-- ---- the lines that are remembered

-- none says anything
pub read-none : (calls : List Call) → AreRead calls (replicate 64 ([], 0))
read-none calls = λ line place found some.
    let nothing : List ℕ × ℕ = ([], 0) in
    let empty : nothing ≡ (line, place) = sym (get_or-replicate 64 found.0 nothing (line, place) (omega (arith, found.1, length-replicate 64 nothing))) ∙ found.2 in
    absurd (omega (arith, some, ap (λ pair. length pair.0) empty))

pub read-more : (calls : List Call) (call : Call) (recent : List (List ℕ × ℕ)) → AreRead calls recent → AreRead (calls ++ call ∷ []) recent
read-more calls call recent read = λ line place found some.
    let (below, said) = read line place found some in (
      omega (arith, below, length_push calls call),
      said ∙ ap (λ call. Some (call_of call)) (sym (get_or_append_left calls (call ∷ []) no_call place below)),
    )

-- what is in a list with one element set is that or was there
get_or-set : {X : Type 0} → (xs : List X) (slot i : ℕ) (y x : X) → i < length xs → get_or (set xs slot y) i x ≡ x → (x ≡ y) ⊎ (get_or xs i x ≡ x)
get_or-set [] slot i y x within is = absurd (omega (arith, within))
get_or-set (first ∷ xs) zero zero y x within is = inl (sym is)
get_or-set (first ∷ xs) zero (suc i) y x within is = inr is
get_or-set (first ∷ xs) (suc slot) zero y x within is = inr is
get_or-set (first ∷ xs) (suc slot) (suc i) y x within is = get_or-set xs slot i y x (omega (arith, within)) is

pub read-set : (calls : List Call) (recent : List (List ℕ × ℕ)) (slot place : ℕ) (line : List ℕ) → place < length calls → line_request line ≡ Some (call_of (get_or calls place no_call))
    → AreRead calls recent → AreRead calls (set recent slot (line, place))
read-set calls recent slot place line below said read = λ text at found some.
    let within : found.0 < length recent = omega (arith, found.1, length-set recent slot (line, place)) in
    ⊎_elim
    (λ is. (
      omega (arith, below, ap (λ pair. pair.1) is),
      ap (λ pair. line_request pair.0) is ∙ said ∙ ap (λ pair. Some (call_of (get_or calls pair.1 no_call))) (sym is),
    ))
    (λ was. read text at (found.0, within, was) some)
    (get_or-set recent slot found.0 (line, place) (text, at) within found.2)

-- the call of the last line
pub said_by_last : (calls : List Call) (order : List ℕ) (place : ℕ) (line : List ℕ) → slice_get order (length order - 1) ≡ Some place → IsOfLast line (calls_at calls order)
    → line_request line ≡ Some (call_of (get_or calls place no_call))
said_by_last calls order place line is said =
    let within : length order - 1 < length order = slice_get_within order (length order - 1) place is in
    let all : length order - 1 + 1 ≡ length order = omega (arith, within) in
    let split : order ≡ take (length order - 1) order ++ place ∷ [] =
    sym (take-length order) ∙ ap (λ n. take n order) (sym all) ∙ take_more order (length order - 1) place within
    ∙ ap (λ last. take (length order - 1) order ++ last ∷ []) (get_or_from_slice_get order (length order - 1) place place is) in
    said (calls_at calls (take (length order - 1) order)) (get_or calls place no_call)
    (ap (calls_at calls) split ∙ calls_at-again calls (take (length order - 1) order) place)

pub place_of_last : (calls : List Call) (order : List ℕ) (place : ℕ) → ArePlaced calls order → slice_get order (length order - 1) ≡ Some place → place < length calls
place_of_last calls order place placed is =
    subst (λ p. p < length calls) (get_or_from_slice_get order (length order - 1) place place is)
    (placed (length order - 1) place (slice_get_within order (length order - 1) place is))
