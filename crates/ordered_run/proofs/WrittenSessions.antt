-- The sessions of a script, one of which is written.
use Rattle.std.proofs.Common.{◌≡◌, ◌<◌, ◌≤◌, ℕ, List, length, sym, ap, subst, ◌∙◌, arith}
use Rattle.std.proofs.lemmas.List.{get_or-set_same, get_or-set_other, length-set}
use Rattle.session_local.specs.SessionSide.{SessionSide}
use Rattle.ordered_run.specs.declared.sessions.RunSession.{RunSession}
use Rattle.ordered_run.specs.Sessions.{fresh_session, last_label, session_at, HasPlace, OthersStay, with_local, with_last}

-- a label has its place
pub place_of : (sessions : List RunSession) (label : ℕ) → label ≤ last_label → HasPlace sessions last_label → HasPlace sessions label
place_of sessions label within places = omega arith

-- the sessions with another in the place of one
abbrev pub IsPut : List RunSession → List RunSession → ℕ → RunSession → Type 0
IsPut before after label made = (session_at after label ≡ made) × OthersStay label before after × (length after ≡ length before)

pub put-local : (sessions : List RunSession) (label : ℕ) (local : SessionSide) → HasPlace sessions label
    → IsPut sessions (with_local sessions label local) label (record (session_at sessions label) { local = local })
put-local sessions label local place =
    let made = record (session_at sessions label) { local = local } in (
      get_or-set_same sessions label made (fresh_session label) place,
      λ other apart. get_or-set_other sessions label other made (fresh_session other) apart,
      length-set sessions label made,
    )

pub put-last : (sessions : List RunSession) (label last : ℕ) → HasPlace sessions label
    → IsPut sessions (with_last sessions label last) label (record (session_at sessions label) { last = last })
put-last sessions label last place =
    let made = record (session_at sessions label) { last = last } in (
      get_or-set_same sessions label made (fresh_session label) place,
      λ other apart. get_or-set_other sessions label other made (fresh_session other) apart,
      length-set sessions label made,
    )

-- a place stays
pub place-put : (before after : List RunSession) (label place : ℕ) (made : RunSession) → IsPut before after label made → HasPlace before place → HasPlace after place
place-put before after label place made put has = subst (λ (n : ℕ). place < n) (sym put.2) has

-- one write behind another
pub put-twice : (before between after : List RunSession) (label : ℕ) (first second : RunSession) → IsPut before between label first → IsPut between after label second → IsPut before after label second
put-twice before between after label first second one two = (two.0, λ other apart. two.1 other apart ∙ one.1 other apart, two.2 ∙ one.2)

-- the own state that was written is found again
pub found_again : (sessions : List RunSession) (label : ℕ) (made found : SessionSide) → HasPlace sessions label → found ≡ (session_at (with_local sessions label made) label).local → found ≡ made
found_again sessions label made found place is = is ∙ ap (λ (s : RunSession). s.local) (put-local sessions label made place).0

pub place-with_local : (sessions : List RunSession) (label place : ℕ) (made : SessionSide) → HasPlace sessions label → HasPlace sessions place → HasPlace (with_local sessions label made) place
place-with_local sessions label place made own has =
    place-put sessions (with_local sessions label made) label place (record (session_at sessions label) { local = made }) (put-local sessions label made own) has

-- an own state that is written, and then the number
pub put-read : (sessions : List RunSession) (label last : ℕ) (made : SessionSide) → HasPlace sessions label
    → IsPut sessions (with_last (with_local sessions label made) label last) label (record { local = made; last = last })
put-read sessions label last made place =
    let one = with_local sessions label made in
    let all = with_last one label last in
    let first = put-local sessions label made place in
    let second = put-last one label last (place-with_local sessions label label made place place) in
    let put = put-twice sessions one all label (record (session_at sessions label) { local = made }) (record (session_at one label) { last = last }) first second in
    (put.0 ∙ ap (λ (s : RunSession). record s { last = last }) first.0, put.1, put.2)

-- an own state that is written twice, and then the number
pub put-all : (sessions : List RunSession) (label last : ℕ) (made left : SessionSide) → HasPlace sessions label
    → IsPut sessions (with_last (with_local (with_local sessions label made) label left) label last) label (record { local = left; last = last })
put-all sessions label last made left place =
    let one = with_local sessions label made in
    let two = with_local one label left in
    let all = with_last two label last in
    let here = place-with_local sessions label label made place place in
    let first = put-local sessions label made place in
    let second = put-local one label left here in
    let third = put-last two label last (place-with_local one label label left here here) in
    let put = put-twice sessions two all label (record (session_at one label) { local = left }) (record (session_at two label) { last = last })
    (put-twice sessions one two label (record (session_at sessions label) { local = made }) (record (session_at one label) { local = left }) first second) third in
    (put.0 ∙ ap (λ (s : RunSession). record s { last = last }) second.0, put.1, put.2)
