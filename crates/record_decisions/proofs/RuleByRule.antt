-- Refusals that are asked rule by rule: what a walk over the rules tells of all of them.
use Rattle.std.proofs.Common.{◌≡◌, ℕ, zero, suc, ◌+◌, ◌<◌, ◌≤◌, Bool, true, false, cond, List, [], ◌∷◌, ◌++◌, length, drop, get_or, Option, Some, None, filter, find, refl, sym, ap, subst, ◌∙◌}
use Rattle.std.specs.Prelude.{slice_get}
use Rattle.std.specs.List.{AllByRecursion, flat_map}
use Rattle.std.specs.Option.{option_or}
use Rattle.std.proofs.lemmas.List.{at_drop_all, at_drop_more}
use Rattle.std.proofs.lemmas.Option.{slice_get_read}
use Rattle.jet_base.specs.declared.replies.Jet.{Jet}
use Rattle.column_set.specs.Refusals.{Refusals, first_refusal}
use Rattle.engine_parts.specs.RefusalLaws.{first_refusal-append}

-- ---- the rule in hand

-- the rule at a place of a walk over the rules
pub placed : {X : Type 0} (items rules : List X) (i : ℕ) (rule : X) → items ≡ rules → i < length items → rule ≡ get_or items i rule → slice_get rules i ≡ Some rule
placed items rules i rule same low is = subst (λ l. slice_get l i ≡ Some rule) same (slice_get_read items (length items) i rule refl low is)

-- ---- the first refusal

-- the rules before a place refuse nothing
abbrev pub PassedTo : {X : Type 0} → (X → Refusals) → List X → ℕ → Type 0
PassedTo f rules i = first_refusal (flat_map f (drop i rules)) ≡ first_refusal (flat_map f rules)

at_rule : {X : Type 0} (f : X → Refusals) (rules : List X) (i : ℕ) (rule : X) (found : Option Jet) → i < length rules → rule ≡ get_or rules i rule → found ≡ first_refusal (f rule)
    → first_refusal (flat_map f (drop i rules)) ≡ option_or found (first_refusal (flat_map f (drop (i + 1) rules)))
at_rule f rules i rule found low is told =
    let later = flat_map f (drop (i + 1) rules) in
    at_drop_more (λ l. first_refusal (flat_map f l)) rules i rule low
    ∙ ap (λ r. first_refusal (f r ++ later)) (sym is)
    ∙ first_refusal-append (f rule) later
    ∙ ap (λ o. option_or o (first_refusal later)) (sym told)

pub refused-at : {X : Type 0} (f : X → Refusals) (rules : List X) (i : ℕ) (rule : X) (reply : Jet) → PassedTo f rules i → i < length rules → rule ≡ get_or rules i rule → Some reply ≡ first_refusal (f rule)
    → Some reply ≡ first_refusal (flat_map f rules)
refused-at f rules i rule reply passed low is told = sym (at_rule f rules i rule (Some reply) low is told) ∙ passed

pub passed-more : {X : Type 0} (f : X → Refusals) (rules : List X) (i : ℕ) (rule : X) → PassedTo f rules i → i < length rules → rule ≡ get_or rules i rule → None ≡ first_refusal (f rule) → PassedTo f rules (i + 1)
passed-more f rules i rule passed low is told = sym (at_rule f rules i rule None low is told) ∙ passed

pub passed-all : {X : Type 0} (f : X → Refusals) (rules : List X) (i : ℕ) → PassedTo f rules i → length rules ≤ i → None ≡ first_refusal (flat_map f rules)
passed-all f rules i passed end = sym (at_drop_all (λ l. first_refusal (flat_map f l)) rules i end) ∙ passed

-- ---- where nothing refuses

or-none : {X : Type 0} (a b : Option X) → option_or a b ≡ None → (a ≡ None) × (b ≡ None)
or-none None b e = (refl, e)
or-none (Some x) b e = cc

pub both-none : (front rest : Refusals) → first_refusal (front ++ rest) ≡ None → (first_refusal front ≡ None) × (first_refusal rest ≡ None)
both-none front rest e = or-none (first_refusal front) (first_refusal rest) (sym (first_refusal-append front rest) ∙ e)

-- no rule refuses
pub none-at : {X : Type 0} (f : X → Refusals) (rules : List X) (place : ℕ) (rule : X) → first_refusal (flat_map f rules) ≡ None → slice_get rules place ≡ Some rule → first_refusal (f rule) ≡ None
none-at f [] place rule none is = cc
none-at f (r ∷ rules) zero rule none is = sym (ap (λ o. elim o [ Some x ↦ first_refusal (f x) | None ↦ first_refusal (f rule) ]) is) ∙ (both-none (f r) (flat_map f rules) none).0
none-at f (r ∷ rules) (suc place) rule none is = none-at f rules place rule (both-none (f r) (flat_map f rules) none).1 is

-- ---- rules that pass a test

abbrev pub asked_where : {X : Type 0} → (X → Bool) → (X → Refusals) → X → Refusals
asked_where test f rule = cond (test rule) (f rule) []

pub filter-asked : {X : Type 0} (test : X → Bool) (f : X → Refusals) (rules : List X) → flat_map f (filter test rules) ≡ flat_map (asked_where test f) rules
filter-asked test f [] = refl
filter-asked test f (r ∷ rules) =
    elim (test r) as (λ b. flat_map f (cond b (r ∷ filter test rules) (filter test rules)) ≡ cond b (f r) [] ++ flat_map (asked_where test f) rules)
    [ true ↦ ap (λ l. f r ++ l) (filter-asked test f rules) | false ↦ filter-asked test f rules ]

-- ---- two ways to ask that are one

pub asked-alike : {X Y : Type 0} (f g : X → List Y) (rules : List X) → AllByRecursion (λ rule. f rule ≡ g rule) rules → flat_map f rules ≡ flat_map g rules
asked-alike f g [] same = refl
asked-alike f g (r ∷ rules) same = ap (λ l. l ++ flat_map f rules) same.0 ∙ ap (λ l. g r ++ l) (asked-alike f g rules same.1)

-- ---- a rule that is found

-- what each rule has, the first one has that passes a test
pub found-has : {X : Type 0} (P : X → Type 0) (test : X → Bool) (rules : List X) (rule : X) → ((place : ℕ) (r : X) → slice_get rules place ≡ Some r → P r) → find test rules ≡ Some rule → P rule
found-has P test [] rule each e = cc
found-has P test (r ∷ rules) rule each e = elim (test r) as (λ b. cond b (Some r) (find test rules) ≡ Some rule → P rule) [
  | true ↦ λ f. each 0 rule f
  | false ↦ λ f. found-has P test rules rule (λ place x is. each (suc place) x is) f
] e
