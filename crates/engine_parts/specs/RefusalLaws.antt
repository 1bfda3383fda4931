-- Refusals one behind the other.
use Rattle.std.proofs.Common.{◌≡◌, Bool, true, false, cond, [], ◌∷◌, ◌++◌, Option, Some, None, refl, sym, ap, ◌∙◌}
use Rattle.std.specs.Option.{option_or}
use Rattle.jet_base.specs.declared.replies.Jet.{Jet}
use Rattle.column_set.specs.Refusals.{Refusals, first_refusal}
use Rattle.session_local.specs.Outcome.{CallInputs, Outcome, refused, unless, unless_refused}

pub first_refusal-append : (front rest : Refusals) → first_refusal (front ++ rest) ≡ option_or (first_refusal front) (first_refusal rest)
first_refusal-append [] rest = refl
first_refusal-append (refusal ∷ front) rest =
    elim refusal.0 as (λ b. cond b (Some refusal.1) (first_refusal (front ++ rest)) ≡ option_or (cond b (Some refusal.1) (first_refusal front)) (first_refusal rest))
    [ true ↦ refl | false ↦ first_refusal-append front rest ]

-- what the front refuses, all of it refuses
pub refused-front : (front rest : Refusals) (reply : Jet) (found : Option Jet) → found ≡ first_refusal front → found ≡ Some reply → Some reply ≡ first_refusal (front ++ rest)
refused-front front rest reply found told is = sym (first_refusal-append front rest ∙ ap (λ o. option_or o (first_refusal rest)) (sym told ∙ is))

-- where the front refuses nothing, the rest decides
pub refused-rest : (front rest : Refusals) (found decided : Option Jet) → found ≡ first_refusal front → found ≡ None → decided ≡ first_refusal rest → decided ≡ first_refusal (front ++ rest)
refused-rest front rest found decided told is rested = rested ∙ sym (first_refusal-append front rest ∙ ap (λ o. option_or o (first_refusal rest)) (sym told ∙ is))

-- a single refusal in front
pub passed-one : (test : Bool) (reply : Jet) (rest : Refusals) (decided : Option Jet) → test ≡ false → decided ≡ first_refusal rest → decided ≡ first_refusal ((test, reply) ∷ rest)
passed-one test reply rest decided is rested = rested ∙ sym (ap (λ b. cond b (Some reply) (first_refusal rest)) is)

pub stopped-one : (test : Bool) (reply : Jet) (rest : Refusals) → test ≡ true → Some reply ≡ first_refusal ((test, reply) ∷ rest)
stopped-one test reply rest is = sym (ap (λ b. cond b (Some reply) (first_refusal rest)) is)

-- ---- outcomes

pub unless-refused : (asked : CallInputs) (refusals : Refusals) (next : Unit {0} → Outcome) (reply : Jet) → first_refusal refusals ≡ Some reply → unless asked refusals next ≡ refused asked reply
unless-refused asked refusals next reply is = ap (λ o. unless_refused asked o next) is

pub unless-passed : (asked : CallInputs) (refusals : Refusals) (next : Unit {0} → Outcome) → first_refusal refusals ≡ None → unless asked refusals next ≡ next tt
unless-passed asked refusals next is = ap (λ o. unless_refused asked o next) is
