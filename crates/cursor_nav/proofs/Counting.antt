-- What a count comes to.
use Rattle.std.proofs.Common.{◌≡◌, ℕ, ◌<◌, ◌≤◌, ◌^◌, min, Bool, List, Option, Some, None, Ok, refl, arith}
use Rattle.std.specs.Prelude.{unwrap_or}
use Rattle.common_lemmas.proofs.Booleans.{by_test}
use Rattle.jet_base.specs.declared.replies.Jet.TheVariants as jet
use Rattle.index_derive.specs.declared.entries.Place.{Place}
use Rattle.index_derive.specs.declared.entries.Place.TheVariants.{Before, After, On, Gap}
use Rattle.cursor_nav.specs.declared.cursor.Moved.{Moved}
use Rattle.cursor_nav.specs.Navigation.{at_most, current_answer, answer_of}

pub at_most_is : (most : Option ℕ) (counted all : ℕ) → counted ≤ all → at_most most all < 2 ^ 64 → min (unwrap_or most 18446744073709551615) counted ≡ at_most most counted
at_most_is None counted all h few = omega arith
at_most_is (Some most) counted all h few = refl

-- a call that goes on has a current record
pub current_is : (has_record : List ℕ → Bool) (place : Place) (moved : Moved) → Ok moved ≡ answer_of (current_answer has_record place) 0 → current_answer has_record place ≡ jet.Success
current_is has_record Before moved h = absurd cc
current_is has_record After moved h = absurd cc
current_is has_record (Gap key above) moved h = absurd cc
current_is has_record (On key bookmark) moved h =
    by_test (has_record bookmark)
    (λ t. rw t refl)
    (λ t. absurd (cc (rw t at h)))
