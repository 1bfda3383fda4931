-- Whether the last change of each record left what its node has, place by place.
use Rattle.std.proofs.Common.{◌≡◌, ℕ, ◌+◌, ◌<◌, ◌≤◌, Bool, true, false, ◌&&◌, ◌||◌, List, length, Option, Some, drop, refl, sym, ap, subst, ◌∙◌, arith}
use Rattle.std.specs.Prelude.{not, slice_get}
use Rattle.std.specs.List.{list_any}
use Rattle.std.proofs.lemmas.Bool.Decides.{nat_tests}
use Rattle.std.proofs.lemmas.List.{at_drop_all, at_drop_more}
use Rattle.std.proofs.lemmas.Option.{get_or_from_slice_get, slice_get_within}
use Rattle.common_lemmas.proofs.Booleans.{impossible}
use Rattle.common_lemmas.proofs.Options.{same_some}
use Rattle.image_findings.specs.LiveFindings.{leaves_node, node_under}
use Rattle.image_findings.specs.TableContents.{TableContents}
use Rattle.version_store.specs.HeldChanges.{HeldChange, is_record, last_place}
use Rattle.image_live.proofs.Fronts.{next_place}
use Rattle.image_live.proofs.Lasts.{at_most, none_later}
use Rattle.image_live.specs.Orders.{all_leave, leaves}

-- ---- the last of a record

pub last_is : (p : HeldChange → Bool) (held : List HeldChange) (place : ℕ) (last : Bool) → last ≡ at_most (last_place p held) place → last ≡ not (list_any p (drop (place + 1) held))
last_is p held place last is = is ∙ sym (none_later p held place) ∙ ap (λ (n : ℕ). not (list_any p (drop n held))) (next_place place)

pub last_of : (held : List HeldChange) (place : ℕ) (h c : HeldChange) (newest : Option ℕ) (last : Bool) → slice_get held place ≡ Some h → slice_get held place ≡ Some c → newest ≡ last_place (is_record c.table c.bookmark) held → last ≡ at_most newest place
    → last ≡ not (list_any (is_record h.table h.bookmark) (drop (place + 1) held))
last_of held place h c newest last at_h at_c is told =
    subst (λ (x : HeldChange). last ≡ not (list_any (is_record x.table x.bookmark) (drop (place + 1) held))) (same_some c h (sym at_c ∙ at_h))
    (last_is (is_record c.table c.bookmark) held place last (told ∙ ap (λ (o : Option ℕ). at_most o place) is))

pub at_most_some : (newest place : ℕ) → newest ≤ place → true ≡ at_most (Some newest) place
at_most_some newest place le = grind (arith, nat_tests)

pub at_most_not : (newest place : ℕ) → place < newest → false ≡ at_most (Some newest) place
at_most_not newest place lt = grind (arith, nat_tests)

-- ---- what one change left

pub later_comes : (any left : Bool) → false ≡ not any → true ≡ (any || left)
later_comes true left e = refl
later_comes false left e = impossible e

pub last_decides : (any left told : Bool) → true ≡ not any → told ≡ left → told ≡ (any || left)
last_decides true left told e is = impossible (sym e)
last_decides false left told e is = is

pub same_leaves : (tables : List TableContents) (h c : HeldChange) → c ≡ h → leaves_node c.kind (node_under tables c) ≡ leaves_node h.kind (node_under tables h)
same_leaves tables h c e = ap (λ (x : HeldChange). leaves_node x.kind (node_under tables x)) e

-- ---- what is left of the changes decides

abbrev pub RestLeaves : List TableContents → List HeldChange → ℕ → Type 0
RestLeaves tables held place = all_leave tables (drop place held) ≡ all_leave tables held

first_left : (tables : List TableContents) (held : List HeldChange) (i : ℕ) (h : HeldChange) → slice_get held i ≡ Some h → all_leave tables (drop i held) ≡ (leaves tables h (drop (i + 1) held) && all_leave tables (drop (i + 1) held))
first_left tables held i h is =
    at_drop_more (all_leave tables) held i h (slice_get_within held i h is) ∙ ap (λ (x : HeldChange). leaves tables x (drop (i + 1) held) && all_leave tables (drop (i + 1) held)) (get_or_from_slice_get held i h h is)

pub rest_goes : (tables : List TableContents) (held : List HeldChange) (i : ℕ) (h : HeldChange) → slice_get held i ≡ Some h → true ≡ leaves tables h (drop (i + 1) held) → RestLeaves tables held i → RestLeaves tables held (i + 1)
rest_goes tables held i h is passes so_far = sym (first_left tables held i h is ∙ ap (λ b. b && all_leave tables (drop (i + 1) held)) (sym passes)) ∙ so_far

pub rest_fails : (tables : List TableContents) (held : List HeldChange) (i : ℕ) (h : HeldChange) → slice_get held i ≡ Some h → false ≡ leaves tables h (drop (i + 1) held) → RestLeaves tables held i → false ≡ all_leave tables held
rest_fails tables held i h is refused so_far = sym (first_left tables held i h is ∙ ap (λ b. b && all_leave tables (drop (i + 1) held)) (sym refused)) ∙ so_far

pub leave_done : (tables : List TableContents) (held : List HeldChange) (place : ℕ) → length held ≤ place → RestLeaves tables held place → true ≡ all_leave tables held
leave_done tables held place le so_far = sym (at_drop_all (all_leave tables) held place le) ∙ so_far
