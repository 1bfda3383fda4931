-- Whether changes are in order, question by question.
use Rattle.std.proofs.Common.{◌≡◌, ℕ, Bool, true, false, ◌&&◌, ◌||◌, List, [], ◌∷◌, Option, refl, sym, ap, ◌∙◌}
use Rattle.std.specs.Prelude.{IfOk, Result, Ok, Err, not, if◌then◌else◌}
use Rattle.std.specs.List.{list_all, list_any}
use Rattle.common_lemmas.proofs.Booleans.{and_false}
use Rattle.image_findings.specs.LiveFindings.{are_in_order, goes_on, is_before, is_drop, is_fresh_put, leaves_node, levels_rise, node_under}
use Rattle.image_findings.specs.TableContents.{TableContents}
use Rattle.version_cleanup.specs.LiveSessions.{LiveState}
use Rattle.version_store.specs.HeldChanges.{HeldChange, is_record}
use Rattle.image_live.proofs.Pairs.{and_true, swapped}
use Rattle.image_live.specs.Orders.{all_follow, all_leave, all_pairs, follows, leaves, next_follows, stays_apart}

-- ---- the questions

goes_on_is : (node : Option (List ℕ)) (h : HeldChange) (held : List HeldChange) → goes_on node h held ≡ (next_follows h held && (list_any (is_record h.table h.bookmark) held || leaves_node h.kind node))
goes_on_is node h [] = refl
goes_on_is node h (next ∷ held) = by (is_record h.table h.bookmark next) (goes_on_is node h held)
  where
    by : (b : Bool) → goes_on node h held ≡ (next_follows h held && (list_any (is_record h.table h.bookmark) held || leaves_node h.kind node))
        → (if b then (if is_drop h.kind then is_fresh_put next else not (is_fresh_put next)) else goes_on node h held)
        ≡ ((if b then follows h next else next_follows h held) && ((b || list_any (is_record h.table h.bookmark) held) || leaves_node h.kind node))
    by true rest = sym (and_true (follows h next))
    by false rest = rest

before_is : (sessions : List LiveState) (h : HeldChange) (held : List HeldChange) → list_all (is_before sessions h) held ≡ (list_all (stays_apart sessions h) held && list_all (levels_rise h) held)
before_is sessions h [] = refl
before_is sessions h (x ∷ held) =
    ap (λ b. is_before sessions h x && b) (before_is sessions h held) ∙ swapped (stays_apart sessions h x) (levels_rise h x) (list_all (stays_apart sessions h) held) (list_all (levels_rise h) held)

gathered : (nf lf sa lv f l v p : Bool) → ((nf && lf) && ((sa && lv) && (f && (l && (v && p))))) ≡ ((nf && f) && ((lf && l) && ((lv && v) && (sa && p))))
gathered false lf sa lv f l v p = refl
gathered true false sa lv f l v p = sym (and_false f)
gathered true true false lv f l v p = sym (ap (λ b. f && (l && b)) (and_false (lv && v)) ∙ ap (λ b. f && b) (and_false l) ∙ and_false f)
gathered true true true false f l v p = sym (ap (λ b. f && b) (and_false l) ∙ and_false f)
gathered true true true true f l v p = refl

pub in_order_is : (tables : List TableContents) (sessions : List LiveState) (held : List HeldChange)
    → are_in_order tables sessions held ≡ (all_follow held && (all_leave tables held && (all_pairs levels_rise held && all_pairs (stays_apart sessions) held)))
in_order_is tables sessions [] = refl
in_order_is tables sessions (h ∷ held) =
    ap (λ b. b && (list_all (is_before sessions h) held && are_in_order tables sessions held)) (goes_on_is (node_under tables h) h held)
    ∙ ap (λ b. (next_follows h held && leaves tables h held) && (b && are_in_order tables sessions held)) (before_is sessions h held)
    ∙ ap (λ b. (next_follows h held && leaves tables h held) && ((list_all (stays_apart sessions h) held && list_all (levels_rise h) held) && b)) (in_order_is tables sessions held)
    ∙ gathered (next_follows h held) (leaves tables h held) (list_all (stays_apart sessions h) held) (list_all (levels_rise h) held) (all_follow held) (all_leave tables held) (all_pairs levels_rise held) (all_pairs (stays_apart sessions) held)

-- ---- answered one by one

abbrev pub Ordered : (List TableContents → Type 0) → List LiveState → List HeldChange → Bool → Type 0
Ordered Are sessions held ordered = (tables : List TableContents) → Are tables → ordered ≡ are_in_order tables sessions held

abbrev pub Left : (List TableContents → Type 0) → List HeldChange → Bool → Type 0
Left Are held left = (tables : List TableContents) → Are tables → left ≡ all_leave tables held

pub not_following : (Are : List TableContents → Type 0) (sessions : List LiveState) (held : List HeldChange) → false ≡ all_follow held → Ordered Are sessions held false
not_following Are sessions held e tables are = sym (in_order_is tables sessions held ∙ ap (λ b. b && (all_leave tables held && (all_pairs levels_rise held && all_pairs (stays_apart sessions) held))) (sym e))

pub not_left : (Are : List TableContents → Type 0) (sessions : List LiveState) (held : List HeldChange) → Left Are held false → Ordered Are sessions held false
not_left Are sessions held e tables are =
    sym (in_order_is tables sessions held ∙ ap (λ b. all_follow held && (b && (all_pairs levels_rise held && all_pairs (stays_apart sessions) held))) (sym (e tables are)) ∙ and_false (all_follow held))

pub not_rising : (Are : List TableContents → Type 0) (sessions : List LiveState) (held : List HeldChange) → false ≡ all_pairs levels_rise held → Ordered Are sessions held false
not_rising Are sessions held e tables are =
    sym (in_order_is tables sessions held ∙ ap (λ b. all_follow held && (all_leave tables held && (b && all_pairs (stays_apart sessions) held))) (sym e) ∙ ap (λ b. all_follow held && b) (and_false (all_leave tables held)) ∙ and_false (all_follow held))

pub by_apart : {E : Type 0} (Are : List TableContents → Type 0) (sessions : List LiveState) (held : List HeldChange) (r : Result Bool E) → true ≡ all_follow held → Left Are held true → true ≡ all_pairs levels_rise held
    → IfOk r (λ apart. apart ≡ all_pairs (stays_apart sessions) held) → IfOk r (Ordered Are sessions held)
by_apart Are sessions held (Ok apart) follow left rise is = λ tables are.
    is
    ∙ sym (in_order_is tables sessions held
    ∙ ap (λ b. b && (all_leave tables held && (all_pairs levels_rise held && all_pairs (stays_apart sessions) held))) (sym follow)
    ∙ ap (λ b. b && (all_pairs levels_rise held && all_pairs (stays_apart sessions) held)) (sym (left tables are))
    ∙ ap (λ b. b && all_pairs (stays_apart sessions) held) (sym rise))
by_apart Are sessions held (Err fault) follow left rise is = is
