-- The walk to the oldest kept change, from the front.
use Rattle.std.proofs.Common.{◌≡◌, ℕ, ◌+◌, ◌<◌, true, false, List, [], Option, length, get_or, drop, sym, ap, ◌∙◌, arith}
use Rattle.std.specs.Prelude.{sum_by}
use Rattle.std.proofs.lemmas.List.{get_or-map}
use Rattle.version_store.specs.declared.item.Item.{Item}
use Rattle.version_store.specs.HeldChanges.{HeldChange, cost_of, from_oldest_kept, is_kept, span}
use Rattle.version_store.specs.Items.{held_change, held_changes}
use Rattle.version_store.specs.Kept.{Keeps, spents_of}
use Rattle.version_store.proofs.HeldLemmas.{held-item-get, length-held}
use Rattle.version_store.proofs.SpanLemmas.{oldest-kept, oldest-skipped, spent-at}

pub span-found : (items : List Item) (rows : List (List ℕ)) (hashes : List ℕ) (total : ℕ) (oldest : Option ℕ) (at : ℕ) (x : Item) → Keeps items rows hashes total → at < length items → x ≡ get_or items at x → is_kept oldest (held_change x []) ≡ true
    → from_oldest_kept oldest (held_changes items rows) ≡ from_oldest_kept oldest (drop at (held_changes items rows)) → x.spent + span oldest (held_changes items rows) ≡ total
span-found items rows hashes total oldest at x kept within is passes skipped =
    let hs : List HeldChange = held_changes items rows in
    let d : HeldChange = held_change x [] in
    let inside : at < length hs = omega (arith, length-held items rows kept.are_rows) in
    let front : from_oldest_kept oldest hs ≡ drop at hs = skipped ∙ oldest-kept oldest hs at d inside (ap (is_kept oldest) (held-item-get items rows at x d kept.are_rows within is) ∙ passes) in
    let spent : x.spent ≡ get_or (spents_of items) at 0 = ap (λ (y : Item). y.spent) is ∙ sym (get_or-map (λ (y : Item). y.spent) items at x 0 within) in
    omega (arith, spent, ap (sum_by cost_of) front, spent-at total (spents_of items) hs at kept.are_spent inside)

pub span-next : (items : List Item) (rows : List (List ℕ)) (oldest : Option ℕ) (at : ℕ) (x : Item) → length rows ≡ length items → at < length items → x ≡ get_or items at x → is_kept oldest (held_change x []) ≡ false
    → from_oldest_kept oldest (held_changes items rows) ≡ from_oldest_kept oldest (drop at (held_changes items rows)) → from_oldest_kept oldest (held_changes items rows) ≡ from_oldest_kept oldest (drop (at + 1) (held_changes items rows))
span-next items rows oldest at x same within is fails skipped =
    skipped ∙ oldest-skipped oldest (held_changes items rows) at (held_change x []) (omega (arith, length-held items rows same)) (ap (is_kept oldest) (held-item-get items rows at x (held_change x []) same within is) ∙ fails)
