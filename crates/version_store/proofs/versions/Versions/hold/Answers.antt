-- The new item and its row are the change as it is made.
use Rattle.std.proofs.Common.{◌≡◌, ℕ, suc, ◌+◌, ◌-◌, List, [], ◌∷◌, ◌++◌, Some, length, get_or, refl, sym, ap, subst, ◌∙◌, arith}
use Rattle.std.proofs.lemmas.List.{length_push}
use Rattle.column_set.specs.ChangedRecords.{changed_bookmark}
use Rattle.version_store.specs.HeldChanges.{HeldChange, cost_of, new_change, with_status}
use Rattle.version_store.specs.Items.{held_change, held_changes, item_hash, state_of}
use Rattle.version_store.specs.Hashes.{hash_of}
use Rattle.version_store.specs.declared.item.Item.{Item}
use Rattle.database_state.specs.State.{is_open}
use Rattle.std.specs.Prelude.{option_copied, slice_get}
use Rattle.version_bucket.specs.Pieces.{Pieces}
use Rattle.version_store.specs.OpenChanges.{OpenChanges}
use Rattle.version_store.proofs.OpenLemmas.{newest-with, opens-pushed, opens-room}
use Rattle.version_store.proofs.KeepLemmas.{Pushed, keeps-push, new-held}
use Rattle.version_store.proofs.versions.Versions.hold.Goals as goal

abbrev item_of : goal.After-set_newest → Item
item_of c = record {
  number = c.args.by.number;
  session = c.args.by.session;
  level = c.args.by.level;
  kind = c.what.result;
  table = c.table-2.result;
  bookmark = c.in_ok-bookmark.bookmark;
  had_row = c.row_parts-had_row.result.0;
  status = c.args.status;
  spent = c.self.inside.total;
  own_before = c.newest_of-own_before.result;
  highest = c.max-highest.result;
}

bookmark_is : (c : goal.After-set_newest) → c.in_ok-bookmark.bookmark ≡ changed_bookmark c.args.change.now
bookmark_is c = c.in_ok-bookmark.ensures ∙ c.bookmark.ensures

abbrev made_of : goal.After-set_newest → HeldChange
made_of c = with_status (state_of c.args.status) (new_change c.args.by c.args.change.now (option_copied c.args.before))

is_new : (c : goal.After-set_newest) → held_change (item_of c) c.row_parts-had_row.result.1.now ≡ made_of c
is_new c = new-held c.args.by c.args.change.now (option_copied c.args.before) (state_of c.args.status) (item_of c) c.row_parts-had_row.result.1.now refl refl refl c.what.ensures c.table-2.ensures (bookmark_is c) c.row_parts-had_row.ensures.row refl

hash_is : (c : goal.After-set_newest) → c.hash_of-hash.result ≡ item_hash (item_of c)
hash_is c = c.hash_of-hash.ensures ∙ ap (λ (t : ℕ). hash_of t c.as_bytes.result.now) (c.table.ensures ∙ sym c.table-2.ensures) ∙ ap (hash_of c.table-2.result.0) c.as_bytes.ensures

pushed : (c : goal.After-set_newest) → Pushed c.self.inside.items.items c.push_back_reserved.new.self.items c.self.inside.rows.pieces c.push-2.new.self.pieces c.self.inside.chains c.push.new.self (item_of c) c.row_parts-had_row.result.1.now c.self.inside.total (c.self.inside.total + c.cost_of-cost.result)
pushed c =
    let a = c.self.inside in let x = item_of c in
    keeps-push a.items.items c.push_back_reserved.new.self.items a.rows.pieces c.push-2.new.self.pieces a.chains c.push.new.self x c.row_parts-had_row.result.1.now a.total (a.total + c.cost_of-cost.result)
    c.self.invariant.keeps
    (c.push_back_reserved.ensures.items ∙ ap (λ (l : List Item). l ++ x ∷ []) c.in_ok-reserve.ensures.items)
    (ap (λ (v : Pieces). v.pieces) c.in-Ok.ensures.ok)
    (c.in_ok-push.ensures ∙ ap (λ (n : ℕ). a.chains ++ n ∷ []) (hash_is c))
    refl
    (ap (λ (n : ℕ). a.total + n) (c.cost_of-cost.ensures.value ∙ sym (ap cost_of (is_new c))))

opened : (c : goal.After-set_newest) → OpenChanges c.push-2.new.self.first c.push_back_reserved.new.self.items c.set_newest.new.newest.items
opened c =
    let a = c.self.inside in let x = item_of c in let session : ℕ = c.args.by.session.0 in let newest : List ℕ = c.make_room.new.newest.items in
    let is_new : c.push_back_reserved.new.self.items ≡ a.items.items ++ x ∷ [] = c.push_back_reserved.ensures.items ∙ ap (λ (l : List Item). l ++ x ∷ []) c.in_ok-reserve.ensures.items in
    let first : c.push-2.new.self.first ≡ a.rows.first = ap (λ (p : Pieces). p.first) c.in-Ok.ensures.ok in
    let before : x.own_before ≡ get_or newest session 0 = c.newest_of-own_before.ensures ∙ ap (λ (l : List ℕ). get_or l session 0) c.deref.ensures.value ∙ sym (c.in_ok-make_room.ensures.same session) in
    let end : c.end_of-end.result ≡ x.own_before - a.rows.first = c.end_of-end.ensures ∙ ap (λ (n : ℕ). c.newest_of-own_before.result - n) c.first.ensures.value in
    let number : c.first-2.result + c.len.result ≡ a.rows.first + length a.items.items + 1 =
    omega (arith, c.first-2.ensures.value, first, c.len.ensures, c.push_back_reserved.new.self.ok.0, ap (length {A = Item}) is_new, length_push a.items.items x) in
    subst (λ (n : ℕ). OpenChanges n c.push_back_reserved.new.self.items c.set_newest.new.newest.items) (sym first)
    (subst (OpenChanges a.rows.first c.push_back_reserved.new.self.items) (sym c.set_newest.ensures)
    (opens-pushed a.rows.first a.items.items c.push_back_reserved.new.self.items newest x c.newest_with-newest.result
    (opens-room a.rows.first a.items.items a.newest.items newest c.self.invariant.opens c.in_ok-make_room.ensures.same) is_new before (omega (arith, c.max-highest.ensures))
    (λ (place : ℕ) (y : Item) (e : x.own_before - a.rows.first ≡ suc place) (at : slice_get a.items.items place ≡ Some y). omega (arith, c.max-highest.ensures, c.highest_before.ensures place y (end ∙ e) at))
    (newest-with a.rows.first (length a.items.items) (get_or newest session 0) c.newest_of-own_before.result (c.first-2.result + c.len.result) c.newest_with-newest.result (is_open (state_of c.args.status)) (sym before) number c.newest_with-newest.ensures) c.in_ok-make_room.ensures.room))

pub invariant_of-self-2 : goal.invariant_of-self-2
invariant_of-self-2 c = record { keeps = (pushed c).keeps; opens = opened c }

pub returns-clause-ok : goal.returns-clause-ok
returns-clause-ok c = (pushed c).value ∙ ap (λ (h : HeldChange). held_changes c.self.inside.items.items c.self.inside.rows.pieces ++ h ∷ []) (is_new c) ∙ ap (λ (l : List HeldChange). l ++ made_of c ∷ []) c.self.view_is
