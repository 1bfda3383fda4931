-- The change at the last place becomes undone.
use Rattle.std.proofs.Common.{◌≡◌, ℕ, ◌<◌, Option, Some, List, length, get_or, set, refl, subst, sym, ap, ◌∙◌, arith}
use Rattle.std.proofs.lemmas.Option.{slice_get_read}
use Rattle.std.specs.Prelude.{option_map, slice_get}
use Rattle.version_store.specs.Answers.{change_at}
use Rattle.version_store.specs.HeldChanges.{HeldChange, is_open_at, last_place, undone_at}
use Rattle.version_store.specs.OpenChanges.{OpenChanges}
use Rattle.version_store.specs.declared.item.Status.TheVariants as status
use Rattle.version_store.proofs.OpenLemmas.{next-newest, opens-undone}
use Rattle.version_store.proofs.OpenWalks.{open-at-session}
use Rattle.version_store.proofs.HeldLemmas.{held-item, length-held, undone-none}
use Rattle.version_store.proofs.KeepLemmas.{keeps-undone}
use Rattle.version_store.proofs.versions.Versions.undo_level.Goals as goal

pub returns-in_err-place-clause-changes : goal.returns-in_err-place-clause-changes
returns-in_err-place-clause-changes c = sym (ap (λ (o : Option ℕ). undone_at o c.args.self.now) (sym c.in_err-place.ensures.place) ∙ undone-none c.args.self.now)

pub index_mut-item-requires : goal.index_mut-item-requires
index_mut-item-requires c =
    let a = c.self.inside in
    omega (arith, a.items.ok.0, length-held a.items.items a.rows.pieces c.self.invariant.keeps.are_rows, c.in_ok-place.ensures.within, ap (length {A = HeldChange}) c.self.view_is)

pub invariant_of-self : goal.invariant_of-self
invariant_of-self c =
    let a = c.self.inside in let x = c.index_mut-item.result.now in let place = c.in_ok-place.place in let session = c.args.session.0 in
    let within : place < length a.items.items = omega (arith, length-held a.items.items a.rows.pieces c.self.invariant.keeps.are_rows, c.in_ok-place.ensures.within, ap (length {A = HeldChange}) c.self.view_is) in
    let at : slice_get a.items.items place ≡ Some x = slice_get_read a.items.items (length a.items.items) place x refl within c.index_mut-item.ensures.value in
    let newest : c.newest_of-newest.result ≡ get_or a.newest.items session 0 = c.newest_of-newest.ensures ∙ ap (λ (l : List ℕ). get_or l session 0) c.deref.ensures.value in
    let own : x.session.0 ≡ session = open-at-session session c.args.level a.items.items a.rows.pieces place x c.self.invariant.keeps.are_rows at
    (ap (last_place (is_open_at session c.args.level)) c.self.view_is ∙ sym c.in_ok-place.ensures.place) in
    record {
      keeps = (keeps-undone a.items.items a.rows.pieces a.chains a.total place x c.self.invariant.keeps within c.index_mut-item.ensures.value).keeps;
      opens = subst (OpenChanges a.rows.first (set a.items.items place (record x { status = status.Undone }))) (sym c.set_newest.ensures)
          (opens-undone session a.rows.first place c.newest_without-next.result x a.items.items a.newest.items c.self.invariant.opens at own
          (next-newest c.newest_of-newest.result c.first-first.result place x.own_before c.newest_without-next.result a.rows.first (get_or a.newest.items session 0) newest c.first-first.ensures.value c.newest_without-next.ensures));
    }

pub returns-clause-changes : goal.returns-clause-changes
returns-clause-changes c =
    let a = c.self.inside in
    let within : c.in_ok-place.place < length a.items.items = omega (arith, length-held a.items.items a.rows.pieces c.self.invariant.keeps.are_rows, c.in_ok-place.ensures.within, ap (length {A = HeldChange}) c.self.view_is) in
    (keeps-undone a.items.items a.rows.pieces a.chains a.total c.in_ok-place.place c.index_mut-item.result.now c.self.invariant.keeps within c.index_mut-item.ensures.value).value_is
    ∙ ap (undone_at (Some c.in_ok-place.place)) c.self.view_is ∙ ap (λ (o : Option ℕ). undone_at o c.args.self.now) c.in_ok-place.ensures.place

pub returns-clause-table : goal.returns-clause-table
returns-clause-table c =
    let a = c.self.inside in let x = c.index_mut-item.result.now in let place = c.in_ok-place.place in
    let within : place < length a.items.items = omega (arith, length-held a.items.items a.rows.pieces c.self.invariant.keeps.are_rows, c.in_ok-place.ensures.within, ap (length {A = HeldChange}) c.self.view_is) in
    sym (ap (λ (o : Option ℕ). option_map (λ (h : HeldChange). h.table) (change_at c.args.self.now o)) (sym c.in_ok-place.ensures.place)
    ∙ ap (λ (l : List HeldChange). option_map (λ (h : HeldChange). h.table) (slice_get l place)) (sym c.self.view_is)
    ∙ ap (option_map (λ (h : HeldChange). h.table)) (held-item a.items.items a.rows.pieces place x c.self.invariant.keeps.are_rows within c.index_mut-item.ensures.value))
