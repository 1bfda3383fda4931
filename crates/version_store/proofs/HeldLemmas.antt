-- Items with their rows as held changes, after each step.
use Rattle.std.proofs.Common.{◌≡◌, ℕ, zero, suc, ◌<◌, List, [], ◌∷◌, ◌++◌, Option, Some, None, map, length, get_or, set, drop, refl, sym, ap, ◌∙◌, arith}
use Rattle.std.specs.Prelude.{slice_get, option_map}
use Rattle.std.proofs.lemmas.List.{map-append}
use Rattle.version_store.specs.declared.item.Item.{Item}
use Rattle.version_store.specs.declared.item.Status.TheVariants as status
use Rattle.version_store.specs.HeldChanges.{HeldChange, undone_at}
use Rattle.version_store.specs.Items.{held_change, held_changes, item_hash}
use Rattle.version_store.specs.Kept.{hashes_of}
use Rattle.version_store.specs.Hashes.{hash_of}

-- the hash of a held change's record
abbrev pub held_hash : HeldChange → ℕ
held_hash held = hash_of held.table held.bookmark

pub length-held : (items : List Item) (rows : List (List ℕ)) → length rows ≡ length items → length (held_changes items rows) ≡ length items
length-held [] rows same = refl
length-held (item ∷ items) [] same = absurd (omega arith)
length-held (item ∷ items) (row ∷ rows) same = omega (arith, length-held items rows (omega arith))

pub held-push : (items : List Item) (rows : List (List ℕ)) (item : Item) (row : List ℕ) → length rows ≡ length items → held_changes (items ++ item ∷ []) (rows ++ row ∷ []) ≡ held_changes items rows ++ held_change item row ∷ []
held-push [] [] item row same = refl
held-push [] (r ∷ rows) item row same = absurd (omega arith)
held-push (i ∷ items) [] item row same = absurd (omega arith)
held-push (i ∷ items) (r ∷ rows) item row same = ap (λ (l : List HeldChange). held_change i r ∷ l) (held-push items rows item row (omega arith))

pub held-at : (items : List Item) (rows : List (List ℕ)) (at : ℕ) (d : Item) → length rows ≡ length items → at < length items → slice_get (held_changes items rows) at ≡ Some (held_change (get_or items at d) (get_or rows at []))
held-at [] rows at d same within = absurd (omega arith)
held-at (i ∷ items) [] at d same within = absurd (omega arith)
held-at (i ∷ items) (r ∷ rows) zero d same within = refl
held-at (i ∷ items) (r ∷ rows) (suc at) d same within = held-at items rows at d (omega arith) (omega arith)

pub held-get : (items : List Item) (rows : List (List ℕ)) (at : ℕ) (d : Item) (e : HeldChange) → length rows ≡ length items → at < length items → get_or (held_changes items rows) at e ≡ held_change (get_or items at d) (get_or rows at [])
held-get [] rows at d e same within = absurd (omega arith)
held-get (i ∷ items) [] at d e same within = absurd (omega arith)
held-get (i ∷ items) (r ∷ rows) zero d e same within = refl
held-get (i ∷ items) (r ∷ rows) (suc at) d e same within = held-get items rows at d e (omega arith) (omega arith)

pub held-drop : (items : List Item) (rows : List (List ℕ)) → length rows ≡ length items → held_changes (drop 1 items) (drop 1 rows) ≡ drop 1 (held_changes items rows)
held-drop [] rows same = refl
held-drop (i ∷ items) [] same = absurd (omega arith)
held-drop (i ∷ items) (r ∷ rows) same = refl

pub held-undone : (items : List Item) (rows : List (List ℕ)) (at : ℕ) (old : Item) → old ≡ get_or items at old → at < length items → held_changes (set items at (record old { status = status.Undone })) rows ≡ undone_at (Some at) (held_changes items rows)
held-undone [] rows at old is within = absurd (omega arith)
held-undone (i ∷ items) [] zero old is within = refl
held-undone (i ∷ items) [] (suc at) old is within = refl
held-undone (i ∷ items) (r ∷ rows) zero old is within = ap (λ (x : Item). held_change (record x { status = status.Undone }) r ∷ held_changes items rows) is
held-undone (i ∷ items) (r ∷ rows) (suc at) old is within = ap (λ (l : List HeldChange). held_change i r ∷ l) (held-undone items rows at old is (omega arith))

pub held-map : (g : Item → Item) (f : HeldChange → HeldChange) (items : List Item) (rows : List (List ℕ)) → ((item : Item) (row : List ℕ) → held_change (g item) row ≡ f (held_change item row)) → held_changes (map g items) rows ≡ map f (held_changes items rows)
held-map g f [] rows each = refl
held-map g f (i ∷ items) [] each = refl
held-map g f (i ∷ items) (r ∷ rows) each = λ k. each i r k ∷ held-map g f items rows each k

pub hashes-held : (items : List Item) (rows : List (List ℕ)) → length rows ≡ length items → hashes_of items ≡ map held_hash (held_changes items rows)
hashes-held [] rows same = refl
hashes-held (i ∷ items) [] same = absurd (omega arith)
hashes-held (i ∷ items) (r ∷ rows) same = ap (λ (l : List ℕ). item_hash i ∷ l) (hashes-held items rows (omega arith))

-- the change of the item that was read
pub held-item : (items : List Item) (rows : List (List ℕ)) (at : ℕ) (x : Item) → length rows ≡ length items → at < length items → x ≡ get_or items at x → slice_get (held_changes items rows) at ≡ Some (held_change x (get_or rows at []))
held-item items rows at x same within is = held-at items rows at x same within ∙ ap (λ (y : Item). Some (held_change y (get_or rows at []))) (sym is)

pub held-item-get : (items : List Item) (rows : List (List ℕ)) (at : ℕ) (x : Item) (e : HeldChange) → length rows ≡ length items → at < length items → x ≡ get_or items at x → get_or (held_changes items rows) at e ≡ held_change x (get_or rows at [])
held-item-get items rows at x e same within is = held-get items rows at x e same within ∙ ap (λ (y : Item). held_change y (get_or rows at [])) (sym is)

pub get-map : {B : Type 0} (f : HeldChange → B) (changes : List HeldChange) (at : ℕ) (h : HeldChange) → slice_get changes at ≡ Some h → slice_get (map f changes) at ≡ Some (f h)
get-map f [] at h e = cc
get-map f (x ∷ changes) zero h e = ap (λ (o : Option HeldChange). option_map f o) e
get-map f (x ∷ changes) (suc at) h e = get-map f changes at h e

-- what is read of the change at a place
pub read-at : {B : Type 0} (f : HeldChange → B) (items : List Item) (rows : List (List ℕ)) (changes : List HeldChange) (place : ℕ) (x : Item) → length rows ≡ length items → held_changes items rows ≡ changes → place < length items → x ≡ get_or items place x
    → slice_get (map f changes) place ≡ Some (f (held_change x (get_or rows place [])))
read-at f items rows changes place x same view within is =
    ap (λ (l : List HeldChange). slice_get (map f l) place) (sym view) ∙ get-map f (held_changes items rows) place (held_change x (get_or rows place [])) (held-item items rows place x same within is)

pub hashes-items : (items : List Item) (item : Item) → hashes_of (items ++ item ∷ []) ≡ hashes_of items ++ item_hash item ∷ []
hashes-items items item = map-append item_hash items (item ∷ [])

pub hashes-drop : (items : List Item) → hashes_of (drop 1 items) ≡ drop 1 (hashes_of items)
hashes-drop [] = refl
hashes-drop (item ∷ items) = refl

pub length-drop_one : {X Y : Type 0} (xs : List X) (ys : List Y) → length xs ≡ length ys → length (drop 1 xs) ≡ length (drop 1 ys)
length-drop_one [] [] e = refl
length-drop_one [] (y ∷ ys) e = absurd (omega arith)
length-drop_one (x ∷ xs) [] e = absurd (omega arith)
length-drop_one (x ∷ xs) (y ∷ ys) e = omega arith

pub undone-none : (changes : List HeldChange) → undone_at None changes ≡ changes
undone-none [] = refl
undone-none (h ∷ changes) = refl
