-- What holds of the entries holds of them with one more.
use Rattle.std.proofs.Common.{◌&&◌, bytes_eq, List, [], ◌∷◌}
use Rattle.std.specs.Prelude.{All}
use Rattle.std.specs.List.{list_any}
use Rattle.std.proofs.lemmas.List.Elements.{All-cons, All-head, All-tail}
use Rattle.common_lemmas.proofs.Booleans.{by_test}
use Rattle.cursor_nav.specs.Places.{Pair}
use Rattle.index_derive.specs.Entries.{entry_le, insert_entry}
use Rattle.index_tree.specs.Entries.{insert_entry_if_absent}

pub insert_all : (P : Pair → Type 0) (e : Pair) (es : List Pair) → P e → All P es → All P (insert_entry e es)
insert_all P e [] h k = All-cons P e [] h k
insert_all P e (x ∷ es) h k =
    by_test (entry_le e x)
    (λ t. let whole : All P (e ∷ x ∷ es) = All-cons P e (x ∷ es) h k in rw t whole)
    (λ t. let whole : All P (x ∷ insert_entry e es) = All-cons P x (insert_entry e es) (All-head P x es k) (insert_all P e es h (All-tail P x es k)) in rw t whole)

pub insert_all_if_absent : (P : Pair → Type 0) (e : Pair) (es : List Pair) → P e → All P es → All P (insert_entry_if_absent e es)
insert_all_if_absent P e es h k =
    by_test (list_any (λ (x : Pair). bytes_eq x.0 e.0 && bytes_eq x.1 e.1) es)
    (λ t. rw t k)
    (λ t. let whole : All P (insert_entry e es) = insert_all P e es h k in rw t whole)
