use Rattle.std.proofs.Common.{◌≡◌, Bool, true, ◌||◌, Option, Some, None, sym, ap, ◌∙◌}
use Rattle.std.specs.Option.{option_map}
use Rattle.std.specs.List.{list_any}
use Rattle.std.specs.Prelude.{bytes_eq}
use Rattle.common_lemmas.proofs.Options.{some_apart}
use Rattle.long_value.specs.Stores.{id_bytes}
use Rattle.long_rows.specs.RowReferences.{named_by}
use Rattle.table_trees.proofs.NamedBytes.{names_first, names_nothing}
use Rattle.table_trees.proofs.kept_rows.named.+names.Goals as goal

none_of : {X : Type 0} (x : X) (o : Option X) → o ≡ None → o ≡ Some x → ⊥
none_of x o e f = cc

pub returns-then-is_same : goal.returns-then-is_same
returns-then-is_same t c xs stand =
    names_first c.args.values.now (option_map id_bytes c.in-Some.named) c.in-Some.rest.now (id_bytes c.args.id) true (λ e. some_apart _ (c.in-Some.ensures.end e)) c.in-Some.ensures.value
    (λ ys st. ap (λ (b : Bool). b || list_any (bytes_eq (id_bytes c.args.id)) (named_by ys)) (sym c.if-is_same.true ∙ c.is_same.ensures)) xs stand

pub returns-else-is_same : goal.returns-else-is_same
returns-else-is_same t c xs stand =
    names_first c.args.values.now (option_map id_bytes c.in-Some.named) c.in-Some.rest.now (id_bytes c.args.id) c.names.result (λ e. some_apart _ (c.in-Some.ensures.end e)) c.in-Some.ensures.value
    (λ ys st. c.names.ensures ys st ∙ ap (λ (b : Bool). b || list_any (bytes_eq (id_bytes c.args.id)) (named_by ys)) (sym c.if-is_same.false ∙ c.is_same.ensures)) xs stand

pub returns-in-None : goal.returns-in-None
returns-in-None t c xs stand = names_nothing c.args.values.now (id_bytes c.args.id) (λ value behind may is. let h = c.in-None.ensures.value value behind may is in h) xs stand
