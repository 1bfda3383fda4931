-- The head tells whether the value is there.
use Rattle.std.proofs.Common.{◌≡◌, ap, sym, refl, ◌∙◌, find}
use Rattle.std.specs.Prelude.{is_some}
use Rattle.common_lemmas.proofs.Options.{is_some-map, none_there}
use Rattle.page_image.specs.Page.{Node}
use Rattle.btree_inplace.specs.Order.{get_in, has_key}
use Rattle.btree_inplace.specs.Trees.{nodes_of}
use Rattle.long_value.specs.Values.{Values, chunk_key, value_of}
use Rattle.long_value.specs.Stores.{HasValues, id_bytes}
use Rattle.long_value.proofs.Held.{copied_some, is_there, value_there_is}
use Rattle.long_value.proofs.values.LongValues.has.Goals as goal

told : (c : goal.After-is_some) (values : Values) → HasValues c.args.space.now c.args.self.now values → c.is_some.result ≡ is_some (value_of (id_bytes c.args.id) values)
told c values has =
    let nodes = nodes_of c.args.space.now c.args.self.now.tree in
    let key = chunk_key (id_bytes c.args.id) 0 in
    c.is_some.ensures ∙ sym (copied_some c.get.result) ∙ ap is_some c.get.ensures
    ∙ ap (λ k. is_some (get_in nodes k)) (c.as_slice.ensures ∙ c.chunk_key.ensures)
    ∙ is_some-map (λ (n : Node). n.data) (find (has_key key) nodes)
    ∙ ap (λ l. is_some (find (has_key key) l)) has.nodes
    ∙ is_there (id_bytes c.args.id) values refl has.whole

pub returns-clause-value : goal.returns-clause-value
returns-clause-value c values has = told c values has

pub returns-clause-there : goal.returns-clause-there
returns-clause-there c is =
    let held = value_there_is (value_of (id_bytes c.args.id) c.requires.0) (sym (told c c.requires.0 c.requires.1) ∙ is) in
    (held.0, (c.requires.0, c.requires.1, held.1))

pub returns-clause-absent : goal.returns-clause-absent
returns-clause-absent c none = (c.requires.0, c.requires.1, none_there (value_of (id_bytes c.args.id) c.requires.0) (sym (told c c.requires.0 c.requires.1) ∙ none))
