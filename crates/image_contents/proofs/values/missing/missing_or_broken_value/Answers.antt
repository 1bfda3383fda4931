use Rattle.std.proofs.Common.{ap, ◌∙◌, sym}
use Rattle.std.specs.Prelude.{option_copied}
use Rattle.image_contents.proofs.FoundFaults.{both_are, count_is, found_is, none_is}
use Rattle.image_contents.proofs.values.missing.missing_or_broken_value.Goals as goal

pub broken_value-broken-requires : goal.broken_value-broken-requires
broken_value-broken-requires c = c.requires

pub headless_value-headless-requires-clause-nodes : goal.headless_value-headless-requires-clause-nodes
headless_value-headless-requires-clause-nodes c = c.requires.1.nodes_tree

pub headless_value-headless-requires-clause-values : goal.headless_value-headless-requires-clause-values
headless_value-headless-requires-clause-values c = c.requires.1.values_tree

pub references_to-requires : goal.references_to-requires
references_to-requires c = c.requires.1.nodes_tree

pub returns-in-Ok : goal.returns-in-Ok
returns-in-Ok c t has =
    let space = c.args.space.now in
    let table = c.args.table.now in
    let held = c.args.versions.now in
    found_is c.args.number t held (option_copied c.lesser.result) c.in-Some.id.now c.new.result.entry c.new.result.place c.new.result.have c.new.result.wanted (ap option_copied c.in-Some.is)
    (both_are c.args.number space table t held (option_copied c.broken_value-broken.result) (option_copied c.slice_of.result) (option_copied c.lesser.result) has (c.broken_value-broken.ensures t has) (c.slice_of.ensures ∙ c.headless_value-headless.ensures) c.lesser.ensures)
    c.new.ensures.entry c.new.ensures.place c.new.ensures.have (count_is space table t held c.in-Some.id.now c.new.result.wanted has (c.new.ensures.wanted ∙ c.in-Ok.ensures))

pub returns-in-None : goal.returns-in-None
returns-in-None c t has =
    let space = c.args.space.now in
    let table = c.args.table.now in
    let held = c.args.versions.now in
    none_is c.args.number t held (option_copied c.lesser.result) (ap option_copied c.in-None.is)
    (both_are c.args.number space table t held (option_copied c.broken_value-broken.result) (option_copied c.slice_of.result) (option_copied c.lesser.result) has (c.broken_value-broken.ensures t has) (c.slice_of.ensures ∙ c.headless_value-headless.ensures) c.lesser.ensures)
