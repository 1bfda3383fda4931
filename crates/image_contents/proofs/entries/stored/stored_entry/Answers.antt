use Rattle.std.proofs.Common.{ℕ, length, sym, ap, ◌∙◌}
use Rattle.std.specs.Prelude.{◌==◌}
use Rattle.std.proofs.lemmas.Bool.{eqb-true}
use Rattle.common_lemmas.proofs.Booleans.{and_left, and_right}
use Rattle.image_contents.specs.NodesLeft.{node_in, node_of}
use Rattle.image_findings.specs.EntryFindings.{stored_entry}
use Rattle.image_contents.proofs.StoredForms.{other_form}
use Rattle.image_contents.proofs.entries.stored.stored_entry.Goals as goal

pub split_entry-requires : goal.split_entry-requires
split_entry-requires c =
    eqb-true (length c.args.node.bytes.now) 2 (and_right (c.args.node.extent == 2) (length c.args.node.bytes.now == 2) (sym c.has_entry_sizes.ensures ∙ c.if-has_entry_sizes.true))

pub returns-then-has_entry_sizes : goal.returns-then-has_entry_sizes
returns-then-has_entry_sizes c =
    c.split_entry.ensures
    ∙ ap (λ (extent : ℕ). stored_entry (node_of c.args.node.key.now extent c.args.node.bytes.now))
    (sym (eqb-true c.args.node.extent 2 (and_left (c.args.node.extent == 2) (length c.args.node.bytes.now == 2) (sym c.has_entry_sizes.ensures ∙ c.if-has_entry_sizes.true))))

pub returns-else-has_entry_sizes : goal.returns-else-has_entry_sizes
returns-else-has_entry_sizes c = sym (other_form (node_in c.args.node) (sym c.has_entry_sizes.ensures ∙ c.if-has_entry_sizes.false))
