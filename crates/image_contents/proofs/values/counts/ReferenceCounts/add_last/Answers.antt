use Rattle.std.proofs.Common.{ap, ◌∙◌}
use Rattle.std.specs.Prelude.{bytes_eq, option_map}
use Rattle.std.specs.List.{list_any}
use Rattle.common_lemmas.proofs.Results.{OnOk-then}
use Rattle.image_contents.specs.ReadReferences.{told_apart}
use Rattle.long_rows.specs.RowReferences.{named_by}
use Rattle.image_contents.proofs.CountedRows.{last_named, named_behind, nothing_named}
use Rattle.image_contents.proofs.values.counts.ReferenceCounts.add_last.Goals as goal

pub returns-then-names : goal.returns-then-names
returns-then-names c xs stand =
    named_behind c.args.self.now (option_map told_apart c.args.found) (told_apart c.in-Some.reference) c.bytes_of-id.result xs c.names.result (ap (option_map told_apart) c.in-Some.is) c.bytes_of-id.ensures
    (c.names.ensures xs stand ∙ ap (λ i. list_any (bytes_eq i) (named_by xs)) c.as_slice.ensures) c.if-names.true

pub returns-else-names : goal.returns-else-names
returns-else-names c xs stand =
    OnOk-then c.add.result
    (last_named c.args.self.now c.add.new.self (option_map told_apart c.args.found) (told_apart c.in-Some.reference) c.bytes_of-id.result xs c.names.result (ap (option_map told_apart) c.in-Some.is) c.bytes_of-id.ensures
    (c.names.ensures xs stand ∙ ap (λ i. list_any (bytes_eq i) (named_by xs)) c.as_slice.ensures) c.if-names.false) c.add.ensures

pub returns-in-None : goal.returns-in-None
returns-in-None c xs stand = nothing_named c.args.self.now (option_map told_apart c.args.found) xs (ap (option_map told_apart) c.in-None.is)
