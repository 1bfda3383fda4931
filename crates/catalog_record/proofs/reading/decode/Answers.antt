use Rattle.std.proofs.Common.{◌≡◌, Option, Some, None, sym, ◌∙◌, arith}
use Rattle.column_set.specs.NumberReading.{some_is}
use Rattle.log_record.specs.EntrySeen.{Fails}
use Rattle.log_record.specs.declared.fault.EntryFault.{EntryFault}
use Rattle.log_record.specs.declared.fault.EntryFault.TheVariants.{BadEntry, OutOfMemory}
use Rattle.catalog_grammar.specs.declared.items.CatalogItem.{CatalogItem}
use Rattle.catalog_grammar.proofs.ItemLaws.{tells, told}
use Rattle.catalog_record.proofs.reading.decode.Goals as goal

abbrev none_read : Option CatalogItem
none_read = None

abbrev read : CatalogItem → Option CatalogItem
read x = Some x

none_is : (x : CatalogItem) → read x ≡ none_read → ⊥
none_is x e = absurd cc

nothing_read : (fault : EntryFault) (read : Option CatalogItem) → fault ≡ BadEntry → Fails fault read → read ≡ None
nothing_read BadEntry read is fails = fails
nothing_read OutOfMemory read is fails = absurd cc

pub returns-in-Ok-clause-told : goal.returns-in-Ok-clause-told
returns-in-Ok-clause-told c = tells c.args.key.now c.args.data.now c.in-Ok.item (λ i. omega (arith, c.type_inv.key i)) (λ i. omega (arith, c.type_inv.data i)) c.in-Ok.ensures

pub returns-in-Ok-clause-only : goal.returns-in-Ok-clause-only
returns-in-Ok-clause-only c = λ x h. some_is c.in-Ok.item x (sym c.in-Ok.ensures ∙ told c.args.key.now c.args.data.now x h)

pub returns-in-Err-BadEntry-clause-only : goal.returns-in-Err-BadEntry-clause-only
returns-in-Err-BadEntry-clause-only c = λ x h. absurd (none_is x (sym (told c.args.key.now c.args.data.now x h) ∙ nothing_read c.in-Err-BadEntry.field-0 _ c.in-Err-BadEntry.field-0-is c.in-Err-BadEntry.ensures))
