use Rattle.std.proofs.Common.{map, ap, ◌∙◌}
use Rattle.cursor_nav.specs.Places.{pair_of, found_pair, least_entry_of}
use Rattle.cursor_nav.proofs.Listing.{least_pairs}
use Rattle.cursor_nav.proofs.sorted_entries.SortedEntriesView.least.Goals as goal

pub returns : goal.returns
returns c =
    c.copied.ensures ∙ ap found_pair c.first_of.ensures ∙ least_pairs c.args.bookmark.now c.as_slice.result.now
    ∙ ap (λ entries. least_entry_of c.args.bookmark.now (map pair_of entries)) c.as_slice.ensures.value
