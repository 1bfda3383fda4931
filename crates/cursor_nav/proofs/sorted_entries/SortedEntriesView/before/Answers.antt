use Rattle.std.proofs.Common.{map, ap, ◌∙◌}
use Rattle.cursor_nav.specs.Places.{pair_of, found_pair, entry_before}
use Rattle.cursor_nav.proofs.Listing.{last_pairs}
use Rattle.cursor_nav.proofs.sorted_entries.SortedEntriesView.before.Goals as goal

pub returns : goal.returns
returns c =
    c.copied.ensures ∙ ap found_pair c.last_before.ensures ∙ last_pairs c.args.place.now c.as_slice.result.now
    ∙ ap (λ entries. entry_before c.args.place.now (map pair_of entries)) c.as_slice.ensures.value
