-- An identifier tells its entry and its place.
use Rattle.std.proofs.Common.{◌≡◌, ℕ, ◌<◌, ◌^◌, List, [], drop, sym, ap, ◌∙◌}
use Rattle.byteorder.specs.Endian.{big_bytes, big_number}
use Rattle.byteorder.specs.Numbers.{big_number-reads_back}
use Rattle.long_rows.specs.RowReferences.{identifier}

pub numbers_told : (entry other place behind : ℕ) → entry < 2 ^ 64 → other < 2 ^ 64 → place < 2 ^ 32 → behind < 2 ^ 32 → identifier entry place ≡ identifier other behind → (entry ≡ other) × (place ≡ behind)
numbers_told entry other place behind low low' short short' e = (
  sym (big_number-reads_back 8 entry (big_bytes 4 place) low) ∙ ap (big_number 8) e ∙ big_number-reads_back 8 other (big_bytes 4 behind) low',
  sym (big_number-reads_back 4 place [] short) ∙ ap (λ (l : List ℕ). big_number 4 (drop 8 l)) e ∙ big_number-reads_back 4 behind [] short',
)
