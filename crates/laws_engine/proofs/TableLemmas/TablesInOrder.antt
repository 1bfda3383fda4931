-- Records in the order of their bookmarks, as a map and as a walk has them.
use Rattle.std.proofs.Common.{◌≡◌, ℕ, true, ◌&&◌, List, [], ◌∷◌, refl, sym, subst, ◌∙◌}
use Rattle.std.specs.Prelude.{T}
use Rattle.std.specs.List.{list_all}
use Rattle.std.specs.declared.cmp.Ordering.{Ordering}
use Rattle.std.specs.declared.cmp.Ordering.TheVariants.{Less, Equal, Greater}
use Rattle.std.specs.Ordering.{is_lt, nat_cmp, ordering_then}
use Rattle.std.specs.Cmp.Lexicographic.{slice_cmp}
use Rattle.std.specs.FinMap.Entries.{below_all, is_sorted}
use Rattle.common_lemmas.proofs.Lists.{all_weaker}
use Rattle.cursor_nav.specs.Places.{are_sorted, pair_lt}
use Rattle.index_derive.specs.Entries.{own_order}
use Rattle.database_state.specs.Table.{Rows}
use Rattle.database_state.specs.State.{DatabaseState}
use Rattle.laws_versions.proofs.IndexLemmas.PairOrder.{pair_lt-is}
use Rattle.laws_versions.specs.TableOrder.{HasTablesInOrder}
use Rattle.laws_engine.specs.Holding.{AllRise, RowsRise}

once : (r : Ordering) → is_lt r ≡ is_lt (ordering_then r r)
once Less = refl
once Equal = refl
once Greater = refl

below_same : (bookmark : List ℕ) (rows : Rows) → below_all (slice_cmp nat_cmp) bookmark rows ≡ list_all (pair_lt (bookmark, bookmark)) (own_order rows)
below_same bookmark [] = refl
below_same bookmark (row ∷ rows) = λ i. (once (slice_cmp nat_cmp bookmark row.0) ∙ sym (pair_lt-is (bookmark, bookmark) (row.0, row.0))) i && below_same bookmark rows i

pub order_same : (rows : Rows) → is_sorted (slice_cmp nat_cmp) rows ≡ are_sorted (own_order rows)
order_same [] = refl
order_same (row ∷ rows) = λ i. below_same row.0 rows i && order_same rows i

pub in_order_rise : (state : DatabaseState) → HasTablesInOrder state → AllRise state.tables
in_order_rise state h = all_weaker (λ table. are_sorted (own_order table.rows) ≡ true) (λ table. RowsRise table.rows) (λ table sorted. subst (λ b. T b) (sym (order_same table.rows ∙ sorted)) tt) state.tables h.rows
