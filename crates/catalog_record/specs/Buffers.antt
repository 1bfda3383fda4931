-- What a buffer for a node holds.
use Rattle.std.specs.Prelude.{ℕ, List}
use Rattle.catalog_grammar.specs.CatalogBytes.{item_data, item_key}
use Rattle.catalog_grammar.specs.declared.items.CatalogItem.{CatalogItem}

-- The key and the data of a node.
pub record NodeText : Type 0 where
  pub key : List ℕ
  pub bytes : List ℕ

abbrev pub text_of : CatalogItem → NodeText
text_of x = record { key = item_key x; bytes = item_data x }
