-- A table of one text and an index over it, of which the worked examples speak.
use Rattle.std.specs.Prelude.{ℕ, List, [], ◌∷◌, ◌++◌, false, codes, replicate}
use Rattle.jet_base.specs.Ids.{column_id, index_id}
use Rattle.jet_base.specs.declared.words.ColType.TheVariants.{Text}
use Rattle.column_set.specs.RecordValues.{RecordFields}
use Rattle.index_derive.specs.Flags.{no_flags}
use Rattle.index_derive.specs.declared.rules.IndexRule.{IndexRule}
use Rattle.index_derive.specs.declared.rules.Schema.{Schema}

-- an ascending index with keys of up to 255 bytes
abbrev pub text_index : IndexRule
text_index = record {
  id = index_id 2;
  name = codes "i";
  order = 2;
  segments = record { column = column_id 128; descending = false } ∷ [];
  flags = no_flags;
  conditions = [];
  key_most = 255;
}

abbrev pub text_schema : Schema
text_schema = record {
  columns = record { id = column_id 128; name = codes "t"; kind = Text; tagged = false; multi = false; not_null = false; escrow = false; version = false; auto = false } ∷ [];
  indexes = text_index ∷ [];
}

-- a record with the text
abbrev pub with_text : List ℕ → RecordFields
with_text text = (128, text ∷ []) ∷ []

-- three records, one of them without a text, under the bookmarks 1, 2 and 3
abbrev pub sample_rows : List (List ℕ × RecordFields)
sample_rows = (1 ∷ [], with_text (codes "b")) ∷ (2 ∷ [], with_text (codes "A")) ∷ (3 ∷ [], []) ∷ []

-- the key of a text of one letter, given as a capital
abbrev pub letter_key : ℕ → List ℕ
letter_key letter = 0x7f ∷ letter ∷ replicate 7 0 ++ 1 ∷ []

-- the entries of the three records
abbrev pub sample_entries : List (List ℕ × List ℕ)
sample_entries = (0 ∷ [], 3 ∷ []) ∷ (letter_key 0x41, 2 ∷ []) ∷ (letter_key 0x42, 1 ∷ []) ∷ []
