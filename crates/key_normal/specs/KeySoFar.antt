-- A key that is being made.
use Rattle.std.specs.Prelude.{ℕ, Bool, ◌||◌, List, [], ◌∷◌, ◌++◌, fold}
use Rattle.key_normal.specs.KeyBytes.{cut_key, is_cut}

-- the limit of the key, the bytes that stand, and whether it lost some
pub record KeySoFar : Type 0 where
  pub most : ℕ
  pub bytes : List ℕ
  pub lost : Bool

-- what stands of a key after all of these bytes were given
abbrev pub key_so_far : ℕ → List ℕ → KeySoFar
key_so_far most given = record { most = most; bytes = cut_key most given; lost = is_cut most given }

-- one more byte is given
abbrev pub with_byte : KeySoFar → ℕ → KeySoFar
with_byte key byte = record { most = key.most; bytes = cut_key key.most (key.bytes ++ byte ∷ []); lost = key.lost || is_cut key.most (key.bytes ++ byte ∷ []) }

-- several are, one after the other
abbrev pub with_bytes : KeySoFar → List ℕ → KeySoFar
with_bytes key bytes = fold with_byte key bytes
