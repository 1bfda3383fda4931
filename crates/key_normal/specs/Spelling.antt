-- How a byte of a value is spelled in its key.
use Rattle.std.specs.Prelude.{ℕ, Bool, cond}
use Rattle.key_normal.specs.KeyBytes.{folded_byte}

-- a letter of a text without its case; other bytes as they are
abbrev pub spelled : Bool → ℕ → ℕ
spelled folds byte = cond folds (folded_byte byte) byte
