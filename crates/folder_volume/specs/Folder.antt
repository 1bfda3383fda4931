-- What a call of a folder leaves as it was.
use Rattle.std.specs.Prelude.{◌≡◌, ◌≢◌, ℕ, List}

-- the bytes at a path, and what of the file there and of its name has been synced
module _ {D : Type 0} (bytes_at : D → List ℕ → List ℕ) (is_synced is_listed : D → List ℕ → Type 0) where
  -- No file has other bytes, and what was synced still is.
  pub record SameFiles (old new : D) : Type 0 where
    pub bytes : (path : List ℕ) → bytes_at new path ≡ bytes_at old path
    pub synced : (path : List ℕ) → is_synced old path → is_synced new path
    pub listed : (path : List ℕ) → is_listed old path → is_listed new path

  -- The same of every file but the one at this path, which may have other bytes.
  pub record SameOtherFiles (path : List ℕ) (old new : D) : Type 0 where
    pub bytes : (other : List ℕ) → other ≢ path → bytes_at new other ≡ bytes_at old other
    pub synced : (other : List ℕ) → other ≢ path → is_synced old other → is_synced new other
    pub listed : (other : List ℕ) → is_listed old other → is_listed new other
