-- The entries of locked pieces in a layout buffer (document 02, point 6). Assumes nothing.
use Rattle.std.specs.Prelude.{true, List, [], ◌≡◌, ℕ, ◌<◌, length, get_or}
use Rattle.model.specs.Layout.{Job, is_locked}
use Rattle.model.specs.Buffer.{entry_of, placement_of}

-- each locked piece's entry has its three numbers
abbrev pub LockedWhole : Job → List (List ℕ) → Type 0
LockedWhole j es = (i : ℕ) → i < j.size.count → is_locked j i ≡ true → length (get_or es i []) ≡ 3

-- each locked piece's entry is that of its placement
abbrev pub LockedWritten : Job → List (List ℕ) → Type 0
LockedWritten j es = (i : ℕ) → i < j.size.count → is_locked j i ≡ true → get_or es i [] ≡ entry_of (placement_of (get_or es i []))
