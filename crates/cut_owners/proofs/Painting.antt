-- The owners while the pieces are painted, one after another. Assumes nothing.
use Rattle.list_laws.proofs.Kit.{◌∙◌, ◌≡◌, ap, refl, sym, Bool, false, true, List, ◌+◌, ◌<◌, ℕ, suc, add-one, zero-add, get_or, get_or-replicate, length}
use Rattle.list_laws.proofs.Kit.{length-replicate, replicate}
use Rattle.model.specs.Layout.{Job, Layout, place_of}
use Rattle.model.specs.Cover.{pixel_at, covers_pixel}
use Rattle.model.specs.Cut.{covers_in}
use Rattle.cover_laws.proofs.Calls.{length_map_from, get_d_map_from}
use Rattle.sheet_counts.specs.Stamp.{moved, moved_by}
use Rattle.sheet_counts.specs.declared.Change.TheVariants.{OwnedBy}
use Rattle.cut_laws.specs.Owners.{last_of}

-- each byte is the owner of its pixel among the pieces below n
abbrev pub PaintedBelow : Job → Layout → ℕ → List ℕ → Type 0
PaintedBelow j v n os = (k : ℕ) → k < length os → get_or os k 0 ≡ last_of (λ i. covers_in j v i (pixel_at j k)) n

-- before the first piece
pub none_painted : (j : Job) (v : Layout) (n : ℕ) → PaintedBelow j v 0 (replicate n 0)
none_painted j v n k l = get_or-replicate n k 0 0 (rw (length-replicate {A = ℕ} n 0) at l)

-- as many bytes as before
pub length_painted : (j : Job) (v : Layout) (n : ℕ) (os : List ℕ) → length (moved_by (OwnedBy (n + 1)) j n (place_of v n) os) ≡ length os
length_painted j v n os = length_map_from _ 0 os

-- the byte of a pixel
byte_painted : (n c : ℕ) (b : Bool) → moved (OwnedBy (n + 1)) b c ≡ elim b as (λ _. ℕ) [ true ↦ suc n | false ↦ c ]
byte_painted n c true = add-one n
byte_painted n c false = refl

-- one piece more
pub piece_painted : (j : Job) (v : Layout) (n : ℕ) (os : List ℕ) → PaintedBelow j v n os
    → PaintedBelow j v (n + 1) (moved_by (OwnedBy (n + 1)) j n (place_of v n) os)
unfolding covers_pixel
piece_painted j v n os below k l =
    let l' : k < length os = rw (length_painted j v n os) at l in
    let f : ℕ → Bool = λ i. covers_in j v i (pixel_at j k) in
    get_d_map_from (λ m c. moved (OwnedBy (n + 1)) (covers_pixel j n (place_of v n) m) c) 0 os k l'
    ∙ ap (λ (m : ℕ). moved (OwnedBy (n + 1)) (covers_pixel j n (place_of v n) m) (get_or os k 0)) (zero-add k)
    ∙ byte_painted n (get_or os k 0) (f n)
    ∙ ap (λ (c : ℕ). elim (f n) as (λ _. ℕ) [ true ↦ suc n | false ↦ c ]) (below k l')
    ∙ ap (last_of f) (sym (add-one n))
