-- Numbers of maps, and strips that lie in a box. Assumes nothing.
use Rattle.list_laws.proofs.Kit.{◌≡◌, ap, ap₂, subst, subst₂, sym, List}
use Rattle.list_laws.proofs.Kit.{◌*◌, ◌+◌, ◌-◌, ◌/◌, ◌<◌, ◌^◌, ◌≤◌, ℕ, add-zero, arith, length, mul-le-mul, mul-le-mul_right}
use Rattle.model.specs.Piece.{Shape, other, extent}
use Rattle.model.specs.Strip.{strips}
use Rattle.model.specs.declared.Direction.{Direction}
use Rattle.strip_laws.proofs.Strips.{strips_maximal}
use Rattle.pair_overlap.specs.Meet.{strip_at}
use Rattle.pair_overlap.specs.Seen.{entries}
use Rattle.pair_overlap.proofs.Shapes.{at_member}
use Rattle.bit_laws.specs.Bit.{length_limit}
use Rattle.search_words.specs.Words.{Cleared}
use Rattle.search_levels.specs.Levels.{Levels, LevelRoom, level_of}
use Rattle.search_levels.proofs.Growing.{doubled}
use Rattle.search_marks.specs.Marks.{StripsFit, LevelOf, Made, place_of}
use Rattle.search_maps.specs.declared.Sides.{Sides}
use Rattle.search_maps.specs.Map.{row_width, mark_words, map_words, scratch_words, scratch_bound, SidesFit, StripsIn, MovedIn, ScratchRoom, MapRoom}
use Rattle.search_maps.specs.Making.{LevelsFor, MapFilled}

-- a row has few bits
row_few : (z : Sides) → SidesFit z → row_width z ≤ 542
row_few z f = omega (arith, f.moved_along.high, f.standing_along.high)

-- the strips of a shape lie in its box
pub strips_in_lem : (d : Direction) (s : Shape) → StripsIn (extent d s) (extent (other d) s) (entries d s)
strips_in_lem d s =
    record {
      each = λ i l.
          let m = strips_maximal d s _ (at_member (strips d s) i l) in
          record { some = m.some; within = m.within; line = m.line };
    }

-- so many rows of bits are small
pub rows_small_lem : (z : Sides) → SidesFit z → (n : ℕ) → n ≤ 543 → n * row_width z ≤ 543 * 542
rows_small_lem z f n l = mul-le-mul l (row_few z f)

-- the moved piece's rows of bits are small
pub marks_small : (z : Sides) → SidesFit z → z.moved_across * row_width z ≤ 271 * 542
marks_small z f = mul-le-mul f.moved_across.high (row_few z f)

-- no map needs more scratch than the bound
pub scratch_most : (z : Sides) → SidesFit z → scratch_words z ≤ scratch_bound
scratch_most z f = let h = marks_small z f in omega arith

-- strips of a box lie in a string of its rows
pub strips_fit : (w up size levels room along across : ℕ) (es : List (List ℕ)) → StripsIn along across es → along ≤ w → along < 2 ^ levels
    → (across + up) * w / 64 + size ≤ room → (across + up) * w < length_limit → StripsFit w up size levels room es
strips_fit w up size levels room along across es b lw ll lr ls i l =
    let e = b.each i l in
    let h : ((strip_at es i).line + up + 1) * w ≤ (across + up) * w = mul-le-mul_right w (omega (arith, e.line)) in
    let x : ((strip_at es i).line + up + 1) * w ≡ ((strip_at es i).line + up) * w + w = omega arith in
    let c = e.within in
    let p : place_of w up (strip_at es i) + (strip_at es i).count ≤ (across + up) * w = omega arith in
    record { some = e.some; few = omega arith; within = omega arith; below = omega arith }

-- strips of a box lie in a larger one
pub strips_wider : (along across along' across' : ℕ) (es : List (List ℕ)) → along ≤ along' → across ≤ across' → StripsIn along across es
    → StripsIn along' across' es
strips_wider along across along' across' es la lc b =
    record {
      each = λ i l.
          let e = b.each i l in
          record { some = e.some; within = omega (arith, e.within); line = omega (arith, e.line) };
    }

-- the moved piece's strips are marked within the scratch
pub marks_fit : (z : Sides) → SidesFit z → (w size n : ℕ) → w ≡ row_width z → size ≡ mark_words z → ScratchRoom z n → (extra : ℕ) (es : List (List ℕ))
    → MovedIn z extra es → (size ≤ n) × StripsFit w 0 5 9 n es × (w < 1000)
marks_fit z f w size n ew es room extra ss m =
    let b = strips_wider _ _ z.moved_along z.moved_across ss (omega arith) (omega arith) m.strips in
    let H : ℕ = z.moved_across in
    let e : (H + 0) * w ≡ H * row_width z = ap₂ ◌*◌ (add-zero H) ew in
    let h = marks_small z f in
    let r = row_few z f in
    let o = room.enough in
    (omega arith, strips_fit w 0 5 9 n z.moved_along H ss b (omega arith) (omega (arith, f.moved_along.high)) (omega arith) (omega arith), omega arith)

-- and its levels stand within it
pub level_room : (z : Sides) → SidesFit z → (along size levels : ℕ) → size ≡ mark_words z → LevelsFor along levels → (xs ms : List ℕ)
    → length ms ≡ length xs → ScratchRoom z (length xs) → LevelRoom ms size levels
level_room z f along size levels es n xs ms e room =
    let h = marks_small z f in
    let o = room.enough in
    let l : levels * size ≤ 9 * size = mul-le-mul_right size n.few in
    record { some = n.some; few = n.few; room = omega arith; short = omega (arith, room.short) }

-- the standing piece's strips are added within the map
pub map_fits : (z : Sides) → SidesFit z → (w size levels n : ℕ) → w ≡ row_width z → size ≡ mark_words z → LevelsFor z.standing_along levels → MapRoom z n
    → (es : List (List ℕ)) → StripsIn z.standing_along z.standing_across es → StripsFit w 1 size levels n es × (w < 1000)
map_fits z f w size levels n ew es v room ss b =
    let G : ℕ = z.standing_across in
    let H : ℕ = z.moved_across in
    let e : (G + 1) * w ≡ (G + 1) * row_width z = ap (λ (k : ℕ). (G + 1) * k) ew in
    let q : (H + G + 1) * row_width z ≡ H * row_width z + (G + 1) * row_width z = omega arith in
    let h = rows_small_lem z f (H + G + 1) (omega (arith, f.moved_across.high, f.standing_across.high)) in
    let r = row_few z f in
    let o = room.enough in
    (strips_fit w 1 size levels n z.standing_along G ss b (omega arith) v.enough (omega arith) (omega arith), omega arith)

-- the levels up to that of a side
pub levels_for : (along k : ℕ) → LevelOf along k → LevelsFor along (k + 1)
levels_for along k v =
    let e : k + 1 - 1 ≡ k = omega arith in
    record {
      some = omega arith;
      few = omega (arith, v.few);
      enough = omega (arith, v.high, doubled k);
      narrow = subst (λ (n : ℕ). 2 ^ n ≤ along) (sym e) v.low;
    }

-- levels by the size that the code has
pub level_as : (z : Sides) (size levels : ℕ) (ws : List ℕ) → size ≡ mark_words z → Levels ws (mark_words z) levels → Levels ws size levels
level_as z size levels ws e h = subst (λ (k : ℕ). Levels ws k levels) (sym e) h

-- what was filled with the numbers that the code has
pub filled_from : (es : List (List ℕ)) (z : Sides) (marks : List ℕ) (w size n : ℕ) (xs ys zs : List ℕ) → w ≡ row_width z → size ≡ mark_words z → n ≡ map_words z
    → Cleared n xs ys → Made ys (level_of marks size 0) es w 1 (length es) zs → MapFilled es z (level_of marks (mark_words z) 0) xs zs
filled_from es z marks w size n xs ys zs ew ez en k m =
    record {
      cleared = ys;
      clear = subst (λ (i : ℕ). Cleared i xs ys) en k;
      made = subst₂ (λ (i j : ℕ). Made ys (level_of marks j 0) es i 1 (length es) zs) ew ez m;
    }
