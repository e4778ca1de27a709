-- A part of a slice, written anew; the classes before the maps stay as they are. Assumes nothing.
use Rattle.list_laws.proofs.Kit.{◌∙◌, ◌≡◌, ap, sym, List, ◌++◌, ◌+◌, ◌-◌, ◌<◌, ◌≤◌, ℕ, arith, get_or-append, append-nil, drop, drop-append_seam}
use Rattle.list_laws.proofs.Kit.{drop_of_length-le, get_or, get_or-append-add, get_or-drop, get_or-take, length, length-append, length-drop, length-take-le, take}
use Rattle.list_laws.proofs.Kit.{take_all}
use Rattle.model.specs.Layout.{Job}
use Rattle.bit_laws.specs.Bit.{length_limit}
use Rattle.search_classes.specs.Classes.{Classes}
use Rattle.search_map_store.specs.Store.{MapsKept, Forgotten}
use Rattle.search_map_store.proofs.Keeping.{none_kept}
use Rattle.search_map_laws.specs.Keys.{direction_of, moved_of, standing_of}
use Rattle.search_lines.specs.Kept.{class_words, map_slots, least_maps, MapsReady}

-- ── a part of a list, written anew ──

module _ (xs ys : List ℕ) (a n : ℕ) (full : length ys ≡ n) (room : a + n ≤ length xs) where
  -- the list with ys in the place of the n elements from a on
  abbrev put : List ℕ
  put = take a xs ++ (ys ++ drop n (drop a xs))

  front : length (take a xs) ≡ a
  front = length-take-le a xs (omega arith)

  -- before the part it is as it was
  pub put_before : (k : ℕ) → k < a → get_or put k 0 ≡ get_or xs k 0
  put_before k h =
      let f = front in
      get_or-append (take a xs) (ys ++ drop n (drop a xs)) 0 k (omega arith) ∙ get_or-take a xs k 0 h

  -- from a on
  put_from : (k : ℕ) → get_or put (a + k) 0 ≡ get_or (ys ++ drop n (drop a xs)) k 0
  put_from k =
      let e : a + k ≡ length (take a xs) + k = (let f = front in omega arith) in
      ap (λ (m : ℕ). get_or put m 0) e ∙ get_or-append-add (take a xs) (ys ++ drop n (drop a xs)) k 0

  -- the part is ys
  pub put_in : (k : ℕ) → k < n → get_or put (a + k) 0 ≡ get_or ys k 0
  put_in k h = put_from k ∙ get_or-append ys (drop n (drop a xs)) 0 k (omega arith)

  -- after the part it is as it was
  pub put_after : (k : ℕ) → a + n ≤ k → get_or put k 0 ≡ get_or xs k 0
  put_after k h =
      let m : ℕ = k - (a + n) in
      let e : k ≡ a + (n + m) = omega arith in
      let e' : n + m ≡ length ys + m = omega arith in
      ap (λ (i : ℕ). get_or put i 0) e ∙ put_from (n + m) ∙ ap (λ (i : ℕ). get_or (ys ++ drop n (drop a xs)) i 0) e'
      ∙ get_or-append-add ys (drop n (drop a xs)) m 0 ∙ get_or-drop n (drop a xs) m 0 ∙ get_or-drop a xs (n + m) 0 ∙ ap (λ (i : ℕ). get_or xs i 0) (sym e)

  -- it is as long as it was
  pub put_length : length put ≡ length xs
  put_length = let f = front in simp (length-append, length-drop) (omega arith)

-- ── the maps, past the classes ──

-- the words past the classes, as they are lent
pub rest_lent : (xs : List ℕ) (n : ℕ) → n ≡ length xs - class_words → take n (drop class_words xs) ≡ drop class_words xs
rest_lent xs n e = take_all n (drop class_words xs) (simp length-drop (omega arith))

module _ (j : Job) (xs ys : List ℕ) (n : ℕ) (rest : n ≡ length xs - class_words) (full : length ys ≡ n) (few : j.size.count ≤ class_words)
    (classes : Classes j xs) (room : least_maps ≤ length xs) (short : length xs < length_limit)
  where
    -- they lie in the slice
    abbrev fits : class_words + n ≤ length xs
    fits = omega arith

    -- the slice with the words past the classes written anew
    abbrev renewed : List ℕ
    renewed = put xs ys class_words n full fits

    -- they are those that were written
    pub rest_is : drop class_words renewed ≡ ys
    rest_is =
        let f : length (take class_words xs) ≡ class_words = length-take-le class_words xs (omega arith) in
        let z : length (drop class_words xs) ≤ n = simp length-drop (omega arith) in
        ap (λ (m : ℕ). drop m renewed) (sym f)
        ∙ drop-append_seam (take class_words xs) (ys ++ drop n (drop class_words xs))
        ∙ ap (λ (zs : List ℕ). ys ++ zs) (drop_of_length-le (drop class_words xs) z)
        ∙ append-nil ys

    -- the classes are as they were
    classes_stay : Classes j renewed
    classes_stay i l = let e : get_or renewed i 0 ≡ get_or xs i 0 = put_before xs ys class_words n full fits i (omega arith) in rw e (classes i l)

    -- so the slice is ready if they are
    pub ready_again : MapsKept map_slots direction_of (moved_of j) (standing_of j) ys → MapsReady j renewed
    ready_again kept =
        let e = put_length xs ys class_words n full fits in
        record { classes = classes_stay; kept = rw rest_is kept; room = omega arith; short = omega arith }

    -- and so it is when all maps are forgotten
    pub ready_forgotten : (zs : List ℕ) → length zs ≡ n → Forgotten map_slots zs ys → MapsReady j renewed
    ready_forgotten zs long g = ready_again (none_kept map_slots direction_of (moved_of j) (standing_of j) zs ys (omega arith) g)
