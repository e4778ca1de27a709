-- A store of strips with one more piece made: its part lies apart from those of the others, so that theirs stand as before. Assumes nothing.
use Rattle.list_laws.proofs.Kit.{◌∙◌, ◌≡◌, ◌≢◌, ap, ap₂, subst, sym, false, true, ⊎_elim, List, [], ◌∷◌, map, ◌+◌, ◌-◌, ◌<◌, ◌≤◌, ℕ, eq-or-lt_of_le, arith, ltb}
use Rattle.list_laws.proofs.Kit.{drop, get_or, length, length-map, length-set, set, take, get_or-set_other, get_or-set_same, length-sets, ltb-false}
use Rattle.list_laws.proofs.Kit.{ltb-true, ℕ_discrete}
use Rattle.model.specs.Strip.{strips}
use Rattle.model.specs.Layout.{place_of}
use Rattle.model.specs.Buffer.{strip_entry, layout_of}
use Rattle.model.specs.Lent.{Lent, lent_by, job_of, pixel_start, entry_area, area_bound}
use Rattle.model.specs.declared.Direction.{Direction}
use Rattle.model.specs.declared.JobSize.{JobSize}
use Rattle.list_laws.proofs.Stores.{part_before, part_stored, part_after}
use Rattle.list_laws.proofs.Tests.{decided}
use Rattle.job_laws.proofs.Checked.{facts}
use Rattle.job_laws.proofs.Starts.{start_end}
use Rattle.descent_laws.specs.LentLayout.{Laid}
use Rattle.strip_scan.specs.Put.{Appended}
use Rattle.strip_scan.proofs.Counts.{strips_few}
use Rattle.pair_measure.proofs.Readies.{piece_ready}
use Rattle.pair_measure.proofs.Stores.{any_size}
use Rattle.layout_strips.specs.Kept.{Drawable, drawn_shape, span_start, span_end, span_made, Stands, Kept, NoneMade}

-- a layout that calls take can be drawn
pub laid_drawable : (l : Lent) (es : List (List ℕ)) → Laid l es → Drawable l.table es
laid_drawable l es laid =
    let f = facts l laid.well in
    let n = laid.whole in
    record {
      few = let few = f.few_pieces in omega arith;
      ready = λ i b. piece_ready l es laid i (omega arith);
      areas = rw n f.areas;
    }

-- a store in which none is made
pub kept_none : (d : Direction) (table : List (List ℕ)) (pixels : List ℕ) (es : List (List ℕ)) (store spans : List (List ℕ)) → Drawable table es
    → area_bound ≤ length store → NoneMade spans → Kept d table pixels es store spans
kept_none d table pixels es store spans w room none =
    let few = w.few in
    record { room = room; long = (let e = none.long in omega arith); made = λ i b m. absurd (m (none.none i (omega arith))) }

module _ (d : Direction) (table : List (List ℕ)) (pixels : List ℕ) (es : List (List ℕ)) (w : Drawable table es) where
  -- a piece has no more strips than its box has pixels
  part_few : (size : JobSize) (m : ℕ) → length (strips d (drawn_shape size table pixels es m)) ≤ entry_area table m
  unfolding job_of
  part_few size m = strips_few d (place_of (layout_of es) m).turn ((job_of (lent_by size table pixels)).piece m).shape

  -- so they end before those of a later piece begin
  ends_before : (size : JobSize) (m n : ℕ) → m < n → pixel_start table m + length (strips d (drawn_shape size table pixels es m)) ≤ pixel_start table n
  ends_before size m n h = omega (arith, part_few size m, start_end table m n h)

  module _ (store spans : List (List ℕ)) (k : Kept d table pixels es store spans) where
    -- what is made ends in the store
    pub made_within : (i : ℕ) → i < length es → span_made spans i ≢ 0 → (span_start spans i ≤ span_end spans i) × (span_end spans i ≤ length store)
    made_within i b m =
        let s = k.made i b m in
        let from = s.start in
        let to = s.end any_size in
        let far = ends_before any_size i (length es) b in
        let all = w.areas in
        let room = k.room in (omega arith, omega arith)

    module _ (i : ℕ) (b : i < length es) (after : List (List ℕ)) (end : ℕ)
        (a : (size : JobSize) → Appended (strips d (drawn_shape size table pixels es i)) store (pixel_start table i) after end)
      where
        -- the spans with its own written
        spans' : List (List ℕ)
        spans' = set spans i (pixel_start table i ∷ end ∷ 1 ∷ [])

        -- its strips have room
        fits : (size : JobSize) → pixel_start table i + length (map strip_entry (strips d (drawn_shape size table pixels es i))) ≤ length store
        fits size =
            let few = ends_before size i (length es) b in
            let all = w.areas in
            let room = k.room in simp length-map (omega arith)

        -- its span, and that of another piece
        own : get_or spans' i [] ≡ pixel_start table i ∷ end ∷ 1 ∷ []
        unfolding spans'
        own = get_or-set_same spans i (pixel_start table i ∷ end ∷ 1 ∷ []) [] (let l = k.long in let f = w.few in omega arith)

        others : (m : ℕ) → m ≢ i → get_or spans' m [] ≡ get_or spans m []
        unfolding spans'
        others m n = get_or-set_other spans i m (pixel_start table i ∷ end ∷ 1 ∷ []) [] n

        -- its strips stand
        stands_new : Stands d table pixels es after spans' i
        stands_new =
            record {
              start = ap (λ (s : List ℕ). get_or s 0 0) own;
              end = λ size. ap (λ (s : List ℕ). get_or s 1 0) own ∙ (a size).end;
              holds = λ size.
                  let new = map strip_entry (strips d (drawn_shape size table pixels es i)) in
                  let e = (a size).end in
                  let long : end - pixel_start table i ≡ length new = simp length-map (omega arith) in
                  rw (own, long, (a size).stored) (part_stored store new (pixel_start table i) (fits size));
            }

        -- the part of another piece is as before
        apart : (size : JobSize) (m : ℕ) → m ≢ i
            → take (length (strips d (drawn_shape size table pixels es m))) (drop (pixel_start table m) after)
            ≡ take (length (strips d (drawn_shape size table pixels es m))) (drop (pixel_start table m) store)
        apart size m n =
            let new = map strip_entry (strips d (drawn_shape size table pixels es i)) in
            let many = length (strips d (drawn_shape size table pixels es m)) in
            rw (a size).stored
            (⊎_elim
            (λ (h : ltb m i ≡ true). part_before store new (pixel_start table i) (fits size) (pixel_start table m) many (ends_before size m i (ltb-true m i h)))
            (λ (h : ltb m i ≡ false).
            ⊎_elim (λ (e : i ≡ m). absurd (n (sym e)))
            (λ (l : i < m).
            part_after store new (pixel_start table i) (fits size) (pixel_start table m) many
            (let few = ends_before size i m l in simp length-map (omega arith)))
            (eq-or-lt_of_le (ltb-false m i h)))
            (decided (ltb m i)))

        -- so its strips stand
        stands_other : (m : ℕ) → m ≢ i → Stands d table pixels es store spans m → Stands d table pixels es after spans' m
        stands_other m n s =
            record {
              start = ap (λ (s : List ℕ). get_or s 0 0) (others m n) ∙ s.start;
              end = λ size. ap (λ (s : List ℕ). get_or s 1 0) (others m n) ∙ s.end size;
              holds = λ size.
                  let from = s.start in
                  let to = s.end size in
                  let long : span_end spans m - span_start spans m ≡ length (strips d (drawn_shape size table pixels es m)) = omega arith in
                  rw (others m n)
                  (ap₂ (λ (f n : ℕ). take n (drop f after)) from long ∙ apart size m n ∙ sym (ap₂ (λ (f n : ℕ). take n (drop f store)) from long)
                  ∙ s.holds size);
            }

        -- by whether it is the piece that is made now
        stands_step : (m : ℕ) → m < length es → span_made spans' m ≢ 0 → Dec (m ≡ i) → Stands d table pixels es after spans' m
        stands_step m c q (yes e) = subst (Stands d table pixels es after spans') (sym e) stands_new
        stands_step m c q (no n) = stands_other m n (k.made m c (λ z. q (ap (λ (s : List ℕ). get_or s 2 0) (others m n) ∙ z)))

        -- a piece that was made still is
        made_step : (m : ℕ) → span_made spans m ≢ 0 → Dec (m ≡ i) → span_made spans' m ≢ 0
        made_step m q (yes e) = λ z.
            let one : ◌≡◌ {A = ℕ} 1 0 = sym (ap (λ (s : List ℕ). get_or s 2 0) (ap (λ (n : ℕ). get_or spans' n []) e ∙ own)) ∙ z in absurd (omega arith)
        made_step m q (no n) = λ z. q (sym (ap (λ (s : List ℕ). get_or s 2 0) (others m n)) ∙ z)

        -- what is kept then
        pub kept_more : Kept d table pixels es after (set spans i (pixel_start table i ∷ end ∷ 1 ∷ []))
        unfolding spans'
        kept_more =
            record {
              room = rw ((a any_size).stored, length-sets) k.room;
              long = rw length-set k.long;
              made = λ m c q. stands_step m c q (ℕ_discrete m i);
            }

        -- the piece is made
        pub made_now : span_made (set spans i (pixel_start table i ∷ end ∷ 1 ∷ [])) i ≢ 0
        unfolding spans'
        made_now = λ z. let one : ◌≡◌ {A = ℕ} 1 0 = sym (ap (λ (s : List ℕ). get_or s 2 0) own) ∙ z in absurd (omega arith)

        -- and so is each that was
        pub made_still : (m : ℕ) → span_made spans m ≢ 0 → span_made (set spans i (pixel_start table i ∷ end ∷ 1 ∷ [])) m ≢ 0
        unfolding spans'
        made_still m q = made_step m q (ℕ_discrete m i)
