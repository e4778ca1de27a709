-- Document 02, point 3, the preview of a move of a lent layout: where no cause refuses it, the layout with the piece placed anew passes every
-- cause that the calls for the sum and for the used length ask, so that they give the figures once the move is made. Assumes nothing.
use Rattle.list_laws.proofs.Kit.{◌∙◌, ◌≡◌, ap, ap₂, refl, sym, subst, false, not, true, List, [], ◌<◌, ℕ, arith, length, length-map, length-set, set, set-get_or}
use Rattle.list_laws.proofs.Kit.{get_or, get_or-set_other, get_or-set_same, eqb-true, not-false, ℕ_discrete}
use Rattle.model.specs.Layout.{Job, Layout, allowed, inside, origin, place_of, with_place, weighted_sum, used_length, figures}
use Rattle.model.specs.Lent.{Lent, job_of}
use Rattle.model.specs.Buffer.{turn_passes, entry_of, placement_of, layout_of}
use Rattle.model.specs.Refusal.{given}
use Rattle.model.specs.Calls.{allowed_degrees, some_turn_wrong, some_outside, layout_length, weights_length}
use Rattle.model.specs.Calls.{layout_causes, weighted_sum_call, used_length_call, placing_causes, preview_causes, preview_call}
use Rattle.model.specs.declared.Figures.{Figures}
use Rattle.model.specs.declared.Placement.{Placement}
use Rattle.list_laws.proofs.Bounded.{any_none, none_any}
use Rattle.text_laws.specs.Outcomes.{NoCause}
use Rattle.text_laws.proofs.Outcomes.{unless_given, given_unless}
use Rattle.text_laws.proofs.Entries.{layout_set}
use Rattle.descent_laws.specs.Claims.{ValidLayout}
use Rattle.descent_laws.specs.LentLayout.{Laid}
use Rattle.descent_laws.proofs.Descent.{valid_set}
use Rattle.call_laws.specs.Overlaps.{SumClaims}
use Rattle.call_laws.specs.Lengths.{UsedClaims}
use Rattle.call_laws.proofs.Layouts.{turn_passes_lem, layout_valid, PlacingGiven, placing_given, placing_free}
use Rattle.call_laws.proofs.Overlaps.{weighted_given}
use Rattle.call_laws.proofs.Lengths.{used_given}
use Rattle.call_laws.specs.Previews.{entries_with, PreviewClaims}

-- ── a layout buffer with one entry written anew ──

-- a piece's turn there, whether it is the piece that is placed anew or another
turn_kept : (j : Job) (es : List (List ℕ)) (i : ℕ) (p : Placement) → i < length es → allowed j i p.turn ≡ true → (k : ℕ)
    → not (turn_passes (allowed j k) (get_or (get_or es k []) 0 0)) ≡ false → Dec (k ≡ i)
    → not (turn_passes (allowed j k) (get_or (get_or (entries_with es i p) k []) 0 0)) ≡ false
turn_kept j es i p l a k g (yes e) = rw (e, get_or-set_same es i (entry_of p) [] l) (ap not (turn_passes_lem (allowed j i) p.turn a))
turn_kept j es i p l a k g (no n) = rw (get_or-set_other es i k (entry_of p) [] n) g

-- no turn is wrong, where none was and the new one is allowed
turns_kept : (j : Job) (es : List (List ℕ)) (i : ℕ) (p : Placement) → i < length es → allowed j i p.turn ≡ true → some_turn_wrong j es ≡ false
    → some_turn_wrong j (entries_with es i p) ≡ false
unfolding some_turn_wrong allowed_degrees
turns_kept j es i p l a h =
    none_any j.size.count _ (λ k b. turn_kept j es i p l a k (any_none j.size.count _ h k b) (ℕ_discrete k i))

-- no placement of a valid layout is outside
none_outside : (j : Job) (v : Layout) → ValidLayout j v → some_outside j v ≡ false
unfolding some_outside
none_outside j v h = none_any j.size.count _ (λ k b. ap not (h.inside_sheet k b))

-- ── what is known where no cause of a preview is there ──

-- none of those of placing the piece is
pub placing_none : (l : Lent) (es : List (List ℕ)) (ws : List ℕ) (i : ℕ) (p : Placement) → NoCause (preview_causes l es ws i p)
    → NoCause (placing_causes l es ws i p.turn)
placing_none l es ws i p h = (h.0, (h.1.0, (h.1.1.0, (h.1.1.1.0, (h.1.1.1.1.0, (h.1.1.1.1.1.0, tt))))))

-- and the new placement is inside
pub placed_inside : (l : Lent) (es : List (List ℕ)) (ws : List ℕ) (i : ℕ) (p : Placement) → NoCause (preview_causes l es ws i p)
    → inside (job_of l) i p ≡ true
placed_inside l es ws i p h = not-false _ h.1.1.1.1.1.1.0

module _ (l : Lent) (es : List (List ℕ)) (ws : List ℕ) (i : ℕ) (p : Placement) (m : PlacingGiven l es ws i p.turn) (within : inside (job_of l) i p ≡ true)
  where
    -- the layout as it is lent is valid
    old_valid : ValidLayout (job_of l) (layout_of es)
    old_valid = layout_valid l es m.size m.turns m.outside

    -- and so is the moved one
    new_valid : ValidLayout (job_of l) (with_place (layout_of es) i p)
    unfolding job_of
    new_valid = valid_set (job_of l) (layout_of es) i p old_valid m.piece within m.turn

    -- the buffer has an entry a piece
    long : length es ≡ l.size.count
    long = eqb-true (length es) l.size.count (not-false _ m.size)

    there : i < length es
    there = let e = long in let b = m.piece in omega arith

    -- none of the causes of the moved buffer is there
    new_size : (layout_length l (entries_with es i p)).there ≡ false
    new_size = rw (length-set es i (entry_of p)) m.size

    new_turns : some_turn_wrong (job_of l) (entries_with es i p) ≡ false
    new_turns = turns_kept (job_of l) es i p there m.turn m.turns

    new_outside : some_outside (job_of l) (layout_of (entries_with es i p)) ≡ false
    new_outside = rw (layout_set es i p) (none_outside (job_of l) (with_place (layout_of es) i p) new_valid)

    -- so the calls give the sum and the used length of the moved layout
    sum_after : weighted_sum_call l (entries_with es i p) ws ≡ given (weighted_sum (job_of l) ws (with_place (layout_of es) i p))
    unfolding weighted_sum_call
    sum_after =
        unless_given _ (weighted_sum (job_of l) ws (layout_of (entries_with es i p)))
        (m.job, (new_size, (m.weights_size, (m.weights_right, (new_turns, (new_outside, tt))))))
        ∙ ap (λ v. given (weighted_sum (job_of l) ws v)) (layout_set es i p)

    length_after : used_length_call l (entries_with es i p) ≡ given (used_length (job_of l) (with_place (layout_of es) i p))
    unfolding used_length_call layout_causes
    length_after =
        unless_given _ (used_length (job_of l) (layout_of (entries_with es i p))) (m.job, (new_size, (new_turns, (new_outside, tt))))
        ∙ ap (λ v. given (used_length (job_of l) v)) (layout_set es i p)

    -- a piece that is placed where it lies leaves the layout as it is
    at_rest_lem : p ≡ place_of (layout_of es) i → layout_of es ≡ with_place (layout_of es) i p
    at_rest_lem e = sym (ap (set (layout_of es) i) e ∙ set-get_or (layout_of es) i origin)

    -- so the calls give the same of the layout as it is
    sum_at_rest_lem : p ≡ place_of (layout_of es) i → weighted_sum_call l es ws ≡ given (weighted_sum (job_of l) ws (with_place (layout_of es) i p))
    unfolding weighted_sum_call
    sum_at_rest_lem e =
        unless_given _ (weighted_sum (job_of l) ws (layout_of es)) (m.job, (m.size, (m.weights_size, (m.weights_right, (m.turns, (m.outside, tt))))))
        ∙ ap (λ v. given (weighted_sum (job_of l) ws v)) (at_rest_lem e)

    length_at_rest_lem : p ≡ place_of (layout_of es) i → used_length_call l es ≡ given (used_length (job_of l) (with_place (layout_of es) i p))
    unfolding used_length_call layout_causes
    length_at_rest_lem e =
        unless_given _ (used_length (job_of l) (layout_of es)) (m.job, (m.size, (m.turns, (m.outside, tt))))
        ∙ ap (λ v. given (used_length (job_of l) v)) (at_rest_lem e)

    -- what is claimed of the figures
    figures_claimed : PreviewClaims l es ws i p (figures (job_of l) ws (with_place (layout_of es) i p))
    unfolding figures
    figures_claimed =
        let n : i < length (layout_of es) = (let e = length-map es placement_of in let b = there in omega arith) in
        record {
          there = get_or-set_same (layout_of es) i p origin n;
          others_stay = λ k d. get_or-set_other (layout_of es) i k p origin d;
          valid = new_valid;
          sum_of =
              subst (λ v. SumClaims (job_of l) ws v (weighted_sum (job_of l) ws (with_place (layout_of es) i p))) (layout_set es i p)
              (weighted_given l (entries_with es i p) ws _ sum_after);
          length_is = refl;
          length_of =
              subst (λ v. UsedClaims (job_of l) v (used_length (job_of l) (with_place (layout_of es) i p))) (layout_set es i p)
              (used_given l (entries_with es i p) _ length_after);
          sum_after_move = sum_after;
          length_after_move = length_after;
          sum_at_rest = sum_at_rest_lem;
          length_at_rest = length_at_rest_lem;
        }

-- figures that the call gives
pub preview_given : (l : Lent) (es : List (List ℕ)) (ws : List ℕ) (i : ℕ) (p : Placement) (f : Figures) → preview_call l es ws i p ≡ given f
    → PreviewClaims l es ws i p f
unfolding preview_call
preview_given l es ws i p f e =
    let u = given_unless (preview_causes l es ws i p) (figures (job_of l) ws (with_place (layout_of es) i p)) f e in
    rw (← u.same) (figures_claimed l es ws i p (placing_given l es ws i p.turn (placing_none l es ws i p u.none)) (placed_inside l es ws i p u.none))

-- a piece of a valid layout lies inside, in a turn allowed to it
own_turn : (l : Lent) (es : List (List ℕ)) (i : ℕ) → ValidLayout (job_of l) (layout_of es) → i < l.size.count
    → allowed (job_of l) i (place_of (layout_of es) i).turn ≡ true
unfolding job_of
own_turn l es i valid b = valid.turn_allowed i b

own_inside : (l : Lent) (es : List (List ℕ)) (i : ℕ) → ValidLayout (job_of l) (layout_of es) → i < l.size.count
    → inside (job_of l) i (place_of (layout_of es) i) ≡ true
unfolding job_of
own_inside l es i valid b = valid.inside_sheet i b

-- figures are given wherever the sum of the layout is and the new placement is inside in a turn allowed to the piece
pub preview_gives : (l : Lent) (es : List (List ℕ)) (ws : List ℕ) (i : ℕ) (p : Placement) (sum : ℕ) → weighted_sum_call l es ws ≡ given sum
    → i < l.size.count → allowed (job_of l) i p.turn ≡ true → inside (job_of l) i p ≡ true
    → preview_call l es ws i p ≡ given (figures (job_of l) ws (with_place (layout_of es) i p))
unfolding weighted_sum_call preview_call
preview_gives l es ws i p sum e b a within =
    let h = (given_unless _ (weighted_sum (job_of l) ws (layout_of es)) sum e).none in
    let m : PlacingGiven l es ws i p.turn =
    record {
      job = h.0;
      size = h.1.0;
      weights_size = h.1.1.0;
      weights_right = h.1.1.1.0;
      turns = h.1.1.1.1.0;
      outside = h.1.1.1.1.1.0;
      piece = b;
      turn = a;
    } in
    let free = placing_free l es ws i p.turn m in
    unless_given _ _
    (free.0, (free.1.0, (free.1.1.0, (free.1.1.1.0, (free.1.1.1.1.0, (free.1.1.1.1.1.0, (ap not within, tt)))))))

-- with the piece's own placement they are the present ones
pub preview_at_rest : (l : Lent) (es : List (List ℕ)) (ws : List ℕ) (i sum used : ℕ) → weighted_sum_call l es ws ≡ given sum → used_length_call l es ≡ given used
    → i < l.size.count → preview_call l es ws i (place_of (layout_of es) i) ≡ given (record { sum = sum; length = used })
unfolding weighted_sum_call used_length_call figures
preview_at_rest l es ws i sum used e f b =
    let u = given_unless _ (weighted_sum (job_of l) ws (layout_of es)) sum e in
    let v = given_unless _ (used_length (job_of l) (layout_of es)) used f in
    let h = u.none in
    let valid = layout_valid l es h.1.0 h.1.1.1.1.0 h.1.1.1.1.1.0 in
    preview_gives l es ws i (place_of (layout_of es) i) sum e b (own_turn l es i valid b) (own_inside l es i valid b)
    ∙ ap (λ w. given (figures (job_of l) ws w)) (set-get_or (layout_of es) i origin)
    ∙ ap₂ (λ (a c : ℕ). given (record { sum = a; length = c })) u.same v.same

-- the moved layout is one that calls take
pub moved_laid : (l : Lent) (es : List (List ℕ)) (i : ℕ) (p : Placement) → Laid l es → i < l.size.count → allowed (job_of l) i p.turn ≡ true
    → inside (job_of l) i p ≡ true → Laid l (entries_with es i p)
unfolding job_of
moved_laid l es i p h b a s =
    record {
      well = h.well;
      whole = length-set es i (entry_of p) ∙ h.whole;
      valid = subst (ValidLayout (job_of l)) (sym (layout_set es i p)) (valid_set (job_of l) (layout_of es) i p h.valid b s a);
    }
