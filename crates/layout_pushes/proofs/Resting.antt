-- A loop that pushes until nothing slides: what is still to come from the present layout, added to what has slid, is what comes from the first one.
-- Assumes nothing.
use Rattle.list_laws.proofs.Kit.{◌∙◌, ◌≡◌, ◌≢◌, ap, refl, sym, List, ◌+◌, ◌<◌, ℕ, arith, length}
use Rattle.model.specs.Layout.{Job, Layout}
use Rattle.model.specs.Buffer.{layout_of, entries_of}
use Rattle.model.specs.Compact.{Compacted, at_rest, then_slides, corner_sum, until_at_rest}
use Rattle.compact_laws.specs.Pushed.{Pushed}
use Rattle.compact_laws.proofs.Rest.{rest_still, rest_step}
use Rattle.layout_pushes.proofs.Pushing.{read_back}

-- so many pixels have slid from the layout v on, and w is the present layout
pub record Pushing (push : Layout → Compacted) (v w : Layout) (slid : ℕ) : Type 0 where
  pub ends : (until_at_rest push w).layout ≡ (until_at_rest push v).layout
  pub slides : slid + (until_at_rest push w).slid ≡ (until_at_rest push v).slid
  pub falls : slid + corner_sum w ≡ corner_sum v

-- nothing has slid yet
pub pushing_begin : (push : Layout → Compacted) (v : Layout) → Pushing push v v 0
pushing_begin push v = record { ends = refl; slides = omega arith; falls = omega arith }

module _ (j : Job) (n : ℕ) (push : Layout → Compacted) (each : (w : Layout) → length w ≡ n → Pushed j w (push w)) (v w : Layout) (slid : ℕ)
    (h : Pushing push v w slid) (long : length w ≡ n) (more : ℕ) (fs : List (List ℕ)) (told : more ≡ (push w).slid) (at : fs ≡ entries_of (push w).layout)
  where
    -- a push that slides nothing: the layout is at rest
    rested : more ≡ 0 → until_at_rest push w ≡ at_rest w
    rested e = rest_still push w (sym told ∙ e)

    -- so all that slides has slid
    pub rest_slid : more ≡ 0 → slid ≡ (until_at_rest push v).slid
    rest_slid e =
        let z : (until_at_rest push w).slid ≡ 0 = ap (λ (c : Compacted). c.slid) (rested e) in
        let s = h.slides in
        omega arith

    -- and the buffer holds the layout at the end
    pub rest_layout : more ≡ 0 → fs ≡ entries_of (until_at_rest push v).layout
    rest_layout e =
        at
        ∙ ap entries_of
        ((each w long).still (sym told ∙ e) ∙ sym (ap (λ (c : Compacted). c.layout) (rested e)) ∙ h.ends)

    -- a push that slides something lowers the sum of all corner coordinates
    pub push_falls : more ≢ 0 → corner_sum (layout_of fs) < corner_sum w
    push_falls d =
        let back : layout_of fs ≡ (push w).layout = read_back (push w).layout fs at in
        let fall : (push w).slid + corner_sum (push w).layout ≡ corner_sum w = (each w long).slid_is_fall in
        let same : corner_sum (layout_of fs) ≡ corner_sum (push w).layout = ap corner_sum back in
        omega (arith, told, d)

    -- and the loop goes on from there
    pub pushing_more : more ≢ 0 → Pushing push v (layout_of fs) (slid + more)
    pushing_more d =
        let back : layout_of fs ≡ (push w).layout = read_back (push w).layout fs at in
        let step : until_at_rest push w ≡ then_slides (push w) (until_at_rest push) = rest_step j n push each w long (λ z. d (told ∙ z)) in
        let fall : (push w).slid + corner_sum (push w).layout ≡ corner_sum w = (each w long).slid_is_fall in
        let same : corner_sum (layout_of fs) ≡ corner_sum (push w).layout = ap corner_sum back in
        let past : (until_at_rest push w).slid ≡ (push w).slid + (until_at_rest push (push w).layout).slid = ap (λ (c : Compacted). c.slid) step in
        let next : (until_at_rest push (layout_of fs)).slid ≡ (until_at_rest push (push w).layout).slid = ap (λ (u : Layout). (until_at_rest push u).slid) back in
        let s = h.slides in
        let f = h.falls in
        record {
          ends = ap (λ (u : Layout). (until_at_rest push u).layout) back ∙ sym (ap (λ (c : Compacted). c.layout) step) ∙ h.ends;
          slides = omega (arith, told);
          falls = omega (arith, told);
        }
