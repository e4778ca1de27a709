-- Document 01, 'Job text' and 'Start, layout text, sheet', of the public calls: the start layout is what the documents say, a layout that is read is valid, and
-- what is written of a lent layout is read back as that layout. Assumes nothing.
use Rattle.list_laws.proofs.Kit.{◌∙◌, ◌≡◌, ap, eq-eqb, eqb-true, not, not-false, true, List, [], ◌++◌, ◌∷◌, ℕ, zero-add, length}
use Rattle.model.specs.Layout.{Layout}
use Rattle.model.specs.Buffer.{entries_of, layout_of}
use Rattle.model.specs.Start.{start}
use Rattle.model.specs.Lent.{Lent, job_of, lent_well}
use Rattle.model.specs.Refusal.{given, unless}
use Rattle.model.specs.LayoutText.{layout_text, read_layout}
use Rattle.model.specs.Calls.{job_cause, layout_causes, at_least, start_causes, start_call, write_layout_call, read_layout_call}
use Rattle.job_laws.proofs.Checked.{Facts, facts}
use Rattle.text_laws.proofs.Outcomes.{given_unless, given_before, unless_given}
use Rattle.text_laws.specs.Outcomes.{NoCause}
use Rattle.text_laws.proofs.Entries.{entries_read_back}
use Rattle.text_laws.proofs.LayoutRead.{layout_read_placed}
use Rattle.text_laws.proofs.LayoutReadBack.{layout_read_back}
use Rattle.descent_laws.specs.Claims.{ValidLayout}
use Rattle.descent_laws.specs.Start.{StartClaims}
use Rattle.descent_laws.proofs.Lent.{lent_start_claims}
use Rattle.call_laws.proofs.Layouts.{BufferPasses, LockedPass, job_well, layout_valid, locked_given, valid_buffer, locked_buffer}

-- where no cause of a start is there, it is what the documents say
pub start_said : (l : Lent) (es : List (List ℕ)) → NoCause (start_causes l es) → StartClaims (job_of l) (layout_of es) (start (job_of l) (layout_of es))
unfolding job_of
start_said l es h =
    lent_start_claims l (layout_of es) (job_well l h.0)
    (locked_given (job_of l) es (eqb-true (length es) l.size.count (not-false _ h.1.0)) h.1.1.0 h.1.1.1.0)

-- a start layout that the call gives is so
pub start_given : (l : Lent) (es : List (List ℕ)) (v : Layout) → start_call l es ≡ given v → StartClaims (job_of l) (layout_of es) v
unfolding start_call
start_given l es v e =
    let u = given_unless (start_causes l es) (start (job_of l) (layout_of es)) v e in rw (← u.same) (start_said l es u.none)

-- a start is given where the lent buffer holds a valid layout
pub start_taken : (l : Lent) → lent_well l ≡ true → (v : Layout) → ValidLayout (job_of l) v → start_call l (entries_of v) ≡ given (start (job_of l) v)
unfolding start_call job_of
start_taken l well v valid =
    let p : BufferPasses (job_of l) (entries_of v) = valid_buffer (job_of l) v valid in
    let q : LockedPass (job_of l) (entries_of v) = locked_buffer (job_of l) (entries_of v) p in
    unless_given (start_causes l (entries_of v)) (start (job_of l) (layout_of (entries_of v)))
    (ap not well, (ap not (eq-eqb (length (entries_of v)) l.size.count p.size), (q.turns, (q.outside, tt))))
    ∙ ap (λ (w : Layout). given (start (job_of l) w)) (entries_read_back v)

-- a layout that the call reads is valid
pub layout_given : (l : Lent) (text : List ℕ) (room : ℕ) (v : Layout) → read_layout_call l text room ≡ given v → ValidLayout (job_of l) v
unfolding read_layout_call
layout_given l text room v e =
    let b = given_before (unless (job_cause l ∷ []) (job_of l)) (λ j. read_layout j text room) v e in
    let u = given_unless (job_cause l ∷ []) (job_of l) b.value b.gives in
    let r = layout_read_placed (job_of l) text room v (rw u.same b.goes) in
    record {
      one_per_piece = r.1.size;
      inside_sheet = λ i k. rw zero-add at (r.1.placed i k).within;
      turn_allowed = λ i k. rw zero-add at (r.1.placed i k).turn;
    }

-- what the writing of a layout gives is read back as the layout
pub written_read_back : (l : Lent) (es : List (List ℕ)) (room : ℕ) (text : List ℕ) → write_layout_call l es room ≡ given text
    → read_layout_call l text l.size.count ≡ given (layout_of es)
unfolding write_layout_call read_layout_call layout_causes job_of unless
written_read_back l es room text e =
    let u =
    given_unless (layout_causes l es ++ (at_least (length (layout_text (job_of l) (layout_of es))) room ∷ [])) (layout_text (job_of l) (layout_of es)) text e in
    let well : lent_well l ≡ true = job_well l u.none.0 in
    let v : ValidLayout (job_of l) (layout_of es) = layout_valid l es u.none.1.0 u.none.1.1.0 u.none.1.1.1.0 in
    let s : Facts l = facts l well in
    let r : read_layout (job_of l) (layout_text (job_of l) (layout_of es)) l.size.count ≡ given (layout_of es) =
    layout_read_back (job_of l) (layout_of es) s.few_rows s.few_columns s.few_pieces v.one_per_piece
    (λ i b. record { turn = v.turn_allowed i b; within = v.inside_sheet i b }) in
    rw (← u.same, well) r
