-- What the calls on a sheet come to, by what their checks answered, and what they answer. Assumes nothing.
use Rattle.list_laws.proofs.Kit.{◌∙◌, ◌≡◌, ap, fun_ext, refl, sym, not, Bool, true, false, ⊎_elim, List, [], ◌∷◌, ◌*◌, ◌+◌, ◌-◌, ◌<◌, ℕ, eqb, get_or}
use Rattle.list_laws.proofs.Kit.{length, ext_get_or, eq-eqb, eqb-true, not-false}
use Rattle.model.specs.Bounded.{one_if}
use Rattle.model.specs.Layout.{Job, inside}
use Rattle.model.specs.Lent.{Lent, job_of, lent_well}
use Rattle.std.specs.Prelude.{Ok, Err}
use Rattle.model.specs.Answers.{done_answer, first_cause}
use Rattle.model.specs.Refusal.{Outcome, refused, given, Cause, refusal_of, unless}
use Rattle.model.specs.Calls.{sheet_causes, fresh_call, counts_after}
use Rattle.model.specs.Cover.{Sheet, entry_in, map_from, covers_pixel, fresh, lay, withdraw, lay_causes, withdraw_causes, called, sheet_well}
use Rattle.model.specs.declared.Placement.{Placement}
use Rattle.model.specs.declared.Entry.{Entry}
use Rattle.model.specs.declared.Record.{Record}
use Rattle.model.specs.declared.Refusal.{Refusal}
use Rattle.list_laws.proofs.Tests.{clash}
use Rattle.text_laws.proofs.Outcomes.{unless_given}
use Rattle.text_laws.proofs.Causes.{passed_none, refused_alone, refused_then, none_then}
use Rattle.cover_laws.proofs.Calls.{LayTaken, Lies, WithdrawTaken, lay_given, withdraw_given, length_map_from, get_d_map_from}
use Rattle.cover_laws.proofs.Counts.{LaidWell}
use Rattle.cover_laws.proofs.Reached.{well_sound}
use Rattle.sheet_counts.specs.Stamp.{moved, moved_by}
use Rattle.sheet_counts.specs.declared.Change.TheVariants.{OneMore, OneLess}
use Rattle.sheet_calls.specs.Answers.{blank_record, record_of, given_answer, record_answer, answer_by, sheet_answer}
use Rattle.sheet_refusals.specs.Causes.{buffer_causes}
use Rattle.sheet_calls.specs.Ready.{SheetReady}
use Rattle.sheet_calls.specs.declared.SheetAnswer.{SheetAnswer}
use Rattle.text_laws.specs.Outcomes.{NoCause}
use Rattle.sheet_check.proofs.Recounts.{moved_up, moved_down}

-- ── what a call on a sheet comes to ──

-- a sheet without a cause of its own is ready for a call
pub sheet_ready : (l : Lent) (s : Sheet) → Ok tt ≡ first_cause (sheet_causes l s []) → SheetReady l s
unfolding sheet_causes
sheet_ready l s e =
    let absent = passed_none (sheet_causes l s []) e in
    record {
      well = not-false (lent_well l) absent.0;
      full =
          eqb-true (length s.counts) (l.size.rows * l.size.columns)
          (not-false (eqb (length s.counts) (l.size.rows * l.size.columns)) absent.1.0);
      sheet = not-false (sheet_well (job_of l) s) absent.1.1.0;
    }

-- and the other way
ready_absent : (l : Lent) (s : Sheet) → SheetReady l s → NoCause (sheet_causes l s [])
unfolding sheet_causes
ready_absent l s ready =
    (ap not ready.well, (ap not (eq-eqb (length s.counts) (l.size.rows * l.size.columns) ready.full), (ap not ready.sheet, tt)))

module _ {A : Type 0} (l : Lent) (s : Sheet) (more : List Cause) (a : A) where
  -- refused by the job, the buffer or the sheet
  pub sheet_refused : (r : Refusal) → Err r ≡ first_cause (sheet_causes l s []) → unless (sheet_causes l s more) a ≡ refused r
  unfolding sheet_causes
  sheet_refused r e = refused_then (sheet_causes l s []) more a r e

  -- else the call's own causes decide
  pub own_causes : SheetReady l s → unless (sheet_causes l s more) a ≡ unless more a
  unfolding sheet_causes
  own_causes ready = none_then (sheet_causes l s []) more a (ready_absent l s ready)

  pub own_refused : (r : Refusal) → Ok tt ≡ first_cause (sheet_causes l s []) → Err r ≡ first_cause more → unless (sheet_causes l s more) a ≡ refused r
  own_refused r e own = own_causes (sheet_ready l s e) ∙ refused_alone more a r own

  pub none_given : Ok tt ≡ first_cause (sheet_causes l s []) → Ok tt ≡ first_cause more → unless (sheet_causes l s more) a ≡ given a
  none_given e own = own_causes (sheet_ready l s e) ∙ unless_given more a (passed_none more own)

-- a lay and a withdraw without a cause are in order
pub lay_order : (j : Job) (s : Sheet) (i : ℕ) (p : Placement) → Ok tt ≡ first_cause (lay_causes j s i p) → LayTaken j s i p
unfolding called
lay_order j s i p e =
    (lay_given j s (lay j s i p) i p (unless_given (lay_causes j s i p) (lay j s i p) (passed_none (lay_causes j s i p) e))).0

pub withdraw_order : (j : Job) (s : Sheet) (i : ℕ) → Ok tt ≡ first_cause (withdraw_causes j s i) → WithdrawTaken j s i
unfolding called
withdraw_order j s i e =
    (withdraw_given j s (withdraw j s i) i (unless_given (withdraw_causes j s i) (withdraw j s i) (passed_none (withdraw_causes j s i) e))).0

-- ── a fresh sheet ──

pub fresh_refused : (l : Lent) (room : ℕ) (r : Refusal) → Err r ≡ first_cause (buffer_causes l room) → fresh_call l room ≡ refused r
unfolding fresh_call
fresh_refused l room r e = refused_alone (buffer_causes l room) (fresh (job_of l)) r e

pub fresh_given : (l : Lent) (room : ℕ) → Ok tt ≡ first_cause (buffer_causes l room) → fresh_call l room ≡ given (fresh (job_of l))
unfolding fresh_call
fresh_given l room e = unless_given (buffer_causes l room) (fresh (job_of l)) (passed_none (buffer_causes l room) e)

-- a reply with a record beside it
abbrev beside : Record → Outcome Sheet → SheetAnswer
beside r o = record { reply = done_answer o; sheet = r }

beside_case : (r : Record) (c : Cause) (o : Outcome Sheet) (t : Bool) → beside r o ≡ sheet_answer r o
    → beside r (elim t as (λ _. Outcome Sheet) [ true ↦ refused (refusal_of c) | false ↦ o ])
    ≡ sheet_answer r (elim t as (λ _. Outcome Sheet) [ true ↦ refused (refusal_of c) | false ↦ o ])
beside_case r c o true e = refl
beside_case r c o false e = e

unless_beside : (cs : List Cause) (s : Sheet) → beside (record_of s) (unless cs s) ≡ sheet_answer (record_of s) (unless cs s)
unfolding unless
unless_beside [] s = refl
unless_beside (c ∷ cs) s = beside_case (record_of s) c (unless cs s) c.there (unless_beside cs s)

-- the blank record stands beside the reply whether a fresh sheet is given or refused
pub fresh_answered : (l : Lent) (room : ℕ) → beside blank_record (fresh_call l room) ≡ sheet_answer blank_record (fresh_call l room)
unfolding fresh_call fresh
fresh_answered l room = unless_beside (buffer_causes l room) (fresh (job_of l))

-- ── answers ──

-- what is given or refused, with the record before beside a refusal, is the call's answer
pub answered : (before : Record) (o : Outcome Sheet) → answer_by before (record_answer o) ≡ sheet_answer before o
answered before (refused r) = refl
answered before (given s) = refl

-- a given call's answer and what it leaves
pub given_answer_lem : (o : Outcome Sheet) (s : Sheet) (before : Record) (cs cs' : List ℕ) (r : SheetAnswer) → o ≡ given s
    → r ≡ given_answer (record_of s) → cs' ≡ s.counts → (r ≡ sheet_answer before o) × (cs' ≡ counts_after cs o)
given_answer_lem o s before cs cs' r e e' e'' = rw e (e', e'')

-- ── the counts ──

-- where each count has room, laying adds one on each pixel that the piece covers
pub moved_lays : (j : Job) (i : ℕ) (p : Placement) (s : Sheet) → ((k : ℕ) → k < length s.counts → get_or s.counts k 0 < 255)
    → moved_by OneMore j i p s.counts ≡ (lay j s i p).counts
unfolding lay
moved_lays j i p s room =
    ext_get_or 0 _ _ (length_map_from _ 0 s.counts ∙ sym (length_map_from _ 0 s.counts))
    (λ k l.
    let l' : k < length s.counts = rw (length_map_from (λ m c. moved OneMore (covers_pixel j i p m) c) 0 s.counts) at l in
    get_d_map_from (λ m c. moved OneMore (covers_pixel j i p m) c) 0 s.counts k l'
    ∙ moved_up (covers_pixel j i p (0 + k)) (get_or s.counts k 0) (room k l')
    ∙ sym (get_d_map_from (λ m c. c + one_if (covers_pixel j i p m)) 0 s.counts k l'))

-- withdrawing takes one off
pub moved_withdraws : (j : Job) (i : ℕ) (s : Sheet) (e : Entry) → e ≡ entry_in s.pieces i
    → moved_by OneLess j i e.place s.counts ≡ (withdraw j s i).counts
unfolding withdraw
moved_withdraws j i s e same =
    ap (λ (f : ℕ → ℕ → ℕ). map_from f 0 s.counts) (fun_ext (λ k. fun_ext (λ c. moved_down (covers_pixel j i e.place k) c)))
    ∙ ap (λ (x : Entry). map_from (λ k c. c - one_if (covers_pixel j i x.place k)) 0 s.counts) same

-- a piece that lies on a sheet lies inside
pub withdrawn_inside : (j : Job) (s : Sheet) (i : ℕ) (e : Entry) → e ≡ entry_in s.pieces i → sheet_well j s ≡ true → Lies j s i
    → inside j i e.place ≡ true
withdrawn_inside j s i e same well here =
    ⊎_elim (λ q. absurd (clash here.laid (ap (λ (x : Entry). x.laid) q))) (λ (w : LaidWell j i (entry_in s.pieces i)). rw same w.within)
    ((well_sound j s well).entry i)
