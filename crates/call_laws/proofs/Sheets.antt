-- Demand 2 of the public calls on a sheet (document 01, 'Start, layout text, sheet'): for every lent job and every list of lay and withdraw
-- calls from a fresh sheet, refused ones among them, each pixel's count is the number of laid pieces on it. On a lent job that
-- passes the check, each call also finds that its sheet is one that some list of calls gives, so the public calls are the calls
-- that cover_laws speaks of. Assumes nothing.
use Rattle.list_laws.proofs.Kit.{◌∙◌, ◌≡◌, ap, refl, sym, false, true, ◌↔◌, List, [], ◌∷◌, ◌*◌, ◌≤◌, ℕ, eqb, length, eq-eqb, not-false}
use Rattle.model.specs.Layout.{is_locked}
use Rattle.model.specs.Lent.{Lent, job_of, lent_well, piece_bound}
use Rattle.model.specs.Refusal.{Outcome, refused, given, unless}
use Rattle.model.specs.Cover.{Sheet, Call, laying, withdrawing, called, afterwards, after_calls, fresh, lay, withdraw, lay_causes, withdraw_causes, sheet_well}
use Rattle.model.specs.Cover.{entry_in}
use Rattle.model.specs.Calls.{sheet_causes, fresh_call, lay_call, withdraw_call}
use Rattle.model.specs.declared.Placement.{Placement}
use Rattle.model.specs.declared.Entry.{Entry}
use Rattle.list_laws.proofs.Tests.{clash}
use Rattle.job_laws.proofs.Checked.{lent_few}
use Rattle.text_laws.proofs.Outcomes.{given_unless}
use Rattle.cover_laws.proofs.Reached.{well_sound, well_exactly}
use Rattle.cover_laws.specs.Effects.{LayGives, WithdrawGives}
use Rattle.cover_laws.proofs.Effects.{lay_gives, withdraw_gives, fresh_well, call_well}
use Rattle.cover_laws.specs.CoverClaims.{CoverHolds}
use Rattle.cover_laws.proofs.Demand2Cover.{demand2_cover}
use Rattle.call_laws.specs.Sheets.{sheet_call, after_sheet_calls}
use Rattle.call_laws.proofs.Layouts.{job_well}

-- a sheet that some list of calls gives has one count a pixel
counts_size : (l : Lent) (s : Sheet) → sheet_well (job_of l) s ≡ true → eqb (length s.counts) (l.size.rows * l.size.columns) ≡ true
unfolding job_of
counts_size l s h = eq-eqb (length s.counts) (l.size.rows * l.size.columns) (well_sound (job_of l) s h).counts

-- on a lent job that passes the check and a sheet that some list of calls gives, the lay call is the lay of cover_laws
pub lay_call_lem : (l : Lent) (s : Sheet) (i : ℕ) (p : Placement) → lent_well l ≡ true → sheet_well (job_of l) s ≡ true
    → lay_call l s i p ≡ called (job_of l) s (laying i p)
unfolding lay_call called sheet_causes unless
lay_call_lem l s i p e h = rw (e, counts_size l s h, h)

-- and the withdraw call is the withdraw
pub withdraw_call_lem : (l : Lent) (s : Sheet) (i : ℕ) → lent_well l ≡ true → sheet_well (job_of l) s ≡ true
    → withdraw_call l s i ≡ called (job_of l) s (withdrawing i)
unfolding withdraw_call called sheet_causes unless
withdraw_call_lem l s i e h = rw (e, counts_size l s h, h)

-- a lay that the call gives, whatever is lent
pub lay_given : (l : Lent) (s s' : Sheet) (i : ℕ) (p : Placement) → lay_call l s i p ≡ given s' → LayGives (job_of l) s i p s'
unfolding lay_call sheet_causes
lay_given l s s' i p e =
    let n = (given_unless (sheet_causes l s (lay_causes (job_of l) s i p)) (lay (job_of l) s i p) s' e).none in
    let well : lent_well l ≡ true = job_well l n.0 in
    let sheet : sheet_well (job_of l) s ≡ true = not-false (sheet_well (job_of l) s) n.1.1.0 in
    lay_gives (job_of l) (lent_few l well) s s' i p sheet (sym (lay_call_lem l s i p well sheet) ∙ e)

-- a withdraw that the call gives, whatever is lent
pub withdraw_given : (l : Lent) (s s' : Sheet) (i : ℕ) → withdraw_call l s i ≡ given s' → WithdrawGives (job_of l) s i s'
unfolding withdraw_call sheet_causes
withdraw_given l s s' i e =
    let n = (given_unless (sheet_causes l s (withdraw_causes (job_of l) s i)) (withdraw (job_of l) s i) s' e).none in
    let well : lent_well l ≡ true = job_well l n.0 in
    let sheet : sheet_well (job_of l) s ≡ true = not-false (sheet_well (job_of l) s) n.1.1.0 in
    withdraw_gives (job_of l) (lent_few l well) s s' i sheet (sym (withdraw_call_lem l s i well sheet) ∙ e)

-- ── lists of calls ──

-- a public call is the call that cover_laws speaks of
sheet_call_lem : (l : Lent) (s : Sheet) (c : Call) → lent_well l ≡ true → sheet_well (job_of l) s ≡ true → sheet_call l s c ≡ called (job_of l) s c
sheet_call_lem l s (laying i p) e h = lay_call_lem l s i p e h
sheet_call_lem l s (withdrawing i) e h = withdraw_call_lem l s i e h

-- after it the sheet is again one that some list of calls gives
pub sheet_call_well : (l : Lent) (s : Sheet) (c : Call) → lent_well l ≡ true → sheet_well (job_of l) s ≡ true
    → sheet_well (job_of l) (afterwards s (sheet_call l s c)) ≡ true
sheet_call_well l s c e h = rw (sheet_call_lem l s c e h) (call_well (job_of l) (lent_few l e) s c h)

-- a list of public calls is a list of those that cover_laws speaks of
pub sheet_calls : (l : Lent) (s : Sheet) (cs : List Call) → lent_well l ≡ true → sheet_well (job_of l) s ≡ true
    → after_sheet_calls l s cs ≡ after_calls (job_of l) s cs
unfolding after_sheet_calls after_calls
sheet_calls l s [] e h = refl
sheet_calls l s (c ∷ cs) e h =
    ap (λ (o : Outcome Sheet). after_sheet_calls l (afterwards s o) cs) (sheet_call_lem l s c e h)
    ∙ sheet_calls l (afterwards s (called (job_of l) s c)) cs e (call_well (job_of l) (lent_few l e) s c h)

-- after every list of public calls from a fresh sheet, given or refused, each pixel's count is the number of laid pieces on it
pub fresh_given : (l : Lent) (room : ℕ) (s : Sheet) → fresh_call l room ≡ given s → (cs : List Call)
    → CoverHolds (job_of l) cs (after_sheet_calls l s cs)
unfolding fresh_call
fresh_given l room s e cs =
    let u = given_unless _ (fresh (job_of l)) s e in
    let well : lent_well l ≡ true = job_well l u.none.0 in
    let few : (job_of l).size.count ≤ piece_bound = lent_few l well in
    rw (← u.same, sheet_calls l (fresh (job_of l)) cs well (fresh_well (job_of l) few)) (demand2_cover (job_of l) few cs)

-- the check of a lent sheet, refusal 8 of lay and withdraw, passes exactly the sheets that some list of public calls from a fresh one gives
pub sheet_reached : (l : Lent) (room : ℕ) (f : Sheet) → fresh_call l room ≡ given f → (s : Sheet)
    → (sheet_well (job_of l) s ≡ true) ↔ ((cs : List Call) × (after_sheet_calls l f cs ≡ s))
unfolding fresh_call
sheet_reached l room f e s =
    let u = given_unless _ (fresh (job_of l)) f e in
    let well : lent_well l ≡ true = job_well l u.none.0 in
    let few : (job_of l).size.count ≤ piece_bound = lent_few l well in
    let same : (cs : List Call) → after_sheet_calls l (fresh (job_of l)) cs ≡ after_calls (job_of l) (fresh (job_of l)) cs =
    λ cs. sheet_calls l (fresh (job_of l)) cs well (fresh_well (job_of l) few) in
    rw (← u.same) (
      λ h. (let r = (well_exactly (job_of l) few s).0 h in (r.0, same r.0 ∙ r.1)),
      λ r. (well_exactly (job_of l) few s).1 (r.0, sym (same r.0) ∙ r.1),
    )

-- ── locked pieces ──

-- the entry of a locked piece that is laid, by what a public call comes to
outcome_keeps : (l : Lent) (s : Sheet) (i : ℕ) → is_locked (job_of l) i ≡ true → (entry_in s.pieces i).laid ≡ true → (c : Call) (o : Outcome Sheet)
    → sheet_call l s c ≡ o → entry_in (afterwards s o).pieces i ≡ entry_in s.pieces i
unfolding lay_call lay_causes withdraw_call withdraw_causes sheet_causes
outcome_keeps l s i locked laid c (refused r) e = refl
outcome_keeps l s i locked laid (laying m p) (given s') e =
    let none = (given_unless (sheet_causes l s (lay_causes (job_of l) s m p)) (lay (job_of l) s m p) s' e).none in
    let free : (entry_in s.pieces m).laid ≡ false = none.1.1.1.1.0 in
    (lay_given l s s' m p e).others i (λ q. clash laid (ap (λ (k : ℕ). (entry_in s.pieces k).laid) q ∙ free))
outcome_keeps l s i locked laid (withdrawing m) (given s') e =
    let none = (given_unless (sheet_causes l s (withdraw_causes (job_of l) s m)) (withdraw (job_of l) s m) s' e).none in
    let free : is_locked (job_of l) m ≡ false = none.1.1.1.1.1.0 in
    (withdraw_given l s s' m e).others i (λ q. clash locked (ap (λ (k : ℕ). is_locked (job_of l) k) q ∙ free))

-- after a public call
pub call_keeps : (l : Lent) (s : Sheet) (i : ℕ) → is_locked (job_of l) i ≡ true → (entry_in s.pieces i).laid ≡ true → (c : Call)
    → entry_in (afterwards s (sheet_call l s c)).pieces i ≡ entry_in s.pieces i
call_keeps l s i locked laid c = outcome_keeps l s i locked laid c (sheet_call l s c) refl

-- a locked piece that is laid stays laid, at its place, after every list of public calls, whatever is lent
pub locked_laid_lem : (l : Lent) (s : Sheet) (i : ℕ) → is_locked (job_of l) i ≡ true → (entry_in s.pieces i).laid ≡ true → (cs : List Call)
    → entry_in (after_sheet_calls l s cs).pieces i ≡ entry_in s.pieces i
unfolding after_sheet_calls
locked_laid_lem l s i locked laid [] = refl
locked_laid_lem l s i locked laid (c ∷ cs) =
    let here = call_keeps l s i locked laid c in
    locked_laid_lem l (afterwards s (sheet_call l s c)) i locked (ap (λ (x : Entry). x.laid) here ∙ laid) cs ∙ here
