-- Document 01, 'Start, layout text, sheet' and 'When a call says no': what a single given call does to a sheet that passes the test for
-- refusal 8, as laws for callers. The count of each pixel that the piece covers goes up or down by one and all else stays; what a
-- withdraw takes off is there; every count is at most the number of pieces; a second lay or withdraw of the piece is refused.
-- Assumes nothing.
use Rattle.list_laws.proofs.Kit.{◌≡◌, ap, subst, false, true, ◌*◌, ◌<◌, ◌≤◌, ℕ, get_or, lt-ltb}
use Rattle.model.specs.Layout.{Job, allowed}
use Rattle.model.specs.Lent.{piece_bound}
use Rattle.model.specs.Refusal.{refused, given, unless, laid_already, not_laid}
use Rattle.model.specs.Cover.{Sheet, blank, laid_at, entry_in, lay, withdraw, lay_causes}
use Rattle.model.specs.Cover.{withdraw_causes, Call, laying, withdrawing, called, afterwards, fresh, sheet_well}
use Rattle.model.specs.declared.Placement.{Placement}
use Rattle.model.specs.declared.Entry.{Entry}
use Rattle.cover_laws.specs.Effects.{LayGives, WithdrawGives}
use Rattle.cover_laws.proofs.Calls.{LayTaken, WithdrawTaken, lay_given, withdraw_given}
use Rattle.cover_laws.proofs.Counts.{Sound, lay_entry, lay_others, withdraw_entry, withdraw_others, lay_counts_lem, withdraw_counts_lem, covered_counts}
use Rattle.cover_laws.proofs.Counts.{counts_bound, lay_sound, withdraw_sound, fresh_sound, call_sound}
use Rattle.cover_laws.proofs.Reached.{well_sound, sound_well, lay_withdraw}

-- a lay of a piece that is laid, in an allowed turn, is refused with 13
pub laid_refused : (j : Job) (s : Sheet) (i : ℕ) (p : Placement) → i < j.size.count → allowed j i p.turn ≡ true
    → (entry_in s.pieces i).laid ≡ true → called j s (laying i p) ≡ refused (record { number = laid_already; first = 0; second = 0 })
unfolding called lay_causes unless
laid_refused j s i p here turn laid = rw (lt-ltb i j.size.count here, turn, laid)

-- a withdraw of a piece that is not laid is refused with 14
pub unlaid_refused : (j : Job) (s : Sheet) (i : ℕ) → i < j.size.count → (entry_in s.pieces i).laid ≡ false
    → called j s (withdrawing i) ≡ refused (record { number = not_laid; first = 0; second = 0 })
unfolding called withdraw_causes unless
unlaid_refused j s i here free = rw (lt-ltb i j.size.count here, free)

module _ (j : Job) (few : j.size.count ≤ piece_bound) where
  -- a lay that is in order, on a sound sheet
  lay_effect : (s : Sheet) (i : ℕ) (p : Placement) → Sound j s → LayTaken j s i p → LayGives j s i p (lay j s i p)
  lay_effect s i p sound t =
      let after : Sound j (lay j s i p) = lay_sound j few s i p sound t in
      let here : entry_in (lay j s i p).pieces i ≡ laid_at p = lay_entry j few s i p sound t.piece in
      record {
        entry = here;
        others = lay_others j s i p;
        counts = λ k l. lay_counts_lem j s i p k sound l;
        bound = λ k l. counts_bound j (lay j s i p) k after l;
        well = sound_well j (lay j s i p) after;
        again = laid_refused j (lay j s i p) i p t.piece t.turn (ap (λ (e : Entry). e.laid) here);
        back = lay_withdraw j few s i p sound t;
      }

  -- a withdraw that is in order, on a sound sheet
  withdraw_effect : (s : Sheet) (i : ℕ) → Sound j s → WithdrawTaken j s i → WithdrawGives j s i (withdraw j s i)
  withdraw_effect s i sound t =
      let after : Sound j (withdraw j s i) = withdraw_sound j few s i sound t.lies in
      let here : entry_in (withdraw j s i).pieces i ≡ blank = withdraw_entry j few s i sound t.lies.piece in
      record {
        entry = here;
        others = withdraw_others j s i;
        there = λ k l. covered_counts j few s i k sound t.lies l;
        counts = λ k l. withdraw_counts_lem j s i k sound l;
        bound = λ k l. counts_bound j (withdraw j s i) k after l;
        well = sound_well j (withdraw j s i) after;
        again = unlaid_refused j (withdraw j s i) i t.lies.piece (ap (λ (e : Entry). e.laid) here);
      }

  -- a given lay on a sheet that passes the test
  pub lay_gives : (s s' : Sheet) (i : ℕ) (p : Placement) → sheet_well j s ≡ true → called j s (laying i p) ≡ given s' → LayGives j s i p s'
  lay_gives s s' i p well e =
      let known = lay_given j s s' i p e in
      subst (λ (t : Sheet). LayGives j s i p t) known.1 (lay_effect s i p (well_sound j s well) known.0)

  -- a given withdraw on a sheet that passes the test
  pub withdraw_gives : (s s' : Sheet) (i : ℕ) → sheet_well j s ≡ true → called j s (withdrawing i) ≡ given s' → WithdrawGives j s i s'
  withdraw_gives s s' i well e =
      let known = withdraw_given j s s' i e in
      subst (λ (t : Sheet). WithdrawGives j s i t) known.1 (withdraw_effect s i (well_sound j s well) known.0)

  -- a fresh sheet passes the test
  pub fresh_well : sheet_well j (fresh j) ≡ true
  fresh_well = sound_well j (fresh j) (fresh_sound j)

  -- after any call, given or refused, the sheet passes the test again
  pub call_well : (s : Sheet) (c : Call) → sheet_well j s ≡ true → sheet_well j (afterwards s (called j s c)) ≡ true
  call_well s c well = sound_well j (afterwards s (called j s c)) (call_sound j few s c (well_sound j s well))

  -- every count of a sheet that passes the test is at most the number of pieces, and so at most 64
  pub well_bound : (s : Sheet) (k : ℕ) → sheet_well j s ≡ true → k < j.size.rows * j.size.columns → get_or s.counts k 0 ≤ j.size.count
  well_bound s k well l = counts_bound j s k (well_sound j s well) l
