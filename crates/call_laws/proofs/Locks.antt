-- Document 02, point 6, locks that are set: of every list of calls that set a lock, whatever the job and their numbers, what `LocksClaims` says. One
-- call that is refused leaves the job as it is; one that is given comes from the cutter's station and sets the lock of a piece of the job
-- (job_laws says what that does to a table); a list is one call after another. So it is with calls on a sheet between them. Assumes nothing.
use Rattle.list_laws.proofs.Kit.{◌∙◌, ◌≡◌, ap, refl, sym, Bool, ◌&&◌, ◌||◌, false, not, true, ⊎_elim, List, [], ◌∷◌, ◌<◌, ◌≤◌, ℕ, arith, eqb, ltb, get_or, length}
use Rattle.list_laws.proofs.Kit.{eqb-false, eqb-true, lt-ltb, ltb-false, ltb-true, not-false}
use Rattle.model.specs.Layout.{is_locked}
use Rattle.model.specs.Lent.{Lent, lent_by, entry_lock, job_of, lent_well}
use Rattle.model.specs.Refusal.{Outcome, refused, given}
use Rattle.model.specs.Cover.{Sheet, sheet_well}
use Rattle.model.specs.Calls.{cutters_station, planners_station, with_lock, set_lock_call, locked_after}
use Rattle.model.specs.declared.Refusal.{Refusal}
use Rattle.model.specs.declared.JobSize.{JobSize}
use Rattle.model.specs.declared.Entry.{Entry}
use Rattle.list_laws.proofs.Tests.{and_left, and_right, clash, decided, fails, or_right}
use Rattle.job_laws.proofs.Checked.{facts}
use Rattle.job_laws.proofs.Locks.{lock_length, lock_entry, lock_others, lock_columns, lock_rows, lock_turns, lock_sets, lock_twice, lock_stays, lock_well}
use Rattle.text_laws.proofs.Outcomes.{given_unless, unless_given, refused_given}
use Rattle.text_laws.proofs.LentRead.{lent_well_readable}
use Rattle.cover_laws.proofs.Locks.{sheets_with_locks_lem}
use Rattle.call_laws.specs.Locks.{LockCall, lock_call, after_lock, after_locks, cutter_names, LockGives, LocksClaims}
use Rattle.call_laws.specs.Locks.{Shop, ShopCall, sheet_called, lock_called, after_shop_call, after_shop_calls, ShopClaims}
use Rattle.call_laws.proofs.Sheets.{call_keeps, sheet_call_well}

-- ── one call ──

-- a call that is given: the job passes its check, the piece is one of it, and the station is the cutter's
pub record LockTaken (l : Lent) (i station : ℕ) (table : List (List ℕ)) : Type 0 where
  pub well : lent_well l ≡ true
  pub piece : i < l.size.count
  pub cutter : station ≡ cutters_station
  pub is : with_lock l.table i ≡ table

-- a call that is given is in order
pub lock_given_lem : (l : Lent) (i station : ℕ) (table : List (List ℕ)) → set_lock_call l i station ≡ given table → LockTaken l i station table
unfolding set_lock_call
lock_given_lem l i station table e =
    let u = given_unless _ (with_lock l.table i) table e in
    let few : station ≤ cutters_station = ltb-false cutters_station station u.none.1.0 in
    let some : station ≡ planners_station → ⊥ = eqb-false station planners_station u.none.1.1.1.0 in
    record {
      well = not-false (lent_well l) u.none.0;
      piece = ltb-true i l.size.count (not-false (ltb i l.size.count) u.none.1.1.0);
      cutter = omega arith;
      is = u.same;
    }

-- a call in order is given
pub lock_taken : (l : Lent) (i : ℕ) → lent_well l ≡ true → i < l.size.count → set_lock_call l i cutters_station ≡ given (with_lock l.table i)
unfolding set_lock_call
lock_taken l i well here = unless_given _ (with_lock l.table i) (ap not well, (refl, (ap not (lt-ltb i l.size.count here), (refl, tt))))

-- what a given call makes of the table
pub lock_gives : (l : Lent) (i station : ℕ) (table : List (List ℕ)) → set_lock_call l i station ≡ given table → LockGives l i table
lock_gives l i station table e =
    let t : LockTaken l i station table = lock_given_lem l i station table e in
    let entries = (facts l t.well).entries in
    let here = t.piece in
    let there : i < length l.table = omega arith in
    rw (← t.is)
    (record {
      piece = t.piece;
      entry = lock_entry l.table i there;
      others = lock_others l.table i;
      entries = lock_length l.table i;
      again =
          lock_taken (lent_by l.size (with_lock l.table i) l.pixels) i (lock_well l i t.well) t.piece
          ∙ ap given (lock_twice l.table i there);
    })

-- where nothing is named a lock is as it was
or_false : (a : Bool) → a ≡ (a || false)
or_false true = refl
or_false false = refl

-- a call that names a piece of the job from the cutter's station is not refused
not_named : (l : Lent) (c : LockCall) (r : Refusal) → set_lock_call l c.piece c.station ≡ refused r → lent_well l ≡ true → (i : ℕ)
    → i < l.size.count → (eqb c.piece i && eqb c.station cutters_station) ≡ false
not_named l c r e well i h =
    fails (eqb c.piece i && eqb c.station cutters_station)
    (λ q.
    let piece : c.piece ≡ i = eqb-true c.piece i (and_left _ _ q) in
    let station : c.station ≡ cutters_station = eqb-true c.station cutters_station (and_right (eqb c.piece i) _ q) in
    refused_given {a = with_lock l.table i} (sym e ∙ rw (piece, station) (lock_taken l i well h)))

-- the lock of piece i after the lock of a piece is set from the cutter's station
lock_after : (l : Lent) → (c : LockCall) → lent_well l ≡ true → c.piece < l.size.count → c.station ≡ cutters_station → (i : ℕ)
    → i < l.size.count → eqb (entry_lock (with_lock l.table c.piece) i) 1
    ≡ (eqb (entry_lock l.table i) 1 || ((eqb c.piece i && eqb c.station cutters_station) || false))
lock_after l c well here cutter i h =
    let entries = (facts l well).entries in
    ⊎_elim
    (λ q.
    let same : c.piece ≡ i = eqb-true c.piece i q in
    rw (q, cutter, same, lock_sets l.table i (omega arith)) (sym (or_right (eqb (entry_lock l.table i) 1) true refl)))
    (λ q.
    let other : get_or (with_lock l.table c.piece) i [] ≡ get_or l.table i [] =
    lock_others l.table c.piece i (λ e. eqb-false c.piece i q (sym e)) in
    rw (q, other) (or_false (eqb (entry_lock l.table i) 1))) (decided (eqb c.piece i))

-- by what the call comes to
outcome_claims : (l : Lent) → (c : LockCall) (o : Outcome (List (List ℕ))) → set_lock_call l c.piece c.station ≡ o
    → LocksClaims l (c ∷ []) (lent_by l.size (locked_after l.table o) l.pixels)
unfolding cutter_names job_of
outcome_claims l c (refused r) e =
    record {
      size = refl;
      pixels = refl;
      entries = refl;
      columns = λ i. refl;
      rows = λ i. refl;
      turns = λ i. refl;
      beyond = λ i h. refl;
      locked = λ well i h. rw (not_named l c r e well i h) (or_false (eqb (entry_lock l.table i) 1));
      well = λ well. well;
      readable = (lent_well_readable l).0;
      untouched = λ _. refl;
    }
outcome_claims l c (given table) e =
    let t : LockTaken l c.piece c.station table = lock_given_lem l c.piece c.station table e in
    rw (← t.is)
    (record {
      size = refl;
      pixels = refl;
      entries = lock_length l.table c.piece;
      columns = λ i. lock_columns l.table c.piece i;
      rows = λ i. lock_rows l.table c.piece i;
      turns = λ i. lock_turns l.table c.piece i;
      beyond = λ i h. lock_others l.table c.piece i (let here = t.piece in omega arith);
      locked = λ well i h. lock_after l c well t.piece t.cutter i h;
      well = λ well. lock_well l c.piece well;
      readable = λ well. (lent_well_readable (lent_by l.size (with_lock l.table c.piece) l.pixels)).0 (lock_well l c.piece well);
      untouched = λ no. absurd (clash t.well no);
    })

-- ── lists of calls ──

-- one more call
or_shift : (a b d : Bool) → ((a || (b || false)) || d) ≡ (a || (b || d))
or_shift true b d = refl
or_shift false true d = refl
or_shift false false d = refl

-- what is said after a call and of the calls after it is said of them all
joined_claims : (l m after : Lent) (c : LockCall) (cs : List LockCall) → LocksClaims l (c ∷ []) m → LocksClaims m cs after
    → LocksClaims l (c ∷ cs) after
unfolding cutter_names
joined_claims l m after c cs one more =
    let same : m.size.count ≡ l.size.count = ap (λ (s : JobSize). s.count) one.size in
    record {
      size = more.size ∙ one.size;
      pixels = more.pixels ∙ one.pixels;
      entries = more.entries ∙ one.entries;
      columns = λ i. more.columns i ∙ one.columns i;
      rows = λ i. more.rows i ∙ one.rows i;
      turns = λ i. more.turns i ∙ one.turns i;
      beyond = λ i h. more.beyond i (omega arith) ∙ one.beyond i h;
      locked = λ well i h.
          more.locked (one.well well) i (omega arith) ∙ ap (λ (b : Bool). b || cutter_names cs i) (one.locked well i h)
          ∙ or_shift (is_locked (job_of l) i) (eqb c.piece i && eqb c.station cutters_station) (cutter_names cs i);
      well = λ well. more.well (one.well well);
      readable = λ well. more.readable (one.well well);
      untouched = λ no. more.untouched (ap lent_well (one.untouched no) ∙ no) ∙ one.untouched no;
    }

-- of no call
none_claims : (l : Lent) → LocksClaims l [] l
unfolding cutter_names
none_claims l =
    record {
      size = refl;
      pixels = refl;
      entries = refl;
      columns = λ i. refl;
      rows = λ i. refl;
      turns = λ i. refl;
      beyond = λ i h. refl;
      locked = λ well i h. or_false (is_locked (job_of l) i);
      well = λ well. well;
      readable = (lent_well_readable l).0;
      untouched = λ _. refl;
    }

-- of every list of calls
pub locks_claims : (l : Lent) → (cs : List LockCall) → LocksClaims l cs (after_locks l cs)
unfolding after_locks
locks_claims l [] = none_claims l
locks_claims l (c ∷ cs) =
    let o : Outcome (List (List ℕ)) = set_lock_call l c.piece c.station in
    joined_claims l (after_lock l c) (after_locks (after_lock l c) cs) c cs (outcome_claims l c o refl)
    (locks_claims (after_lock l c) cs)

-- a table that a call left holds what is claimed of it
pub lock_left : (l : Lent) → (i station : ℕ) (table : List (List ℕ)) → table ≡ locked_after l.table (set_lock_call l i station)
    → LocksClaims l (lock_call i station ∷ []) (lent_by l.size table l.pixels)
lock_left l i station table e = rw e (outcome_claims l (lock_call i station) (set_lock_call l i station) refl)

-- ── calls on a sheet, with locks set between them ──

-- no call clears a lock, whatever is lent
outcome_locked : (l : Lent) (i station m : ℕ) (o : Outcome (List (List ℕ))) → set_lock_call l i station ≡ o → is_locked (job_of l) m ≡ true
    → is_locked (job_of (lent_by l.size (locked_after l.table o) l.pixels)) m ≡ true
unfolding job_of
outcome_locked l i station m (refused r) e h = h
outcome_locked l i station m (given table) e h = rw (← (lock_given_lem l i station table e).is) (lock_stays l.table i m h)

-- and a sheet stays well
outcome_sheet : (l : Lent) (i station : ℕ) (s : Sheet) (o : Outcome (List (List ℕ))) → set_lock_call l i station ≡ o → sheet_well (job_of l) s ≡ true
    → sheet_well (job_of (lent_by l.size (locked_after l.table o) l.pixels)) s ≡ true
outcome_sheet l i station s (refused r) e h = h
outcome_sheet l i station s (given table) e h = rw (← (lock_given_lem l i station table e).is) (sheets_with_locks_lem l i s ∙ h)

-- one call
shop_step : (w : Shop) (c : ShopCall) → ShopClaims w (after_shop_call w c)
shop_step w (sheet_called c) =
    record {
      well = λ h. record { job = h.job; sheet = sheet_call_well w.job w.sheet c h.job h.sheet };
      locked = λ i h. h;
      laid = λ i h laid. call_keeps w.job w.sheet i h laid c;
    }
shop_step w (lock_called c) =
    let l : Lent = w.job in
    let o : Outcome (List (List ℕ)) = set_lock_call l c.piece c.station in
    record {
      well = λ h.
          record {
            job = (outcome_claims l c o refl).well h.job;
            sheet = outcome_sheet l c.piece c.station w.sheet o refl h.sheet;
          };
      locked = λ i h. outcome_locked l c.piece c.station i o refl h;
      laid = λ i h laid. refl;
    }

-- what is said after a call and after the calls behind it is said after them all
shop_joined : (w v after : Shop) → ShopClaims w v → ShopClaims v after → ShopClaims w after
shop_joined w v after one more =
    record {
      well = λ h. more.well (one.well h);
      locked = λ i h. more.locked i (one.locked i h);
      laid = λ i h laid.
          let here = one.laid i h laid in
          more.laid i (one.locked i h) (ap (λ (e : Entry). e.laid) here ∙ laid) ∙ here;
    }

-- of every list of lay, withdraw and lock calls
pub shop_claims : (w : Shop) (cs : List ShopCall) → ShopClaims w (after_shop_calls w cs)
unfolding after_shop_calls
shop_claims w [] = record { well = λ h. h; locked = λ i h. h; laid = λ i h laid. refl }
shop_claims w (c ∷ cs) =
    shop_joined w (after_shop_call w c) (after_shop_calls (after_shop_call w c) cs) (shop_step w c) (shop_claims (after_shop_call w c) cs)
