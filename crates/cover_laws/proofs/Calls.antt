-- Document 01, 'Start, layout text, sheet' and 'When a call says no': when a lay or a withdraw is given, what a refused one leaves,
-- and lists of calls one after another. A call is given exactly when none of its causes is there, since the first cause refuses.
-- Assumes nothing.
use Rattle.list_laws.proofs.Kit.{◌∙◌, ◌≡◌, ap, refl, sym, ◌&&◌, false, not, true, List, [], ◌++◌, ◌∷◌, ◌+◌, ◌<◌, suc, zero, ℕ, add-zero, le_of_suc-le-suc}
use Rattle.list_laws.proofs.Kit.{not-suc-le-zero, arith, ltb, get_or, length, lt-ltb, ltb-true, not-false}
use Rattle.model.specs.Layout.{Job, allowed, is_locked, inside}
use Rattle.model.specs.Refusal.{refused, given}
use Rattle.model.specs.Cover.{Sheet, entry_in, map_from, lay, withdraw, lay_causes, withdraw_causes}
use Rattle.model.specs.Cover.{Call, laying, withdrawing, called, afterwards, after_calls}
use Rattle.model.specs.declared.Placement.{Placement}
use Rattle.model.specs.declared.Refusal.{Refusal}
use Rattle.list_laws.proofs.Tests.{and_left, and_right, and_both}
use Rattle.text_laws.proofs.Outcomes.{unless_given, given_unless}

-- ── a count for each pixel ──

-- a map over the counts keeps their number
pub length_map_from : (f : ℕ → ℕ → ℕ) (k : ℕ) (cs : List ℕ) → length (map_from f k cs) ≡ length cs
unfolding map_from
length_map_from f k [] = refl
length_map_from f k (c ∷ cs) = ap suc (length_map_from f (suc k) cs)

-- count m of a map from number k on
pub get_d_map_from : (f : ℕ → ℕ → ℕ) (k : ℕ) (cs : List ℕ) (m : ℕ) → m < length cs → get_or (map_from f k cs) m 0 ≡ f (k + m) (get_or cs m 0)
unfolding map_from
get_d_map_from f k [] m l = absurd (not-suc-le-zero l)
get_d_map_from f k (c ∷ cs) zero l = rw add-zero
get_d_map_from f k (c ∷ cs) (suc m) l = get_d_map_from f (suc k) cs m (le_of_suc-le-suc l) ∙ ap (λ (n : ℕ). f n (get_or cs m 0)) (omega arith)

-- ── when a call is given ──

-- the lay of piece i is in order: a piece of the job, an allowed turn, not laid yet, inside
pub record LayTaken (j : Job) (s : Sheet) (i : ℕ) (p : Placement) : Type 0 where
  pub piece : i < j.size.count
  pub turn : allowed j i p.turn ≡ true
  pub free : (entry_in s.pieces i).laid ≡ false
  pub within : inside j i p ≡ true

-- piece i lies on the sheet: a piece of the job that is laid
pub record Lies (j : Job) (s : Sheet) (i : ℕ) : Type 0 where
  pub piece : i < j.size.count
  pub laid : (entry_in s.pieces i).laid ≡ true

-- the withdraw of piece i is in order: it lies on the sheet and is free
pub record WithdrawTaken (j : Job) (s : Sheet) (i : ℕ) : Type 0 where
  pub lies : Lies j s i
  pub free : is_locked j i ≡ false

-- a lay that is given is in order and gives the sheet with the piece laid
pub lay_given : (j : Job) (s s' : Sheet) (i : ℕ) (p : Placement) → called j s (laying i p) ≡ given s' → LayTaken j s i p × (lay j s i p ≡ s')
unfolding called lay_causes
lay_given j s s' i p e =
    let known = given_unless (lay_causes j s i p) (lay j s i p) s' e in
    let named = not-false (ltb i j.size.count && allowed j i p.turn) known.none.0 in (
      record {
        piece = ltb-true i j.size.count (and_left (ltb i j.size.count) (allowed j i p.turn) named);
        turn = and_right (ltb i j.size.count) (allowed j i p.turn) named;
        free = known.none.1.0;
        within = not-false (inside j i p) known.none.1.1.0;
      },
      known.same,
    )

-- a lay that is in order is given
pub lay_taken : (j : Job) (s : Sheet) (i : ℕ) (p : Placement) → LayTaken j s i p → called j s (laying i p) ≡ given (lay j s i p)
unfolding called lay_causes
lay_taken j s i p t =
    unless_given (lay_causes j s i p) (lay j s i p)
    (ap not (and_both (lt-ltb i j.size.count t.piece) t.turn), (t.free, (ap not t.within, tt)))

-- a withdraw that is given is in order and gives the sheet with the piece withdrawn
pub withdraw_given : (j : Job) (s s' : Sheet) (i : ℕ) → called j s (withdrawing i) ≡ given s' → WithdrawTaken j s i × (withdraw j s i ≡ s')
unfolding called withdraw_causes
withdraw_given j s s' i e =
    let known = given_unless (withdraw_causes j s i) (withdraw j s i) s' e in (
      record {
        lies =
            record {
              piece = ltb-true i j.size.count (not-false (ltb i j.size.count) known.none.0);
              laid = not-false (entry_in s.pieces i).laid known.none.1.0;
            };
        free = known.none.1.1.0;
      },
      known.same,
    )

-- a withdraw that is in order is given
pub withdraw_taken : (j : Job) (s : Sheet) (i : ℕ) → WithdrawTaken j s i → called j s (withdrawing i) ≡ given (withdraw j s i)
unfolding called withdraw_causes
withdraw_taken j s i t =
    unless_given (withdraw_causes j s i) (withdraw j s i) (ap not (lt-ltb i j.size.count t.lies.piece), (ap not t.lies.laid, (t.free, tt)))

-- ── lists of calls ──

-- a list of calls after another
pub calls_append : (j : Job) (s : Sheet) (cs ds : List Call) → after_calls j s (cs ++ ds) ≡ after_calls j (after_calls j s cs) ds
unfolding after_calls
calls_append j s [] ds = refl
calls_append j s (c ∷ cs) ds = calls_append j (afterwards s (called j s c)) cs ds

-- a refused call changes nothing
pub refused_unchanged : (j : Job) (s : Sheet) (c : Call) (r : Refusal) → called j s c ≡ refused r → afterwards s (called j s c) ≡ s
refused_unchanged j s c r e = rw e

-- a list gives the same sheet with a refused call left out
pub refused_left_out : (j : Job) (s : Sheet) (cs ds : List Call) (c : Call) (r : Refusal) → called j (after_calls j s cs) c ≡ refused r
    → after_calls j s (cs ++ c ∷ ds) ≡ after_calls j s (cs ++ ds)
unfolding after_calls
refused_left_out j s cs ds c r e =
    calls_append j s cs (c ∷ ds) ∙ ap (λ (t : Sheet). after_calls j t ds) (refused_unchanged j (after_calls j s cs) c r e)
    ∙ sym (calls_append j s cs ds)
