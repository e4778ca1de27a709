-- What the strips call and the stretch call come to, case by case in the order of their causes. Assumes nothing.
use Rattle.list_laws.proofs.Kit.{◌∙◌, ◌≡◌, ap, refl, Bool, ◌&&◌, ◌||◌, false, not, true, List, [], ◌∷◌, map, ◌<◌, ◌≤◌, ℕ, arith, ltb, length, length-map}
use Rattle.list_laws.proofs.Kit.{sets, le-ltb, lt-ltb, ltb-false, ltb-true, not-false, not-true}
use Rattle.model.specs.Buffer.{strip_entry, filled}
use Rattle.model.specs.Layout.{Job}
use Rattle.model.specs.Lent.{Lent, job_of, lent_well}
use Rattle.model.specs.Refusal.{Outcome, unless, refused, given, cause, plain_refusal}
use Rattle.model.specs.Store.{store, starts, store_well}
use Rattle.model.specs.Calls.{Stores, stores_of, stores_short, stores_well, stores_after, turn_list_wrong, strips_call, stretch_call, stretch_of, stretch_given}
use Rattle.model.specs.Calls.{stretch_number}
use Rattle.model.specs.declared.Direction.{Direction}
use Rattle.model.specs.declared.Direction.TheVariants.{Horizontal, Vertical}
use Rattle.list_laws.proofs.Stores.{sets_filled}
use Rattle.list_laws.proofs.Tests.{and_left, and_right, or_right, or_neither}
use Rattle.strip_store.specs.Made.{StoreFilled}
use Rattle.strip_calls.specs.Stores.{Cut, stores_by}
use Rattle.strip_store.specs.Rooms.{room_of, store_fits}
use Rattle.strip_calls.specs.Rooms.{has_room}
use Rattle.strip_calls.proofs.Cutting.{cut_from}

-- ── the stretch call ──

module _ (l : Lent) (ts : List ℕ) (lent : Stores) (i : ℕ) (d : Direction) where
  -- the job does not pass its check
  pub stretch_job : lent_well l ≡ false → stretch_call l ts lent i d ≡ refused (plain_refusal 8)
  unfolding stretch_call unless
  stretch_job e = rw (e, unless)

  -- the list of turns is wrong
  pub stretch_turns : lent_well l ≡ true → turn_list_wrong (job_of l) ts ≡ true → stretch_call l ts lent i d ≡ refused (plain_refusal 9)
  unfolding stretch_call unless
  stretch_turns e w = rw (e, w, unless)

  -- there is no such piece
  pub stretch_piece : lent_well l ≡ true → l.size.count ≤ i → stretch_call l ts lent i d ≡ refused (plain_refusal 9)
  unfolding stretch_call unless
  stretch_piece e h = rw (e, le-ltb i l.size.count h, or_right (turn_list_wrong (job_of l) ts) true refl, unless)

  -- a store is not the job's in these turns
  pub stretch_store : lent_well l ≡ true → turn_list_wrong (job_of l) ts ≡ false → i < l.size.count → stores_well (job_of l) ts lent ≡ false
      → stretch_call l ts lent i d ≡ refused (plain_refusal 8)
  unfolding stretch_call unless
  stretch_store e w h s = rw (e, w, lt-ltb i l.size.count h, s, unless)

  -- no cause is there
  pub stretch_given_lem : lent_well l ≡ true → turn_list_wrong (job_of l) ts ≡ false → i < l.size.count → stores_well (job_of l) ts lent ≡ true
      → stretch_call l ts lent i d ≡ given (stretch_of d lent i)
  unfolding stretch_call unless
  stretch_given_lem e w h s = rw (e, w, lt-ltb i l.size.count h, s, unless)

-- a refusal leaves the stretch empty
pub stretch_empty : (o : Outcome (List (List ℕ))) → (stretch_number o ≡ 0 → ⊥) → [] ≡ stretch_given o
stretch_empty (refused r) h = refl
stretch_empty (given part) h = absurd (h refl)

-- without a number no cause of the stretch call is there
no_number : {part : List (List ℕ)} (job turns store : Bool) → stretch_number (unless (cause 8 (not job) ∷ cause 9 turns ∷ cause 8 (not store) ∷ []) part) ≡ 0
    → (turns ≡ false) × (store ≡ true) × (unless (cause 8 (not job) ∷ cause 9 turns ∷ cause 8 (not store) ∷ []) part ≡ given part)
unfolding unless
no_number true false true e = (refl, refl, refl)
no_number true false false e = absurd (omega arith)
no_number true true store e = absurd (omega arith)
no_number false turns store e = absurd (omega arith)

-- a stretch that is given: it can be cut out of either store
pub record StretchPassed (l : Lent) (ts : List ℕ) (lent : Stores) (i : ℕ) (d : Direction) : Type 0 where
  pub rows : Cut lent.row_strips lent.row_starts i
  pub columns : Cut lent.column_strips lent.column_starts i
  pub gives : stretch_call l ts lent i d ≡ given (stretch_of d lent i)

-- without a number the stretch is given
pub stretch_passed : (l : Lent) (ts : List ℕ) (lent : Stores) (i : ℕ) (d : Direction) → stretch_number (stretch_call l ts lent i d) ≡ 0
    → StretchPassed l ts lent i d
unfolding stretch_call stores_well job_of
stretch_passed l ts lent i d e =
    let p = no_number (lent_well l) (turn_list_wrong (job_of l) ts || not (ltb i l.size.count)) (stores_well (job_of l) ts lent) e in
    let h : i < l.size.count = ltb-true i l.size.count (not-false _ (or_neither (turn_list_wrong (job_of l) ts) _ p.0).1) in
    record {
      rows = cut_from Horizontal (job_of l) ts lent.row_strips lent.row_starts i (and_left _ _ p.1) h;
      columns =
          cut_from Vertical (job_of l) ts lent.column_strips lent.column_starts i
          (and_right (store_well Horizontal (job_of l) ts lent.row_strips lent.row_starts) _ p.1) h;
      gives = p.2;
    }

-- ── the strips call ──

-- none of four tests passes
none_of : (a b c e : Bool) → (a || b || c || e) ≡ not ((not a && not b) && (not c && not e))
none_of true b c e = refl
none_of false true c e = refl
none_of false false true e = refl
none_of false false false true = refl
none_of false false false false = refl

-- stores are too short where one has no room
short_room : (j : Job) (ts : List ℕ) (lent : Stores) → stores_short (stores_of j ts) lent ≡ not (has_room j ts lent)
unfolding stores_short stores_of
short_room j ts lent =
    rw (length-map (store Horizontal j ts) strip_entry, length-map (store Vertical j ts) strip_entry)
    (none_of (ltb (length lent.row_strips) (length (store Horizontal j ts))) _ (ltb (length lent.column_strips) (length (store Vertical j ts))) _)

module _ (l : Lent) (ts : List ℕ) (lent : Stores) where
  -- the job does not pass its check
  pub strips_job : lent_well l ≡ false → strips_call l ts lent ≡ refused (plain_refusal 8)
  unfolding strips_call unless
  strips_job e = rw (e, unless)

  -- the list of turns is wrong
  pub strips_turns : lent_well l ≡ true → turn_list_wrong (job_of l) ts ≡ true → strips_call l ts lent ≡ refused (plain_refusal 9)
  unfolding strips_call unless
  strips_turns e w = rw (e, w, unless)

  -- a store has no room
  pub strips_short : lent_well l ≡ true → turn_list_wrong (job_of l) ts ≡ false → has_room (job_of l) ts lent ≡ false
      → strips_call l ts lent ≡ refused (plain_refusal 7)
  unfolding strips_call unless
  strips_short e w s = let k : stores_short (stores_of (job_of l) ts) lent ≡ true = short_room (job_of l) ts lent ∙ ap not s in rw (e, w, k, unless)

  -- no cause is there
  pub strips_given : lent_well l ≡ true → turn_list_wrong (job_of l) ts ≡ false → has_room (job_of l) ts lent ≡ true
      → strips_call l ts lent ≡ given (stores_of (job_of l) ts)
  unfolding strips_call unless
  strips_given e w s = let k : stores_short (stores_of (job_of l) ts) lent ≡ false = short_room (job_of l) ts lent ∙ ap not s in rw (e, w, k, unless)

-- ── what the stores hold ──

-- with room the store and the starts are filled over the front
record Over (d : Direction) (j : Job) (ts : List ℕ) (strips₀ : List (List ℕ)) (starts₀ : List ℕ) : Type 0 where
  pub strips_over : sets strips₀ 0 (map strip_entry (store d j ts)) ≡ filled (map strip_entry (store d j ts)) strips₀
  pub starts_over : sets starts₀ 0 (starts d j ts) ≡ filled (starts d j ts) starts₀

room_over : (d : Direction) (j : Job) (ts : List ℕ) (strips₀ : List (List ℕ)) (starts₀ : List ℕ) → store_fits d j ts (room_of strips₀ starts₀) ≡ true
    → Over d j ts strips₀ starts₀
room_over d j ts strips₀ starts₀ e =
    let a : length (store d j ts) ≤ length strips₀ = ltb-false _ _ (not-true _ (and_left _ _ e)) in
    let b : length (starts d j ts) ≤ length starts₀ = ltb-false _ _ (not-true _ (and_right (not (ltb (length strips₀) (length (store d j ts)))) _ e)) in
    let m = length-map (store d j ts) strip_entry in
    record { strips_over = sets_filled strips₀ (map strip_entry (store d j ts)) (omega arith); starts_over = sets_filled starts₀ (starts d j ts) b }

-- both stores and both starts, filled with room, hold what the strips call leaves in them
pub stores_filled : (j : Job) (ts : List ℕ) {a₀ a₁ c₀ c₁ : List (List ℕ)} {b₀ b₁ e₀ e₁ : List ℕ} {m n : ℕ}
    → has_room j ts (stores_by a₀ b₀ c₀ e₀) ≡ true → StoreFilled Horizontal j ts a₀ b₀ a₁ b₁ m → StoreFilled Vertical j ts c₀ e₀ c₁ e₁ n
    → stores_by a₁ b₁ c₁ e₁ ≡ stores_after (stores_by a₀ b₀ c₀ e₀) (given (stores_of j ts))
unfolding stores_of
stores_filled j ts {a₀} {a₁} {c₀} {c₁} {b₀} {b₁} {e₀} {e₁} r f g =
    let o = room_over Horizontal j ts a₀ b₀ (and_left _ _ r) in
    let p = room_over Vertical j ts c₀ e₀ (and_right (store_fits Horizontal j ts (room_of a₀ b₀)) _ r) in
    rw (f.stored ∙ o.strips_over, f.started ∙ o.starts_over, g.stored ∙ p.strips_over, g.started ∙ p.starts_over)
