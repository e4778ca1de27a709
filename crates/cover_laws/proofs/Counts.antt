-- Document 01, 'Start, layout text, sheet': what every list of lay and withdraw calls keeps true of the sheet. The record has one
-- entry for each piece number, each blank or a piece of the job laid inside in an allowed turn; and each pixel's count is the
-- number of laid pieces on it. It holds of a fresh sheet; a lay changes one entry from blank to laid, and so one term of that number
-- from 0 to whether the piece covers the pixel; a withdraw changes it back; a refused call changes nothing. Assumes nothing.
use Rattle.list_laws.proofs.Kit.{◌∙◌, ◌≡◌, ap, refl, subst, sym, false, true, ◌≢◌, ◌⊎◌, inl, inr, ⊎_elim, List, [], ◌∷◌, ◌*◌, ◌+◌, ◌-◌, ◌<◌, ◌≤◌, suc, zero}
use Rattle.list_laws.proofs.Kit.{ℕ, zero-add, arith, eqb, get_or, length, length-replicate, length-set, replicate, set, get_or-set_other, get_or-set_same}
use Rattle.list_laws.proofs.Kit.{eqb-false, eqb-true}
use Rattle.model.specs.Bounded.{one_if}
use Rattle.model.specs.Layout.{Job, allowed, inside}
use Rattle.model.specs.Lent.{piece_bound}
use Rattle.model.specs.Refusal.{Outcome, refused, given}
use Rattle.model.specs.Cover.{Sheet, blank, laid_at, entry_in, covers_pixel, fresh, lay, withdraw}
use Rattle.model.specs.Cover.{Call, laying, withdrawing, called, afterwards, after_calls, laid_on, laid_count}
use Rattle.model.specs.declared.Placement.{Placement}
use Rattle.model.specs.declared.Entry.{Entry}
use Rattle.list_laws.proofs.Lists.{repeat_at}
use Rattle.list_laws.proofs.Sums.{sum_agree, sum_grown, sum_zero, passing_bound}
use Rattle.list_laws.proofs.Tests.{decided}
use Rattle.cover_laws.proofs.Calls.{length_map_from, get_d_map_from, LayTaken, Lies, lay_given, withdraw_given}

-- the entry of a piece of the job, laid inside in an allowed turn
pub record LaidWell (j : Job) (i : ℕ) (e : Entry) : Type 0 where
  pub laid : e.laid ≡ true
  pub piece : i < j.size.count
  pub turn : allowed j i e.place.turn ≡ true
  pub within : inside j i e.place ≡ true

-- what every list of calls keeps
pub record Sound (j : Job) (s : Sheet) : Type 0 where
  pub pieces : length s.pieces ≡ piece_bound
  pub counts : length s.counts ≡ j.size.rows * j.size.columns
  pub entry : (i : ℕ) → (entry_in s.pieces i ≡ blank) ⊎ LaidWell j i (entry_in s.pieces i)
  pub count : (k : ℕ) → k < j.size.rows * j.size.columns → get_or s.counts k 0 ≡ laid_count j s.pieces k

-- ── the number of laid pieces on a pixel ──

-- where no piece is laid it is 0
pub blank_count : (j : Job) (es : List Entry) (k : ℕ) → ((i : ℕ) → entry_in es i ≡ blank) → laid_count j es k ≡ 0
unfolding laid_count
blank_count j es k h = sum_zero j.size.count (λ i. one_if (laid_on j es k i)) (λ i l. rw (h i))

-- two records with the same entries have the same number
pub same_count : (j : Job) (es fs : List Entry) (k : ℕ) → ((i : ℕ) → i < j.size.count → entry_in es i ≡ entry_in fs i)
    → laid_count j es k ≡ laid_count j fs k
unfolding laid_count
same_count j es fs k h =
    sum_agree j.size.count (λ i. one_if (laid_on j es k i)) (λ i. one_if (laid_on j fs k i)) (λ i l. rw (h i l))

-- it grows by one where the piece that is laid covers the pixel
pub lay_count : (j : Job) (es : List Entry) (i : ℕ) (p : Placement) (k : ℕ) → i < j.size.count → i < length es → (entry_in es i).laid ≡ false
    → laid_count j (set es i (laid_at p)) k ≡ laid_count j es k + one_if (covers_pixel j i p k)
unfolding laid_count
lay_count j es i p k l l' free =
    sum_grown j.size.count (λ m. one_if (laid_on j es k m)) (λ m. one_if (laid_on j (set es i (laid_at p)) k m)) i
    (one_if (covers_pixel j i p k)) l (rw (get_or-set_same es i (laid_at p) blank l', free, zero-add))
    (λ m h ne. rw (get_or-set_other es i m (laid_at p) blank ne))

-- before a withdraw it is larger by one where the piece covered the pixel
pub withdraw_count : (j : Job) (es : List Entry) (i k : ℕ) → i < j.size.count → i < length es → (entry_in es i).laid ≡ true
    → laid_count j es k ≡ laid_count j (set es i blank) k + one_if (covers_pixel j i (entry_in es i).place k)
unfolding laid_count
withdraw_count j es i k l l' laid =
    sum_grown j.size.count (λ m. one_if (laid_on j (set es i blank) k m)) (λ m. one_if (laid_on j es k m)) i
    (one_if (covers_pixel j i (entry_in es i).place k)) l (rw (get_or-set_same es i blank blank l', laid, zero-add))
    (λ m h ne. rw (get_or-set_other es i m blank blank ne))

-- at most all pieces are on a pixel
pub count_bound : (j : Job) (es : List Entry) (k : ℕ) → laid_count j es k ≤ j.size.count
unfolding laid_count
count_bound j es k = passing_bound j.size.count (laid_on j es k)

-- ── entries ──

-- where one entry is replaced by one that passes and the others passed, all pass
pub entry_set : (P : ℕ → Entry → Type 0) (es : List Entry) (i : ℕ) (e : Entry) → i < length es → P i e
    → ((m : ℕ) → P m (entry_in es m)) → (m : ℕ) → P m (entry_in (set es i e) m)
entry_set P es i e l here others m =
    ⊎_elim
    (λ t. subst (λ (n : ℕ). P n (entry_in (set es i e) n)) (sym (eqb-true m i t)) (rw (get_or-set_same es i e blank l) here))
    (λ f. rw (get_or-set_other es i m e blank (eqb-false m i f)) (others m)) (decided (eqb m i))

-- ── what each call keeps ──

-- every entry of a fresh sheet is blank
pub fresh_entry : (j : Job) (i : ℕ) → entry_in (fresh j).pieces i ≡ blank
unfolding fresh
fresh_entry j i = repeat_at piece_bound i blank

-- a fresh sheet is sound
pub fresh_sound : (j : Job) → Sound j (fresh j)
unfolding fresh
fresh_sound j =
    record {
      pieces = length-replicate piece_bound blank;
      counts = length-replicate (j.size.rows * j.size.columns) 0;
      entry = λ i. inl (fresh_entry j i);
      count = λ k l. repeat_at (j.size.rows * j.size.columns) k 0 ∙ sym (blank_count j (fresh j).pieces k (fresh_entry j));
    }

module _ (j : Job) where
  -- a lay leaves the entries of the other pieces
  pub lay_others : (s : Sheet) (i : ℕ) (p : Placement) (k : ℕ) → k ≢ i → entry_in (lay j s i p).pieces k ≡ entry_in s.pieces k
  unfolding lay
  lay_others s i p k ne = get_or-set_other s.pieces i k (laid_at p) blank ne

  -- a withdraw leaves the entries of the other pieces
  pub withdraw_others : (s : Sheet) (i k : ℕ) → k ≢ i → entry_in (withdraw j s i).pieces k ≡ entry_in s.pieces k
  unfolding withdraw
  withdraw_others s i k ne = get_or-set_other s.pieces i k blank blank ne

  -- after a lay, each count is the old one, and one more exactly where the piece covers the pixel
  pub lay_counts_lem : (s : Sheet) (i : ℕ) (p : Placement) (k : ℕ) → Sound j s → k < j.size.rows * j.size.columns
      → get_or (lay j s i p).counts k 0 ≡ get_or s.counts k 0 + one_if (covers_pixel j i p k)
  unfolding lay
  lay_counts_lem s i p k sound l =
      get_d_map_from (λ m c. c + one_if (covers_pixel j i p m)) 0 s.counts k (let e = sound.counts in omega arith) ∙ rw zero-add

  -- after a withdraw, each count is the old one, and one less exactly where the piece covered the pixel
  pub withdraw_counts_lem : (s : Sheet) (i k : ℕ) → Sound j s → k < j.size.rows * j.size.columns
      → get_or (withdraw j s i).counts k 0 ≡ get_or s.counts k 0 - one_if (covers_pixel j i (entry_in s.pieces i).place k)
  unfolding withdraw
  withdraw_counts_lem s i k sound l =
      get_d_map_from (λ m c. c - one_if (covers_pixel j i (entry_in s.pieces i).place m)) 0 s.counts k
      (let e = sound.counts in omega arith)
      ∙ rw zero-add

  -- every count is at most the number of pieces, and so fits a byte
  pub counts_bound : (s : Sheet) (k : ℕ) → Sound j s → k < j.size.rows * j.size.columns → get_or s.counts k 0 ≤ j.size.count
  counts_bound s k sound l = let count = sound.count k l in let bound = count_bound j s.pieces k in omega arith

module _ (j : Job) (few : j.size.count ≤ piece_bound) where
  -- the record has an entry for each piece of the job
  pub entry_there : (s : Sheet) (i : ℕ) → Sound j s → i < j.size.count → i < length s.pieces
  entry_there s i sound l = let e = sound.pieces in omega arith

  -- after a lay that is in order the piece's entry holds the placement
  pub lay_entry : (s : Sheet) (i : ℕ) (p : Placement) → Sound j s → i < j.size.count → entry_in (lay j s i p).pieces i ≡ laid_at p
  unfolding lay
  lay_entry s i p sound l = get_or-set_same s.pieces i (laid_at p) blank (entry_there s i sound l)

  -- after a withdraw the piece's entry is blank
  pub withdraw_entry : (s : Sheet) (i : ℕ) → Sound j s → i < j.size.count → entry_in (withdraw j s i).pieces i ≡ blank
  unfolding withdraw
  withdraw_entry s i sound l = get_or-set_same s.pieces i blank blank (entry_there s i sound l)

  -- a laid piece counts on each pixel that it covers: what a withdraw takes off is there
  pub covered_counts : (s : Sheet) (i k : ℕ) → Sound j s → Lies j s i → k < j.size.rows * j.size.columns
      → one_if (covers_pixel j i (entry_in s.pieces i).place k) ≤ get_or s.counts k 0
  covered_counts s i k sound t l =
      let count = sound.count k l in
      let split = withdraw_count j s.pieces i k t.piece (entry_there s i sound t.piece) t.laid in
      omega arith

  -- a lay that is in order keeps the sheet sound
  pub lay_sound : (s : Sheet) (i : ℕ) (p : Placement) → Sound j s → LayTaken j s i p → Sound j (lay j s i p)
  unfolding lay
  lay_sound s i p sound t =
      let there : i < length s.pieces = entry_there s i sound t.piece in
      record {
        pieces = length-set s.pieces i (laid_at p) ∙ sound.pieces;
        counts = length_map_from (λ k c. c + one_if (covers_pixel j i p k)) 0 s.counts ∙ sound.counts;
        entry =
            entry_set (λ m e. (e ≡ blank) ⊎ LaidWell j m e) s.pieces i (laid_at p) there
            (inr (record { laid = refl; piece = t.piece; turn = t.turn; within = t.within })) sound.entry;
        count = λ k l.
            lay_counts_lem j s i p k sound l ∙ ap (λ (n : ℕ). n + one_if (covers_pixel j i p k)) (sound.count k l)
            ∙ sym (lay_count j s.pieces i p k t.piece there t.free);
      }

  -- the withdraw of a piece that lies there keeps the sheet sound
  pub withdraw_sound : (s : Sheet) (i : ℕ) → Sound j s → Lies j s i → Sound j (withdraw j s i)
  unfolding withdraw
  withdraw_sound s i sound t =
      let there : i < length s.pieces = entry_there s i sound t.piece in
      record {
        pieces = length-set s.pieces i blank ∙ sound.pieces;
        counts =
            length_map_from (λ k c. c - one_if (covers_pixel j i (entry_in s.pieces i).place k)) 0 s.counts ∙ sound.counts;
        entry = entry_set (λ m e. (e ≡ blank) ⊎ LaidWell j m e) s.pieces i blank there (inl refl) sound.entry;
        count = λ k l.
            let after = withdraw_counts_lem j s i k sound l in
            let count = sound.count k l in
            let split = withdraw_count j s.pieces i k t.piece there t.laid in
            omega arith;
      }

  -- a call that comes to o keeps the sheet sound
  outcome_sound : (s : Sheet) (c : Call) (o : Outcome Sheet) → Sound j s → called j s c ≡ o → Sound j (afterwards s o)
  outcome_sound s c (refused r) sound e = sound
  outcome_sound s (laying i p) (given s') sound e =
      let known = lay_given j s s' i p e in subst (λ (t : Sheet). Sound j t) known.1 (lay_sound s i p sound known.0)
  outcome_sound s (withdrawing i) (given s') sound e =
      let known = withdraw_given j s s' i e in subst (λ (t : Sheet). Sound j t) known.1 (withdraw_sound s i sound known.0.lies)

  -- a call keeps the sheet sound
  pub call_sound : (s : Sheet) (c : Call) → Sound j s → Sound j (afterwards s (called j s c))
  call_sound s c sound = outcome_sound s c (called j s c) sound refl

  -- a list of calls keeps the sheet sound
  pub calls_sound : (s : Sheet) (cs : List Call) → Sound j s → Sound j (after_calls j s cs)
  unfolding after_calls
  calls_sound s [] sound = sound
  calls_sound s (c ∷ cs) sound = calls_sound (afterwards s (called j s c)) cs (call_sound s c sound)

  -- every list of calls from a fresh sheet gives a sound sheet
  pub reached_sound : (cs : List Call) → Sound j (after_calls j (fresh j) cs)
  reached_sound cs = calls_sound (fresh j) cs (fresh_sound j)
