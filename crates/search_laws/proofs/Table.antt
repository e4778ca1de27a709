-- A table of the pieces' penalties, for document 01's sums: entry 64 × i + k is the penalty of pieces i and k. When a piece is placed
-- anew only its own row and column change; the loop over k that writes them keeps all other entries. What stands on the diagonal plays
-- no part. Assumes nothing.
use Rattle.list_laws.proofs.Kit.{◌∙◌, ◌≡◌, ap, refl, sym, not, ◌≢◌, ⊎_elim, List, ◌*◌, ◌+◌, ◌-◌, ◌<◌, ◌≤◌, suc, ℕ, mul-le-mul_right, mul-zero, one-mul, arith}
use Rattle.list_laws.proofs.Kit.{eqb, get_or, get_or-replicate, length, length-replicate, length-set, set, get_or-set_other, get_or-set_same, eq-eqb, ne_eqb}
use Rattle.list_laws.proofs.Kit.{not-true, ℕ_discrete}
use Rattle.model.specs.Bounded.{sum_below}
use Rattle.model.specs.Layout.{Job, Layout, place_of, pair_of, pairs, pair_conflicts, pair_penalty, piece_sum, unit_weights, plain_sum}
use Rattle.model.specs.declared.Placement.{Placement}
use Rattle.list_laws.proofs.Sums.{sum_agree, sum_zero, term_at_most}
use Rattle.list_laws.proofs.Tests.{same_tests, passes, clash}
use Rattle.list_laws.proofs.Numbers.{below_more}
use Rattle.overlap_laws.proofs.Penalty.{zero_conflict, conflict_zero}
use Rattle.descent_laws.specs.Claims.{ValidWeights}
use Rattle.search_laws.specs.Table.{entry, PenaltyTable, Renewed}
use Rattle.search_laws.specs.Pairs.{row_start, pair_index}
use Rattle.search_laws.proofs.Pairs.{pair_below}
use Rattle.search_laws.specs.PieceSum.{weight_between, penalty_placed, penalty_between}
use Rattle.search_laws.proofs.PieceSum.{pair_term, share_agree, weight_positive, pair_term_lem, piece_sum_lem, placed_penalty, others_penalty, between_symmetric}
use Rattle.search_laws.proofs.PieceSum.{weighted_sum_lem, positions_rows, moved_sum, pair_between}

-- a table of no pieces
pub table_empty : (j : Job) (v : Layout) (T : List ℕ) → length T ≡ 4096 → PenaltyTable j v 0 T
table_empty j v T e = record { size = e; holds = λ i k l h d. absurd (omega arith) }

-- ── the loop that writes a row and its column ──

-- before the first entry of a piece that is placed anew
pub renewed_begin : (j : Job) (v : Layout) (n i : ℕ) (p : Placement) (T : List ℕ) → PenaltyTable j v n T → Renewed j v n i p 0 T
renewed_begin j v n i p T h =
    record { size = h.size; others = λ a b l m d x y. h.holds a b l m d; row = λ b l d. absurd (omega arith); column = λ b l d. absurd (omega arith) }

-- before the first entry of one more piece
pub added_begin : (j : Job) (v : Layout) (n : ℕ) (p : Placement) (T : List ℕ) → PenaltyTable j v n T → Renewed j v (n + 1) n p 0 T
added_begin j v n p T h =
    record {
      size = h.size;
      others = λ a b l m d x y. h.holds a b (omega arith) (omega arith) d;
      row = λ b l d. absurd (omega arith);
      column = λ b l d. absurd (omega arith);
    }

-- the piece itself is passed over
pub renewed_self : (j : Job) (v : Layout) (n i : ℕ) (p : Placement) (T : List ℕ) → Renewed j v n i p i T → Renewed j v n i p (i + 1) T
renewed_self j v n i p T h =
    record {
      size = h.size;
      others = h.others;
      row = λ b l d. h.row b (omega arith) d;
      column = λ b l d. h.column b (omega arith) d;
    }

-- what stands in a table after two places are written
twice_other : (T : List ℕ) (a b c w : ℕ) → c ≢ a → c ≢ b → get_or (set (set T a w) b w) c 0 ≡ get_or T c 0
twice_other T a b c w x y = get_or-set_other (set T a w) b c w 0 y ∙ get_or-set_other T a c w 0 x

-- the second place
twice_second : (T : List ℕ) (a b w : ℕ) → b < length T → get_or (set (set T a w) b w) b 0 ≡ w
twice_second T a b w l = get_or-set_same (set T a w) b w 0 (let e = length-set T a w in omega arith)

-- the first place
twice_first : (T : List ℕ) (a b w : ℕ) → a < length T → a ≢ b → get_or (set (set T a w) b w) a 0 ≡ w
twice_first T a b w l d = get_or-set_other (set T a w) b a w 0 d ∙ get_or-set_same T a w 0 l

-- one more entry, in the row and in the column
pub renewed_step : (j : Job) (v : Layout) (n i : ℕ) (p : Placement) (k w : ℕ) (T : List ℕ) → n ≤ 64 → i < n → k < n → i ≢ k
    → w ≡ penalty_placed j v i p k → Renewed j v n i p k T → Renewed j v n i p (k + 1) (set (set T (entry i k) w) (entry k i) w)
renewed_step j v n i p k w T few l m d e h =
    record {
      size = length-set (set T (entry i k) w) (entry k i) w ∙ length-set T (entry i k) w ∙ h.size;
      others = λ a b x y f r s. twice_other T (entry i k) (entry k i) (entry a b) w (λ q. omega arith) (λ q. omega arith) ∙ h.others a b x y f r s;
      row = λ b x f. ⊎_elim (λ (q : b ≡ k). rw q (twice_first T (entry i k) (entry k i) w fits (λ z. omega arith) ∙ e))
          (λ (q : b < k). twice_other T (entry i k) (entry k i) (entry i b) w (λ z. omega arith) (λ z. omega arith) ∙ h.row b q f) (below_more x);
      column = λ b x f. ⊎_elim (λ (q : b ≡ k). rw q (twice_second T (entry i k) (entry k i) w fits' ∙ e))
          (λ (q : b < k). twice_other T (entry i k) (entry k i) (entry b i) w (λ z. omega arith) (λ z. omega arith) ∙ h.column b q f) (below_more x);
    }
  where
    fits : entry i k < length T
    fits = let s = h.size in omega arith

    fits' : entry k i < length T
    fits' = let s = h.size in omega arith

-- the entries of piece i against those of a layout w in which it has the penalties that were written
renewed_table : (j : Job) (v w : Layout) (n i : ℕ) (p : Placement) (T : List ℕ) → Renewed j v n i p n T
    → ((a b : ℕ) → a ≢ i → b ≢ i → penalty_between j v a b ≡ penalty_between j w a b)
    → ((b : ℕ) → i ≢ b → penalty_placed j v i p b ≡ penalty_between j w i b) → PenaltyTable j w n T
renewed_table j v w n i p T h same own =
    record { size = h.size; holds = λ a b l m d. entries a b l m d (ℕ_discrete a i) (ℕ_discrete b i) }
  where
    entries : (a b : ℕ) → a < n → b < n → a ≢ b → Dec (a ≡ i) → Dec (b ≡ i) → get_or T (entry a b) 0 ≡ penalty_between j w a b
    entries a b l m d (yes e) (yes f) = absurd (d (e ∙ sym f))
    entries a b l m d (yes e) (no f) = rw e (h.row b m (λ x. f (sym x)) ∙ own b (λ x. f (sym x)))
    entries a b l m d (no e) (yes f) = rw f (h.column a l (λ x. e (sym x)) ∙ own a (λ x. e (sym x)) ∙ between_symmetric j w i a)
    entries a b l m d (no e) (no f) = h.others a b l m d e f ∙ same a b e f

-- after the last entry: the table of the layout with the piece placed anew
pub renewed_end : (j : Job) (v : Layout) (n i : ℕ) (p : Placement) (T : List ℕ) → i < length v → Renewed j v n i p n T
    → PenaltyTable j (set v i p) n T
renewed_end j v n i p T l h =
    renewed_table j v (set v i p) n i p T h (λ a b d e. sym (others_penalty j v i p a b d e))
    (λ b d. sym (placed_penalty j v i p b l d))

-- after the last entry: the table with one more piece
pub added_end : (j : Job) (v : Layout) (n : ℕ) (T : List ℕ) → Renewed j v (n + 1) n (place_of v n) (n + 1) T → PenaltyTable j v (n + 1) T
added_end j v n T h = renewed_table j v v (n + 1) n (place_of v n) T h (λ a b d e. refl) (λ b d. refl)

-- ── sums from the table ──

module _ (j : Job) (ws : List ℕ) (v : Layout) (T : List ℕ) (h : PenaltyTable j v j.size.count T) where
  -- a piece's pair sum reads its row
  pub table_piece_sum : (i : ℕ) → i < j.size.count → length ws ≡ length (pairs j.size.count)
      → piece_sum j ws v i ≡ sum_below j.size.count (λ k. weight_between j.size.count ws i k * get_or T (entry i k) 0)
  table_piece_sum i l e =
      piece_sum_lem j ws v i l e
      ∙ sum_agree j.size.count _ _ (λ k b. share_agree j.size.count ws i k _ _ (λ d. sym (h.holds i k l b d)))

  -- a row of zeros: the piece's pair sum is 0
  pub table_row_zero : (i : ℕ) → i < j.size.count → length ws ≡ length (pairs j.size.count)
      → ((k : ℕ) → k < j.size.count → i ≢ k → get_or T (entry i k) 0 ≡ 0) → piece_sum j ws v i ≡ 0
  table_row_zero i l e zero-entries =
      table_piece_sum i l e
      ∙ sum_zero j.size.count _
      (λ k b. share_agree j.size.count ws i k _ 0 (zero-entries k b) ∙ mul-zero (weight_between j.size.count ws i k))

  -- a pair sum of 0, by valid weights: the row is of zeros
  pub zero_table_row : (i : ℕ) → i < j.size.count → ValidWeights j ws → piece_sum j ws v i ≡ 0
      → (k : ℕ) → k < j.size.count → i ≢ k → get_or T (entry i k) 0 ≡ 0
  zero_table_row i l w e k b d =
      let part : ℕ → ℕ = λ m. weight_between j.size.count ws i m * get_or T (entry i m) 0 in
      let all : piece_sum j ws v i ≡ sum_below j.size.count part = table_piece_sum i l w.one_per_pair in
      let one : part k ≤ sum_below j.size.count part = term_at_most j.size.count k part b in
      let least : 1 * get_or T (entry i k) 0 ≤ part k = mul-le-mul_right (get_or T (entry i k) 0) (weight_positive j ws i k w l b d) in
      omega arith

  -- the part of the pair (i, k) in the weighted sum
  pub table_pair_term : (i k : ℕ) → i < k → k < j.size.count
      → pair_term j ws v (pair_index j.size.count i k) ≡ get_or ws (pair_index j.size.count i k) 0 * get_or T (entry i k) 0
  table_pair_term i k l b =
      pair_term_lem j ws v i k l b
      ∙ ap (λ c. get_or ws (pair_index j.size.count i k) 0 * c) (sym (h.holds i k (omega arith) b (λ e. omega arith)))

  -- the pair (i, k) conflicts exactly where its entry is not 0
  pub table_conflicts : (i k : ℕ) → i < k → k < j.size.count → pair_conflicts j v (pair_of i k) ≡ not (eqb (get_or T (entry i k) 0) 0)
  unfolding pair_conflicts pair_penalty
  table_conflicts i k l b =
      let e : get_or T (entry i k) 0 ≡ pair_penalty j v (pair_of i k)
      = h.holds i k (omega arith) b (λ e. omega arith) ∙ sym (pair_between j v i k) in
      rw e
      (same_tests _ _
      (λ s. ap not (ne_eqb (pair_penalty j v (pair_of i k)) 0 (λ z. clash s (zero_conflict _ _ _ _ _ z))))
      (λ s. passes _ (λ z. clash (eq-eqb (pair_penalty j v (pair_of i k)) 0 (conflict_zero _ _ _ _ _ z)) (not-true _ s))))

-- ── the plain sum ──

-- weights of 1
unit_at : (n c : ℕ) → c < length (pairs n) → get_or (unit_weights n) c 0 ≡ 1
unfolding unit_weights
unit_at n c l = get_or-replicate {A = ℕ} (length (pairs n)) c 1 0 l

-- one weight a pair
pub unit_length : (n : ℕ) → length (unit_weights n) ≡ length (pairs n)
unfolding unit_weights
unit_length n = length-replicate {A = ℕ} (length (pairs n)) 1

-- the part of the pair (i, k) in the plain sum is its penalty
pub plain_term : (j : Job) (v : Layout) (i k : ℕ) → i < k → k < j.size.count
    → pair_term j (unit_weights j.size.count) v (pair_index j.size.count i k) ≡ penalty_between j v i k
plain_term j v i k l h =
    pair_term_lem j (unit_weights j.size.count) v i k l h
    ∙ ap (λ w. w * penalty_between j v i k) (unit_at j.size.count (pair_index j.size.count i k) (pair_below j.size.count i k l h))
    ∙ one-mul (penalty_between j v i k)

-- the plain sum is the running sum over the positions of the pairs
pub plain_sum_lem : (j : Job) (v : Layout) → plain_sum j v ≡ sum_below (length (pairs j.size.count)) (pair_term j (unit_weights j.size.count) v)
unfolding plain_sum
plain_sum_lem j v = weighted_sum_lem j (unit_weights j.size.count) v (unit_length j.size.count)

-- the plain sum is the sum of the table's entries above the diagonal, row by row
pub plain_rows : (j : Job) (v : Layout) (T : List ℕ) → PenaltyTable j v j.size.count T
    → plain_sum j v ≡ sum_below j.size.count (λ i. sum_below (j.size.count - suc i) (λ m. get_or T (entry i (suc i + m)) 0))
plain_rows j v T h =
    plain_sum_lem j v
    ∙ positions_rows j.size.count _
    ∙ sum_agree j.size.count _ _
    (λ i l. sum_agree (j.size.count - suc i) _ _
    (λ m b. (let e : row_start j.size.count i + m ≡ pair_index j.size.count i (suc i + m) = omega arith in
    rw e (plain_term j v i (suc i + m) (omega arith) (omega arith) ∙ sym (h.holds i (suc i + m) l (omega arith) (λ q. omega arith))))))

-- the plain sum after a piece is placed anew
pub moved_plain : (j : Job) (v : Layout) (i : ℕ) (p : Placement)
    → plain_sum j (set v i p)
    ≡ plain_sum j v - piece_sum j (unit_weights j.size.count) v i + piece_sum j (unit_weights j.size.count) (set v i p) i
unfolding plain_sum
moved_plain j v i p = moved_sum j (unit_weights j.size.count) v i p
