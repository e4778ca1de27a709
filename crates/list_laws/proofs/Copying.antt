-- A buffer while it is copied, element by element. Assumes nothing.
use Rattle.list_laws.proofs.Kit.{◌∙◌, ◌≡◌, ⊎_elim, List, ◌+◌, ◌<◌, ◌≤◌, ℕ, eq-or-lt_of_le, arith, get_or, length, length-set, set, ext_get_or}
use Rattle.list_laws.proofs.Kit.{get_or-set_other, get_or-set_same}

-- the elements below k are copied; d stands for those that are not there
pub record Copying {A : Type 0} (d : A) (from to : List A) (k : ℕ) : Type 0 where
  pub reached : k ≤ length from
  pub size : length to ≡ length from
  pub same : (m : ℕ) → m < k → get_or to m d ≡ get_or from m d

-- none is yet
pub copying_begin : {A : Type 0} (d : A) (from to : List A) → length to ≡ length from → Copying d from to 0
copying_begin d from to e = record { reached = omega arith; size = e; same = λ m l. absurd (omega arith) }

-- one more
pub copying_more : {A : Type 0} {d : A} {from to : List A} {k : ℕ} → Copying d from to k → k < length from → Copying d from (set to k (get_or from k d)) (k + 1)
copying_more {A} {d} {from} {to} {k} h b =
    let size = h.size in
    record {
      reached = omega arith;
      size = length-set to k (get_or from k d) ∙ h.size;
      same = λ m l.
          ⊎_elim (λ (e : m ≡ k). rw e (get_or-set_same to k (get_or from k d) d (omega arith)))
          (λ (q : m < k). get_or-set_other to k m (get_or from k d) d (λ e. omega arith) ∙ h.same m q) (eq-or-lt_of_le (omega arith));
    }

-- all are
pub copying_end : {A : Type 0} {d : A} {from to : List A} {k : ℕ} → Copying d from to k → length from ≤ k → to ≡ from
copying_end {A} {d} {from} {to} {k} h l = let size = h.size in ext_get_or d to from (omega arith) (λ m b. h.same m (omega arith))
