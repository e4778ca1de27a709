-- A lent stretch is the piece's own exactly when comparing it with the piece's strips ends at its end. Assumes nothing.
use Rattle.std.specs.Prelude.{Some, None}
use Rattle.list_laws.proofs.Kit.{◌∙◌, ◌≡◌, ap, refl, sym, Bool, false, true, List, map, ◌+◌, ◌<◌, ℕ, arith, eqb, ltb, length, length-map, take_all, eq-eqb}
use Rattle.list_laws.proofs.Kit.{eqb-true, ltb-true}
use Rattle.model.specs.Strip.{Strip}
use Rattle.model.specs.Lent.{Lent, job_of}
use Rattle.model.specs.Buffer.{strip_entry, same_entries}
use Rattle.model.specs.Calls.{LentStretch, known}
use Rattle.list_laws.proofs.Tests.{and_left, same_tests, fails, clash}
use Rattle.list_laws.proofs.Equal.{same_entries_lem}
use Rattle.strip_scan.specs.Compare.{stand_in, compared_by, compared}

module _ (ts : List Strip) (store : List (List ℕ)) where
  -- a store as long as the strips is compared whole
  stand_whole : length store ≡ length ts → stand_in ts store 0 ≡ same_entries store (map strip_entry ts)
  stand_whole e = ap (λ (z : List (List ℕ)). same_entries z (map strip_entry ts)) (take_all (length ts) store (omega arith))

  same_long : same_entries store (map strip_entry ts) ≡ true → length store ≡ length ts
  same_long e = ap length (same_entries_lem store (map strip_entry ts) e) ∙ length-map ts strip_entry

  none_by : (b : Bool) → stand_in ts store 0 ≡ b → None ≡ compared_by b (0 + length ts) → stand_in ts store 0 ≡ false
  none_by true h e = absurd (cc)
  none_by false h e = h

  some_by : (b : Bool) (end : ℕ) → stand_in ts store 0 ≡ b → Some end ≡ compared_by b (0 + length ts) → (stand_in ts store 0 ≡ true) × (end ≡ 0 + length ts)
  some_by true end h e = (h, cc)
  some_by false end h e = absurd (cc)

  -- strips that do not stand there are not the stretch
  pub none_own : None ≡ compared ts store 0 → false ≡ same_entries store (map strip_entry ts)
  unfolding compared
  none_own e =
      let f : stand_in ts store 0 ≡ false = none_by (stand_in ts store 0) refl e in
      sym (fails (same_entries store (map strip_entry ts)) (λ h. clash (stand_whole (same_long h) ∙ h) f))

  -- strips that stand there are the stretch where it ends with them
  pub some_own : (end : ℕ) → Some end ≡ compared ts store 0 → eqb end (length store) ≡ same_entries store (map strip_entry ts)
  unfolding compared
  some_own end e =
      let f = some_by (stand_in ts store 0) end refl e in
      same_tests (eqb end (length store)) (same_entries store (map strip_entry ts))
      (λ h. let n : length store ≡ length ts = omega (arith, eqb-true end (length store) h, f.1) in sym (stand_whole n) ∙ f.0)
      (λ h. eq-eqb end (length store) (omega (arith, f.1, same_long h)))

-- a known piece is one of the job's
pub known_below : (l : Lent) (p : LentStretch) → known (job_of l) p ≡ true → p.piece < l.size.count
unfolding known job_of
known_below l p e = ltb-true p.piece l.size.count (and_left (ltb p.piece l.size.count) _ e)
