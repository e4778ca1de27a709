-- Document 01, 'When a call says no', checking a layout: a layout that passes is valid and no two of its pieces conflict; refusal 12
-- names the pair that does, lowest first number, then lowest second. The pairs are listed in that order, and the check names
-- the first that conflicts. Assumes nothing.
use Rattle.std.specs.Prelude.{Ok}
use Rattle.list_laws.proofs.Kit.{◌∙◌, ◌≡◌, ap, refl, subst, sym, Bool, false, true, ◌≢◌, ◌⊎◌, inl, inr, ⊎_elim, Option, none, some, List, Memᴰ}
use Rattle.list_laws.proofs.Kit.{Memᴰ-cases_cons, Memᴰ-head, Memᴰ-not_nil, Memᴰ-tail, [], ◌∷◌, suc, zero, ℕ, arith, eq-eqb, length, not}
use Rattle.model.specs.Layout.{Job, Layout, Pair, pairs_with, pairs_from, pairs, pair_conflicts, first_pair, conflicting_pair}
use Rattle.model.specs.Buffer.{layout_of, entries_of}
use Rattle.model.specs.Lent.{Lent, job_of, lent_well}
use Rattle.model.specs.Refusal.{Outcome, refused, given, Cause, unless, refusal_of}
use Rattle.model.specs.Answers.{done_answer, first_cause}
use Rattle.model.specs.Calls.{job_cause, layout_length, turns_cause, outside_cause, layout_causes, conflict_cause, check_causes, check_call}
use Rattle.model.specs.declared.Refusal.{Refusal}
use Rattle.list_laws.proofs.Tests.{clash}
use Rattle.strip_laws.specs.Lists.{Pairwise, none as no_more, more}
use Rattle.strip_laws.proofs.Lists.{pairwise_append}
use Rattle.text_laws.specs.Outcomes.{NoCause}
use Rattle.text_laws.proofs.Outcomes.{given_unless, unless_given}
use Rattle.text_laws.proofs.Causes.{passed_none}
use Rattle.text_laws.proofs.Entries.{entries_read_back}
use Rattle.overlap_laws.proofs.Grown.{conflict_from, conflict_witness}
use Rattle.descent_laws.specs.Claims.{NoConflict}
use Rattle.descent_laws.proofs.Sums.{pair_mem, mem_pair, mem_with, mem_from}
use Rattle.call_laws.specs.Checks.{PairBefore, LowestPair, Checked, conflict_refusal}
use Rattle.call_laws.proofs.Layouts.{BufferPasses, valid_buffer, layout_valid}

-- ── the order of pairs ──

-- the pairs with first number i
with_ordered : (i k left : ℕ) → Pairwise PairBefore (pairs_with i k left)
unfolding pairs_with
with_ordered i k zero = no_more
with_ordered i k (suc left) =
    more (λ q m. let r = mem_with i (suc k) left q m in inr (sym r.0, r.1)) (with_ordered i (suc k) left)

-- the pairs with first numbers from i on
from_ordered : (i left : ℕ) → Pairwise PairBefore (pairs_from i left)
unfolding pairs_from
from_ordered i zero = no_more
from_ordered i (suc left) =
    pairwise_append (with_ordered i (suc i) left) (from_ordered (suc i) left)
    (λ p q m m'.
    let a = (mem_with i (suc i) left p m).0 in
    let b = (mem_from (suc i) left q m').from in
    inl (omega arith))

-- all pairs stand in order of first number, then second
pub pairs_ordered : (n : ℕ) → Pairwise PairBefore (pairs n)
pairs_ordered n = from_ordered 0 n

-- ── the first pair that passes ──

-- what is found: nothing, and then no pair passes; or a pair of the list that passes and stands before every other that passes
abbrev pub FirstFound : (Pair → Bool) → List Pair → Option Pair → Type 0
FirstFound test ps none = (p : Pair) → Memᴰ p ps → test p ≡ false
FirstFound test ps (some p) =
    Memᴰ p ps × (test p ≡ true) × ((q : Pair) → Memᴰ q ps → test q ≡ true → (p ≡ q) ⊎ PairBefore p q)

-- by whether the first pair of the list passes
found_step : (test : Pair → Bool) (p : Pair) (ps : List Pair) (b : Bool) → test p ≡ b → ((q : Pair) → Memᴰ q ps → PairBefore p q)
    → (o : Option Pair) → FirstFound test ps o → FirstFound test (p ∷ ps) (elim b as (λ _. Option Pair) [ true ↦ some p | false ↦ o ])
found_step test p ps true e before o found =
    (Memᴰ-head refl, e, λ q m t. ⊎_elim (λ h. inl (sym h)) (λ m'. inr (before q m')) (Memᴰ-cases_cons m))
found_step test p ps false e before none found = λ q m. ⊎_elim (λ h. ap test h ∙ e) (found q) (Memᴰ-cases_cons m)
found_step test p ps false e before (some r) found = (
  Memᴰ-tail found.0,
  found.1,
  λ q m t. ⊎_elim (λ h. absurd (clash t (ap test h ∙ e))) (λ m'. found.2 q m' t) (Memᴰ-cases_cons m),
)

-- `first_pair` finds it in an ordered list
pub first_found : (test : Pair → Bool) (ps : List Pair) → Pairwise PairBefore ps → FirstFound test ps (first_pair test ps)
unfolding first_pair
first_found test [] no_more = λ q m. absurd (Memᴰ-not_nil m)
first_found test (p ∷ ps) (more before rest) = found_step test p ps (test p) refl before (first_pair test ps) (first_found test ps rest)

-- ── the check ──

-- what the search for a pair that conflicts finds
abbrev pub Conflicting : Job → Layout → Option Pair → Type 0
Conflicting j v none = NoConflict j v
Conflicting j v (some p) = LowestPair j v p

-- from the tests to the pixels
conflicting_step : (j : Job) (v : Layout) (o : Option Pair) → FirstFound (pair_conflicts j v) (pairs j.size.count) o → Conflicting j v o
unfolding pair_conflicts
conflicting_step j v none found =
    λ i k l m w. clash (conflict_from _ _ _ _ _ w) (found (record { first = i; second = k }) (pair_mem j.size.count i k l m))
conflicting_step j v (some p) found =
    record {
      ordered = mem_pair j.size.count p found.0;
      conflicts = conflict_witness _ _ _ _ _ found.1;
      lowest = λ i k l m w. found.2 (record { first = i; second = k }) (pair_mem j.size.count i k l m) (conflict_from _ _ _ _ _ w);
    }

-- the search answers so
pub conflicting : (j : Job) (v : Layout) → Conflicting j v (conflicting_pair j v)
unfolding conflicting_pair
conflicting j v = conflicting_step j v (conflicting_pair j v) (first_found (pair_conflicts j v) (pairs j.size.count) (pairs_ordered j.size.count))

-- where the search's cause is not there, no two pieces conflict
none_conflict : (j : Job) (v : Layout) (o : Option Pair) → Conflicting j v o → (conflict_cause o).there ≡ false → NoConflict j v
none_conflict j v none h e = h
none_conflict j v (some p) h e = absurd (clash refl e)

-- the check answers by the first of its causes
pub check_first : (l : Lent) (es : List (List ℕ)) → done_answer (check_call l es) ≡ first_cause (check_causes l es)
unfolding check_call
check_first l es = refl

-- where it passes none of them is there
pub check_none : (l : Lent) (es : List (List ℕ)) → Ok tt ≡ done_answer (check_call l es) → NoCause (check_causes l es)
check_none l es e = passed_none (check_causes l es) (e ∙ check_first l es)

-- a layout that passes the check is valid, and no two of its pieces conflict
pub check_given : (l : Lent) (es : List (List ℕ)) (u : Unit {0}) → check_call l es ≡ given u → Checked (job_of l) (layout_of es)
unfolding check_call layout_causes
check_given l es u e =
    let n = (given_unless (check_causes l es) tt u e).none in
    record {
      valid = layout_valid l es n.1.0 n.1.1.0 n.1.1.1.0;
      apart = none_conflict (job_of l) (layout_of es) (conflicting_pair (job_of l) (layout_of es)) (conflicting (job_of l) (layout_of es)) n.1.1.1.1.0;
    }

-- by whether the first cause is there
past_step : {A : Type 0} (c : Cause) (cs : List Cause) (a : A) (r : Refusal) (t : Bool) → c.number ≢ r.number
    → ◌≡◌ {A = Outcome A} (elim t as (λ _. Outcome A) [ true ↦ refused (refusal_of c) | false ↦ unless cs a ]) (refused r)
    → unless cs a ≡ refused r
past_step c cs a r true n e = let same : refusal_of c ≡ r = cc in absurd (n (ap (λ (q : Refusal). q.number) same))
past_step c cs a r false n e = e

-- a refusal with another number than the first cause's comes from a later cause
past : {A : Type 0} (c : Cause) (cs : List Cause) (a : A) (r : Refusal) → c.number ≢ r.number → unless (c ∷ cs) a ≡ refused r
    → unless cs a ≡ refused r
unfolding unless
past c cs a r n e = past_step c cs a r c.there n e

-- the last cause names the pair that is found
names_found : (j : Job) (v : Layout) (o : Option Pair) (p : Pair) → Conflicting j v o
    → unless (conflict_cause o ∷ []) (tt {0}) ≡ refused (conflict_refusal p) → LowestPair j v p
unfolding unless
names_found j v none p h e = absurd (let z : ◌≡◌ {A = ℕ} 0 1 = cc in omega arith)
names_found j v (some q) p h e =
    let same : conflict_refusal q ≡ conflict_refusal p = cc in
    let pair : q ≡ p = λ i. record { first = (same i).first; second = (same i).second } in
    subst (LowestPair j v) pair h

-- refusal 12 names the lowest pair that conflicts
pub check_conflict : (l : Lent) (es : List (List ℕ)) (p : Pair) → check_call l es ≡ refused (conflict_refusal p) → LowestPair (job_of l) (layout_of es) p
unfolding check_call layout_causes
check_conflict l es p e =
    let o : Option Pair = conflicting_pair (job_of l) (layout_of es) in
    let r : Refusal = conflict_refusal p in
    names_found (job_of l) (layout_of es) o p (conflicting (job_of l) (layout_of es))
    (past (outside_cause l es) (conflict_cause o ∷ []) tt r (omega arith)
    (past (turns_cause l es) _ tt r (omega arith) (past (layout_length l es) _ tt r (omega arith) (past (job_cause l) _ tt r (omega arith) e))))

-- ── a layout that passes ──

-- where no two pieces conflict the search's cause is not there
cause_none : (j : Job) (v : Layout) (o : Option Pair) → Conflicting j v o → NoConflict j v → (conflict_cause o).there ≡ false
cause_none j v none h apart = refl
cause_none j v (some p) h apart = absurd (apart p.first p.second h.ordered.rising h.ordered.below h.conflicts)

-- no cause of the check is there of a valid layout, written as entries, in which no two pieces conflict
pub check_passes : (l : Lent) (v : Layout) → lent_well l ≡ true → Checked (job_of l) v
    → NoCause (check_causes l (entries_of v))
unfolding layout_causes job_of
check_passes l v well h =
    let p : BufferPasses (job_of l) (entries_of v) = valid_buffer (job_of l) v h.valid in
    let back = entries_read_back v in (
      ap not well,
      (
        ap not (eq-eqb (length (entries_of v)) l.size.count p.size),
        (p.turns, (p.outside, (rw back (cause_none (job_of l) v (conflicting_pair (job_of l) v) (conflicting (job_of l) v) h.apart), tt))),
      ),
    )

-- so it passes
pub check_taken : (l : Lent) (v : Layout) → lent_well l ≡ true → Checked (job_of l) v → check_call l (entries_of v) ≡ given tt
unfolding check_call
check_taken l v well h = unless_given _ tt (check_passes l v well h)
