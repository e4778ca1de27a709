-- Document 02, point 7, of a lent layout: a layout that is pushed passes the check, so that the request's claims hold of it, and its buffer afterwards
-- passes it too. Assumes nothing.
use Rattle.std.specs.Prelude.{Result, Ok}
use Rattle.model.specs.declared.Refusal.{Refusal}
use Rattle.list_laws.proofs.Kit.{◌∙◌, ◌≡◌, ap, refl, subst, sym, true, List, ℕ, arith}
use Rattle.model.specs.Layout.{Layout}
use Rattle.model.specs.Lent.{Lent, job_of, lent_well}
use Rattle.model.specs.Buffer.{layout_of, entries_of}
use Rattle.model.specs.Refusal.{Outcome, refused, given}
use Rattle.model.specs.Compact.{Compacted, at_rest, compact}
use Rattle.model.specs.Calls.{layout_causes, check_causes, check_call, compact_call, compact_after, slid_answer}
use Rattle.text_laws.proofs.Entries.{entries_read_back}
use Rattle.text_laws.proofs.Outcomes.{given_unless, unless_given}
use Rattle.compact_laws.specs.Claims.{CompactClaims}
use Rattle.compact_laws.proofs.Compact.{compact_claims}
use Rattle.call_laws.specs.Checks.{Checked}
use Rattle.call_laws.specs.Compacting.{CompactedClaims}
use Rattle.call_laws.proofs.Checks.{check_given, check_passes, check_taken}
use Rattle.call_laws.proofs.Layouts.{job_well}

-- a checked layout that is pushed: its buffer passes the check, and pushing again slides nothing
pub compact_left : (l : Lent) (es : List (List ℕ)) → lent_well l ≡ true → Checked (job_of l) (layout_of es)
    → CompactedClaims l es (entries_of (compact (job_of l) (layout_of es)).layout) (compact (job_of l) (layout_of es)).slid
unfolding compact_call
compact_left l es well h =
    let j = job_of l in
    let v = layout_of es in
    let c : CompactClaims j v (compact j v) = compact_claims j v h.valid h.apart in
    let w : Layout = (compact j v).layout in
    let back : layout_of (entries_of w) ≡ w = entries_read_back w in
    let rest : Checked j w = record { valid = c.valid; apart = c.apart } in
    record {
      claims = subst (λ (u : Layout). CompactClaims j v (record { layout = u; slid = (compact j v).slid })) (sym back) c;
      checked = check_taken l w well rest;
      again =
          unless_given _ (compact j (layout_of (entries_of w))) (check_passes l w well rest)
          ∙ ap given (ap (compact j) back ∙ c.again ∙ sym (ap at_rest back));
    }

-- a layout that is pushed by the call
pub compact_given : (l : Lent) (es : List (List ℕ)) (c : Compacted) → compact_call l es ≡ given c
    → (c ≡ compact (job_of l) (layout_of es)) × CompactedClaims l es (compact_after es (compact_call l es)) c.slid
unfolding compact_call check_call layout_causes
compact_given l es c e =
    let u = given_unless (check_causes l es) (compact (job_of l) (layout_of es)) c e in
    let n = u.none in
    let told : compact_after es (compact_call l es) ≡ entries_of (compact (job_of l) (layout_of es)).layout =
    ap (compact_after es) (e ∙ ap given (sym u.same)) in (
      sym u.same,
      rw told
          (subst (λ (d : Compacted). CompactedClaims l es (entries_of (compact (job_of l) (layout_of es)).layout) d.slid) u.same
          (compact_left l es (job_well l n.0) (check_given l es tt (unless_given _ tt n)))),
    )

-- ── what an answer tells ──

-- an answer that tells a number tells a layout that is given
slid_given : (o : Outcome Compacted) (n : ℕ) → Ok n ≡ slid_answer o → (c : Compacted) × (o ≡ given c) × (n ≡ c.slid)
slid_given (refused r) n e = let z : ◌≡◌ {A = ℕ} 0 1 = cc in absurd (omega arith)
slid_given (given c) n e = (c, refl, cc)

-- an answer that tells the call's outcome says so of the buffer that it leaves
pub compact_answered : (l : Lent) (es : List (List ℕ)) {r : Result ℕ Refusal} → r ≡ slid_answer (compact_call l es) → (n : ℕ) → r ≡ Ok n
    → CompactedClaims l es (compact_after es (compact_call l es)) n
compact_answered l es {r} e n told =
    let w = slid_given (compact_call l es) n (sym told ∙ e) in
    subst (CompactedClaims l es (compact_after es (compact_call l es))) (sym w.2) (compact_given l es w.0 w.1).1
