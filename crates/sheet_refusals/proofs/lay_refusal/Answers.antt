-- `lay_refusal`: each way's tests say which cause is the first. Assumes nothing.
use Rattle.list_laws.proofs.Kit.{◌∙◌, ◌≡◌, ap, sym, Bool, ◌&&◌, not, true, [], ◌<◌, ℕ, arith, ltb, ltb-true}
use Rattle.model.specs.Lent.{job_of}
use Rattle.model.specs.Cover.{lay_causes}
use Rattle.list_laws.proofs.Tests.{and_left}
use Rattle.text_laws.proofs.Causes.{there, next, no_more}
use Rattle.sheet_refusals.proofs.lay_refusal.Goals as goal

-- a piece that is known is one of the job
piece_here : (i n : ℕ) (r t : Bool) → r ≡ (ltb i n && t) → r ≡ true → i < n
piece_here i n r t e h = ltb-true i n (and_left (ltb i n) t (sym e ∙ h))

pub returns-then-not-known : goal.returns-then-not-known
unfolding lay_causes job_of
returns-then-not-known c = λ pixels counts. c.refused.ensures ∙ there 9 _ _ (ap not (sym (c.known.ensures pixels) ∙ c.if-not-known.true))

pub entry_of-entry-requires : goal.entry_of-entry-requires
entry_of-entry-requires c =
    let here = piece_here c.args.piece c.args.size.count c.known.result _ (c.known.ensures []) c.if-not-known.false in
    omega arith

pub returns-then-entry : goal.returns-then-entry
unfolding lay_causes job_of
returns-then-entry c = λ pixels counts.
    c.refused-then-entry.ensures
    ∙ next 9 _ _ (ap not (sym (c.known.ensures pixels) ∙ c.if-not-known.false)) (there 13 _ _ (rw (← c.entry_of-entry.ensures) c.if-entry.true))

pub inside-requires : goal.inside-requires
inside-requires c =
    let here = piece_here c.args.piece c.args.size.count c.known.result _ (c.known.ensures []) c.if-not-known.false in
    omega arith

pub returns-then-not-inside : goal.returns-then-not-inside
unfolding lay_causes job_of
returns-then-not-inside c = λ pixels counts.
    c.refused-then-not-inside.ensures
    ∙ next 9 _ _ (ap not (sym (c.known.ensures pixels) ∙ c.if-not-known.false))
    (next 13 _ _ (rw (← c.entry_of-entry.ensures) c.if-entry.false) (there 10 _ _ (ap not (sym (c.inside.ensures pixels) ∙ c.if-not-inside.true))))

pub returns : goal.returns
unfolding lay_causes job_of
returns c = λ pixels counts.
    next 9 _ _ (ap not (sym (c.known.ensures pixels) ∙ c.if-not-known.false))
    (next 13 _ _ (rw (← c.entry_of-entry.ensures) c.if-entry.false)
    (next 10 _ _ (ap not (sym (c.inside.ensures pixels) ∙ c.if-not-inside.false)) no_more))
