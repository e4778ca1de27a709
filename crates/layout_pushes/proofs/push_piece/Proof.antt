-- `layout_pushes::push_piece` meets its contract: a locked piece stays, a free one is pushed. Assumes nothing.
use Rattle.list_laws.proofs.Kit.{◌∙◌, ◌≡◌, ap, sym, true, false, Bool, arith, rules}
use Rattle.model.specs.Layout.{is_locked}
use Rattle.model.specs.Compact.{Compacted}
use Rattle.model.specs.Lent.{Lent, lent_by, job_of}
use Rattle.model.specs.Buffer.{layout_of, entries_of}
use Rattle.job_laws.proofs.Checked.{facts}
use Rattle.layout_pushes.proofs.Pushing.{piece_locked_lem, piece_free_lem}
use Rattle.layout_pushes.proofs.push_piece.Statement.{statement}
use Rattle.layout_pushes.proofs.push_piece.Tie as tie

-- the lent job
abbrev lent : tie.Start → Lent
lent s = lent_by s.args.size s.args.table.now s.args.pixels.now

is_locked-requires : tie.Need-is_locked-requires
is_locked-requires c κs =
    let s : tie.Start = search in
    let i = s.requires.1 in
    let n = (facts (lent s) s.requires.0.laid.well).entries in
    omega arith

-- what the test tells
locked : (c : tie.After-is_locked) (b : Bool) → let s : tie.Start = search in c.is_locked.result ≡ b → is_locked (job_of (lent s)) s.args.i ≡ b
unfolding job_of
locked c b e = sym c.is_locked.ensures ∙ e

returns-then-is_locked : tie.Need-returns-then-is_locked
returns-then-is_locked c =
    let s : tie.Start = search in
    let asked : tie.After-is_locked = search in
    let e = piece_locked_lem (job_of (lent s)) s.args.i (layout_of s.args.layout.now) (locked asked true c.if-is_locked.true) in
    (sym (ap (λ (z : Compacted). z.slid) e), sym s.requires.0.written ∙ sym (ap (λ (z : Compacted). entries_of z.layout) e))

push_free-requires : tie.Need-push_free-requires
push_free-requires c κs =
    let s : tie.Start = search in
    let asked : tie.After-is_locked = search in
    let split : tie.Else-is_locked = search in
    (s.requires.0, (s.requires.1, locked asked false split.if-is_locked.false))

returns : tie.Need-returns
returns c =
    let s : tie.Start = search in
    let asked : tie.After-is_locked = search in
    let split : tie.Else-is_locked = search in
    let pushed : tie.After-push_free = search in
    let e = piece_free_lem (job_of (lent s)) s.args.i (layout_of s.args.layout.now) (locked asked false split.if-is_locked.false) in (
      pushed.push_free.ensures.0 ∙ sym (ap (λ (z : Compacted). z.slid) e),
      pushed.push_free.ensures.1 ∙ sym (ap (λ (z : Compacted). entries_of z.layout) e),
    )

pub push_piece_spec : {M : Type 1} → statement M
push_piece_spec = tie.close (tie.spec
    is_locked-requires returns-then-is_locked push_free-requires (search rules) returns)
