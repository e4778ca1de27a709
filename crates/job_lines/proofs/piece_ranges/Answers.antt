-- `job_lines::piece_ranges` makes the tests of `piece_line_causes` in their order. Assumes nothing.
use Rattle.list_laws.proofs.Kit.{sym, ◌∙◌, ◌≡◌, true, leb, eq-eqb, le-ltb, leb-true, lt-ltb, ne_eqb}
use Rattle.model.specs.Refusal.{unless}
use Rattle.model.specs.Lent.{lock_bound, sides_in_range}
use Rattle.job_lines.proofs.piece_ranges.Goals as goal

pub returns-then-h-i : goal.returns-then-h-i
unfolding unless
returns-then-h-i c = (rw c.refusal.ensures (simp (ne_eqb _ _ c.if-h-i.true, unless)), tt)

pub returns-then-not-sides_in_range : goal.returns-then-not-sides_in_range
unfolding unless
returns-then-not-sides_in_range c =
    let number = eq-eqb _ _ c.if-h-i.false in
    let sides = sym c.sides_in_range.ensures ∙ c.if-not-sides_in_range.true in
    (rw c.refusal-then-not-sides_in_range.ensures (simp (number, sides, unless)), tt)

pub returns-then-not-lock_in_range : goal.returns-then-not-lock_in_range
unfolding unless
returns-then-not-lock_in_range c =
    let number = eq-eqb _ _ c.if-h-i.false in
    let sides = sym c.sides_in_range.ensures ∙ c.if-not-sides_in_range.false in
    let lock = sym c.lock_in_range.ensures ∙ c.if-not-lock_in_range.true in
    (rw c.refusal-then-not-lock_in_range.ensures (simp (number, sides, lock, unless)), tt)

pub returns-then-j-h : goal.returns-then-j-h
unfolding unless
returns-then-j-h c =
    let number = eq-eqb _ _ c.if-h-i.false in
    let sides = sym c.sides_in_range.ensures ∙ c.if-not-sides_in_range.false in
    let lock = sym c.lock_in_range.ensures ∙ c.if-not-lock_in_range.false in
    (rw c.refusal-then-j-h.ensures (simp (number, sides, lock, lt-ltb _ _ c.if-j-h.true, unless)), tt)

pub returns-then-j-h-2 : goal.returns-then-j-h-2
unfolding unless
returns-then-j-h-2 c =
    let number = eq-eqb _ _ c.if-h-i.false in
    let sides = sym c.sides_in_range.ensures ∙ c.if-not-sides_in_range.false in
    let lock = sym c.lock_in_range.ensures ∙ c.if-not-lock_in_range.false in
    let columns = le-ltb _ _ c.if-j-h.false in
    (rw c.refusal-then-j-h-2.ensures (simp (number, sides, lock, columns, lt-ltb _ _ c.if-j-h-2.true, unless)), tt)

pub returns-then-above : goal.returns-then-above
unfolding unless
returns-then-above c =
    let number = eq-eqb _ _ c.if-h-i.false in
    let sides = sym c.sides_in_range.ensures ∙ c.if-not-sides_in_range.false in
    let lock = sym c.lock_in_range.ensures ∙ c.if-not-lock_in_range.false in
    let columns = le-ltb _ _ c.if-j-h.false in
    let rows = le-ltb _ _ c.if-j-h-2.false in
    (rw c.refusal-then-above.ensures (simp (number, sides, lock, columns, rows, lt-ltb _ _ c.if-above.true, unless)), tt)

pub returns : goal.returns
unfolding unless
returns c =
    let h = c.args.h in
    let number = eq-eqb _ _ c.if-h-i.false in
    let sides : sides_in_range h.columns h.rows h.turns ≡ true = sym c.sides_in_range.ensures ∙ c.if-not-sides_in_range.false in
    let lock : leb h.lock lock_bound ≡ true = sym c.lock_in_range.ensures ∙ c.if-not-lock_in_range.false in
    let columns = le-ltb _ _ c.if-j-h.false in
    let rows = le-ltb _ _ c.if-j-h-2.false in
    let areas = le-ltb _ _ c.if-above.false in
    (simp (number, sides, lock, columns, rows, areas, unless), (sides, leb-true _ _ lock, c.if-above.false))
