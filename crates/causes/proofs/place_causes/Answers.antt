-- `causes::place_causes`: a turn of the layout, then the call's own piece, then a placement. Assumes nothing.
use Rattle.list_laws.proofs.Kit.{◌∙◌, ◌≡◌, ap₂, arith, ◌||◌, false, true}
use Rattle.model.specs.Lent.{lent_by, job_of}
use Rattle.model.specs.Buffer.{layout_of}
use Rattle.model.specs.Calls.{some_turn_wrong, some_outside}
use Rattle.list_laws.proofs.Tests.{or_left, or_right}
use Rattle.text_laws.proofs.Causes.{there, next, no_more}
use Rattle.causes.proofs.place_causes.Goals as goal

pub returns-then-wrong_turn : goal.returns-then-wrong_turn
returns-then-wrong_turn c = λ pixels.
    let j = job_of (lent_by c.args.size c.args.table.now pixels) in
    let turn : some_turn_wrong j c.args.layout.now ≡ true = grind arith in
    c.refused.ensures ∙ there 9 _ _ (or_left _ _ turn)

pub returns-then-piece : goal.returns-then-piece
returns-then-piece c = λ pixels.
    let j = job_of (lent_by c.args.size c.args.table.now pixels) in
    c.refused-then-piece.ensures ∙ there 9 _ _ (or_right (some_turn_wrong j c.args.layout.now) _ c.if-piece.true)

pub returns-then-outside : goal.returns-then-outside
returns-then-outside c = λ pixels.
    let j = job_of (lent_by c.args.size c.args.table.now pixels) in
    let turn : some_turn_wrong j c.args.layout.now ≡ false = grind arith in
    let place : some_outside j (layout_of c.args.layout.now) ≡ true = grind arith in
    c.refused-then-outside.ensures ∙ next 9 _ _ (ap₂ ◌||◌ turn c.if-piece.false) (there 10 _ _ place)

pub returns : goal.returns
returns c = λ pixels.
    let j = job_of (lent_by c.args.size c.args.table.now pixels) in
    let turn : some_turn_wrong j c.args.layout.now ≡ false = grind arith in
    let place : some_outside j (layout_of c.args.layout.now) ≡ false = grind arith in
    next 9 _ _ (ap₂ ◌||◌ turn c.if-piece.false) (next 10 _ _ place no_more)
