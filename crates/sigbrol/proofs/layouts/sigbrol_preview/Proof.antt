-- `sigbrol::layouts::sigbrol_preview` meets its contract by what the answer tells. Assumes nothing.
use Rattle.list_laws.proofs.Kit.{◌∙◌, ◌≡◌, ap, sym, arith, rules}
use Rattle.model.specs.Buffer.{placement}
use Rattle.model.specs.Refusal.{Outcome}
use Rattle.model.specs.Calls.{preview_call}
use Rattle.model.specs.declared.Figures.{Figures}
use Rattle.c_interface.specs.Numbers.{lent_as, piece_with_turn}
use Rattle.c_interface.specs.declared.Reply.{Reply}
use Rattle.layout_preview_calls.specs.Answers.{preview_answer}
use Rattle.sigbrol.proofs.Told.{reply_by, leaves_by, refusal_told, figures_told_lem}
use Rattle.sigbrol.proofs.Claimed.{preview_numbered}
use Rattle.sigbrol.proofs.layouts.sigbrol_preview.Statement.{statement}
use Rattle.sigbrol.proofs.layouts.sigbrol_preview.Tie as tie

-- the outcome of the call
outcome : tie.Start → Outcome Figures
outcome s = let a = s.args in
    preview_call (lent_as a.rows a.columns a.count a.gap a.table.now a.pixels.now) a.layout.now a.weights.now
    (piece_with_turn a.turn a.piece) (placement a.turn a.x a.y)

-- its answer tells that outcome
answered : (c : tie.After-preview) →
    let at-start : tie.Start = search in
    c.preview.result ≡ preview_answer (outcome at-start)
unfolding outcome
answered c =
    let at-size-of : tie.After-size_of = search in
    rw (at-size-of.size_of.ensures, c.piece_with_turn.ensures, c.placement_of.ensures) at c.preview.ensures.0

returns-in-Ok : tie.Need-returns-in-Ok
unfolding outcome
returns-in-Ok c =
    let at-start : tie.Start = search in
    let at-size-of : tie.After-size_of = search in
    let at_piece : tie.After-piece_with_turn = search in
    let at_place : tie.After-placement_of = search in
    let at-preview : tie.After-preview = search in
    let at-figures : tie.In-Ok = search in
    let o = outcome at-start in
    let t = figures_told_lem o (sym at-figures.in-Ok.is ∙ answered at-preview) in (
      c.done.ensures ∙ reply_by (λ f. f) o t,
      (
        leaves_by (λ f. f) (λ f. f.sum) _ o t,
        (
          leaves_by (λ f. f) (λ f. f.length) _ o t,
          λ zero.
              rw (at-size-of.size_of.ensures, at_piece.piece_with_turn.ensures, at_place.placement_of.ensures) at
              (at-preview.preview.ensures.1 _ at-figures.in-Ok.is),
        ),
      ),
    )

returns-in-Err : tie.Need-returns-in-Err
unfolding outcome
returns-in-Err c =
    let at-start : tie.Start = search in
    let at-preview : tie.After-preview = search in
    let o = outcome at-start in
    let t = figures_told_lem o (sym c.in-Err.is ∙ answered at-preview) in
    let a = at-start.args in
    let positive =
    preview_numbered (lent_as a.rows a.columns a.count a.gap a.table.now a.pixels.now) a.layout.now a.weights.now
    (piece_with_turn a.turn a.piece) (placement a.turn a.x a.y) _ (refusal_told (λ f. f) o _ t) in
    let number = ap (λ (x : Reply). x.number) c.refused.ensures in (
      c.refused.ensures ∙ reply_by (λ f. f) o t,
      (
        leaves_by (λ f. f) (λ f. f.sum) _ o t,
        (leaves_by (λ f. f) (λ f. f.length) _ o t, λ zero. absurd (omega (arith, positive, number, zero))),
      ),
    )

pub sigbrol_preview_spec : {M : Type 1} → statement M
sigbrol_preview_spec =
    tie.close
    (tie.spec
    (search rules) (search rules) (search rules) (search rules) (search rules) (search rules) (search rules) (search rules) returns-in-Ok
    returns-in-Err)
