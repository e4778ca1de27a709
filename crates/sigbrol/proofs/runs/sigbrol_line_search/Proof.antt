-- `sigbrol::runs::sigbrol_line_search` meets its contract by what the answer tells. Assumes nothing.
use Rattle.list_laws.proofs.Kit.{◌∙◌, ◌≡◌, sym, rules}
use Rattle.model.specs.Buffer.{turn_of}
use Rattle.model.specs.Search.{Best}
use Rattle.model.specs.Refusal.{Outcome}
use Rattle.model.specs.Calls.{search_call}
use Rattle.model.specs.declared.Line.{Line}
use Rattle.c_interface.specs.Numbers.{lent_as, piece_with_turn, line_of}
use Rattle.search_calls.specs.Answers.{search_answer}
use Rattle.sigbrol.proofs.Told.{reply_by, leaves_by, best_told_lem}
use Rattle.sigbrol.proofs.runs.sigbrol_line_search.Statement.{statement}
use Rattle.sigbrol.proofs.runs.sigbrol_line_search.Tie as tie

-- the outcome of the call
outcome : tie.Start → Outcome Best
outcome s = let a = s.args in
    search_call (lent_as a.rows a.columns a.count a.gap a.table.now a.pixels.now) a.layout.now a.weights.now
    (piece_with_turn a.turn a.piece) (turn_of a.turn) (line_of a.vertical a.held)

-- its line
line : tie.Start → Line
line s = line_of s.args.vertical s.args.held

-- its answer tells that outcome
answered : (c : tie.After-line_search)
    →
    let at-start : tie.Start = search in
    c.line_search.result ≡ search_answer (line (at-start)) (outcome (at-start))
unfolding outcome line
answered c =
    let at-piece-with-turn : tie.After-piece_with_turn = search in
    let at-size-of : tie.After-size_of-size = search in
    rw (at-size-of.size_of-size.ensures, at-piece-with-turn.piece_with_turn.ensures, c.turn_or_zero.ensures, c.line_of.ensures) at
    c.line_search.ensures

size_of-size-requires : tie.Need-size_of-size-requires
size_of-size-requires c κs = tt

piece_with_turn-requires : tie.Need-piece_with_turn-requires
piece_with_turn-requires c κs = tt

turn_or_zero-requires : tie.Need-turn_or_zero-requires
turn_or_zero-requires c κs = tt

line_of-requires : tie.Need-line_of-requires
line_of-requires c κs = tt

line_search-requires : tie.Need-line_search-requires
line_search-requires c κs = tt

enum_known-best : tie.Need-enum_known-best
enum_known-best c = search rules

coordinate_number-requires : tie.Need-coordinate_number-requires
coordinate_number-requires c κs = tt

done-requires : tie.Need-done-requires
done-requires c κs = tt

enum_known-refusal : tie.Need-enum_known-refusal
enum_known-refusal c = search rules

refused-requires : tie.Need-refused-requires
refused-requires c κs = tt

returns-in-Ok : tie.Need-returns-in-Ok
unfolding outcome line
returns-in-Ok c =
    let at_least : tie.In-Ok = search in
    let at-line-search : tie.After-line_search = search in
    let at-start : tie.Start = search in
    let o = outcome at-start in
    let t = best_told_lem (line at-start) o (sym at_least.in-Ok.is ∙ answered (at-line-search)) in (
      c.done.ensures ∙ reply_by (λ b. b) o t,
      (leaves_by (λ b. b) (λ b. b.sum) _ o t, c.coordinate_number.ensures ∙ leaves_by (λ b. b) (λ b. b.at) _ o t),
    )

returns-in-Err : tie.Need-returns-in-Err
unfolding outcome line
returns-in-Err c =
    let at-line-search : tie.After-line_search = search in
    let at-start : tie.Start = search in
    let o = outcome at-start in
    let t = best_told_lem (line at-start) o (sym c.in-Err.is ∙ answered (at-line-search)) in
    (c.refused.ensures ∙ reply_by (λ b. b) o t, (leaves_by (λ b. b) (λ b. b.sum) _ o t, leaves_by (λ b. b) (λ b. b.at) _ o t))

pub sigbrol_line_search_spec : {M : Type 1} → statement M
sigbrol_line_search_spec =
    tie.close
    (tie.spec
    size_of-size-requires piece_with_turn-requires turn_or_zero-requires line_of-requires line_search-requires enum_known-best
    coordinate_number-requires done-requires enum_known-refusal refused-requires returns-in-Ok returns-in-Err)
