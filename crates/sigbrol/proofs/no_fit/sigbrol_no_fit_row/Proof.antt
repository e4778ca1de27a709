-- `sigbrol::no_fit::sigbrol_no_fit_row` meets its contract by what the answer tells. Assumes nothing.
use Rattle.std.specs.Prelude.{Ok}
use Rattle.list_laws.proofs.Kit.{◌∙◌, ◌≡◌, ap, subst, sym, List, ℕ, arith, length, ℤ, rules}
use mir.Syntax.{w32}
use mir.Val.{to_z, of_z}
use mir.ValLaws.{to_z-of_z}
use Rattle.model.specs.Overlap.{OffsetRun}
use Rattle.model.specs.Answers.{count_answer}
use Rattle.model.specs.Refusal.{Outcome}
use Rattle.model.specs.Buffer.{turn_of}
use Rattle.model.specs.Calls.{no_fit_call, runs_after}
use Rattle.model.specs.declared.Direction.TheVariants.{Horizontal}
use Rattle.call_laws.specs.NoFits.{OffsetsWithin}
use Rattle.pair_nofit_calls.specs.Lines.{lent_stretch}
use Rattle.c_interface.specs.Numbers.{lent_as, piece_with_turn}
use Rattle.c_interface.specs.declared.Reply.{Reply}
use Rattle.sigbrol.proofs.Told.{reply_by, leaves_by, refusal_told, count_told}
use Rattle.sigbrol.proofs.Claimed.{no_fit_numbered}
use Rattle.sigbrol.proofs.no_fit.sigbrol_no_fit_row.Statement.{statement}
use Rattle.sigbrol.proofs.no_fit.sigbrol_no_fit_row.Tie as tie

-- the outcome of the call at an offset
outcome : tie.Start → ℤ → Outcome (List OffsetRun)
outcome s offset =
    let a = s.args in
    no_fit_call Horizontal (lent_as a.rows a.columns a.count a.gap a.table.now a.pixels.now)
    (lent_stretch (piece_with_turn a.i_turn a.i) (turn_of a.i_turn) a.i_strips.now)
    (lent_stretch (piece_with_turn a.k_turn a.k) (turn_of a.k_turn) a.k_strips.now) offset (length a.runs.now)

-- answer and runs are those of an outcome, and the offsets lie in their range
Tells : (c : tie.After-no_fit_row) → Outcome (List OffsetRun) → Type 0
Tells c o =
    let at-start : tie.Start = search in
    let left : List (List ℤ) = c.no_fit_row.new.out in
    (c.no_fit_row.result ≡ count_answer o) × ((left ≡ runs_after at-start.args.runs.now o)
    × ((n : ℕ) → c.no_fit_row.result ≡ Ok n → OffsetsWithin at-start.args.gap n left))

-- they are the call's, the offset being handed on as it is
told : (c : tie.After-no_fit_row) →
    let at-start : tie.Start = search in
    Tells c (outcome (at-start) at-start.args.offset)
unfolding outcome Tells
told c =
    let at-piece-with-turn2 : tie.After-piece_with_turn-2 = search in
    let at-turn-or-zero : tie.After-turn_or_zero = search in
    let at-piece-with-turn : tie.After-piece_with_turn = search in
    let at-size-of : tie.After-size_of-size = search in
    let at-start : tie.Start = search in
    let e : to_z w32 (of_z w32 at-start.args.offset) ≡ at-start.args.offset = to_z-of_z w32 at-start.args.offset at-start.ranges.offset in
    subst (λ (z : ℤ). Tells c (outcome at-start z)) e
    (rw (
      at-size-of.size_of-size.ensures,
      at-piece-with-turn.piece_with_turn.ensures,
      at-turn-or-zero.turn_or_zero.ensures,
      at-piece-with-turn2.piece_with_turn-2.ensures,
      c.turn_or_zero-2.ensures,
    ) at c.no_fit_row.ensures)

size_of-size-requires : tie.Need-size_of-size-requires
size_of-size-requires c κs = tt

piece_with_turn-requires : tie.Need-piece_with_turn-requires
piece_with_turn-requires c κs = tt

turn_or_zero-requires : tie.Need-turn_or_zero-requires
turn_or_zero-requires c κs = tt

piece_with_turn-requires-2 : tie.Need-piece_with_turn-requires-2
piece_with_turn-requires-2 c κs = tt

turn_or_zero-requires-2 : tie.Need-turn_or_zero-requires-2
turn_or_zero-requires-2 c κs = tt

no_fit_row-requires : tie.Need-no_fit_row-requires
no_fit_row-requires c κs = tt

enum_known-found : tie.Need-enum_known-found
enum_known-found c = search rules

done-requires : tie.Need-done-requires
done-requires c κs = tt

enum_known-refusal : tie.Need-enum_known-refusal
enum_known-refusal c = search rules

refused-requires : tie.Need-refused-requires
refused-requires c κs = tt

shape_of-runs-in-Ok : tie.Need-shape_of-runs-in-Ok
shape_of-runs-in-Ok c =
    let at-no-fit-row : tie.After-no_fit_row = search in
    at-no-fit-row.no_fit_row.auto.out

returns-in-Ok : tie.Need-returns-in-Ok
unfolding outcome Tells
returns-in-Ok c =
    let at-no-fit-row : tie.After-no_fit_row = search in
    let at-start : tie.Start = search in
    let o = outcome (at-start) at-start.args.offset in
    let p = told (at-no-fit-row) in
    let t = count_told o (sym c.in-Ok.is ∙ p.0) in (
      c.done.ensures ∙ reply_by (λ rs. length rs) o t,
      (p.1.0, (leaves_by (λ rs. length rs) (λ n. n) _ o t, λ zero. p.1.1 _ c.in-Ok.is)),
    )

shape_of-runs-in-Err : tie.Need-shape_of-runs-in-Err
shape_of-runs-in-Err c =
    let at-no-fit-row : tie.After-no_fit_row = search in
    at-no-fit-row.no_fit_row.auto.out

returns-in-Err : tie.Need-returns-in-Err
unfolding outcome Tells
returns-in-Err c =
    let at-no-fit-row : tie.After-no_fit_row = search in
    let at-start : tie.Start = search in
    let o = outcome (at-start) at-start.args.offset in
    let p = told (at-no-fit-row) in
    let t = count_told o (sym c.in-Err.is ∙ p.0) in
    let positive = no_fit_numbered Horizontal _ _ _ _ _ _ (refusal_told (λ rs. length rs) o _ t) in
    let number = ap (λ (x : Reply). x.number) c.refused.ensures in (
      c.refused.ensures ∙ reply_by (λ rs. length rs) o t,
      (p.1.0, (leaves_by (λ rs. length rs) (λ n. n) _ o t, λ zero. absurd (omega (arith, positive, number, zero)))),
    )

pub sigbrol_no_fit_row_spec : {M : Type 1} → statement M
sigbrol_no_fit_row_spec =
    tie.close
    (tie.spec
    size_of-size-requires piece_with_turn-requires turn_or_zero-requires piece_with_turn-requires-2 turn_or_zero-requires-2 no_fit_row-requires
    enum_known-found done-requires enum_known-refusal refused-requires shape_of-runs-in-Ok returns-in-Ok shape_of-runs-in-Err
    returns-in-Err)
