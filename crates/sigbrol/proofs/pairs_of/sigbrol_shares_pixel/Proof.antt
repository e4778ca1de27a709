-- `sigbrol::pairs_of::sigbrol_shares_pixel` meets its contract by what the answer tells. Assumes nothing.
use Rattle.list_laws.proofs.Kit.{◌∙◌, ◌≡◌, sym, Bool, rules}
use Rattle.model.specs.Bounded.{one_if}
use Rattle.model.specs.Refusal.{Outcome}
use Rattle.model.specs.Calls.{share_call}
use Rattle.c_interface.specs.Numbers.{lent_as}
use Rattle.pair_calls.specs.Answers.{share_answer}
use Rattle.sigbrol.proofs.Told.{reply_by, leaves_by, share_told_lem}
use Rattle.sigbrol.proofs.pairs_of.sigbrol_shares_pixel.Statement.{statement}
use Rattle.sigbrol.proofs.pairs_of.sigbrol_shares_pixel.Tie as tie

-- the outcome of the call
outcome : tie.Start → Outcome Bool
outcome s = let a = s.args in share_call (lent_as a.rows a.columns a.count a.gap a.table.now a.pixels.now) a.layout.now a.i a.k

-- its answer tells that outcome
answered : (c : tie.After-shares_pixel) →
    let at-start : tie.Start = search in
    c.shares_pixel.result ≡ share_answer (outcome (at-start))
unfolding outcome
answered c = rw c.size_of.ensures at c.shares_pixel.ensures

size_of-requires : tie.Need-size_of-requires
size_of-requires c κs = tt

shares_pixel-requires : tie.Need-shares_pixel-requires
shares_pixel-requires c κs = tt

enum_known-yes : tie.Need-enum_known-yes
enum_known-yes c = search rules

bit_of-requires : tie.Need-bit_of-requires
bit_of-requires c κs = tt

done-requires : tie.Need-done-requires
done-requires c κs = tt

enum_known-refusal : tie.Need-enum_known-refusal
enum_known-refusal c = search rules

refused-requires : tie.Need-refused-requires
refused-requires c κs = tt

returns-in-Ok : tie.Need-returns-in-Ok
unfolding outcome
returns-in-Ok c =
    let at-yes : tie.In-Ok = search in
    let at-shares-pixel : tie.After-shares_pixel = search in
    let at-start : tie.Start = search in
    let o = outcome (at-start) in
    let t = share_told_lem o (sym at-yes.in-Ok.is ∙ answered (at-shares-pixel)) in
    (c.done.ensures ∙ reply_by (λ a. a) o t, c.bit_of.ensures ∙ leaves_by (λ a. a) (λ a. one_if a) _ o t)

returns-in-Err : tie.Need-returns-in-Err
unfolding outcome
returns-in-Err c =
    let at-shares-pixel : tie.After-shares_pixel = search in
    let at-start : tie.Start = search in
    let o = outcome (at-start) in
    let t = share_told_lem o (sym c.in-Err.is ∙ answered (at-shares-pixel)) in
    (c.refused.ensures ∙ reply_by (λ a. a) o t, leaves_by (λ a. a) (λ a. one_if a) _ o t)

pub sigbrol_shares_pixel_spec : {M : Type 1} → statement M
sigbrol_shares_pixel_spec =
    tie.close
    (tie.spec
    size_of-requires shares_pixel-requires enum_known-yes bit_of-requires done-requires enum_known-refusal refused-requires returns-in-Ok
    returns-in-Err)
