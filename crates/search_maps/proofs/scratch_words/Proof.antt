-- `search_maps::scratch_words` meets its contract: the sides are small. Assumes nothing.
use Rattle.list_laws.proofs.Kit.{arith, rules}
use Rattle.search_maps.proofs.Fitting.{scratch_most}
use Rattle.search_maps.proofs.scratch_words.Statement.{statement}
use Rattle.search_maps.proofs.scratch_words.Tie as tie

overflow_mul-result : tie.Need-overflow_mul-result
overflow_mul-result c =
    let at-start : tie.Start = search in
    let h = scratch_most at-start.args.sides at-start.requires in
    let e = c.mark_words.ensures in omega arith

overflow_add-result : tie.Need-overflow_add-result
overflow_add-result c =
    let at-start : tie.Start = search in
    let at-mark-words : tie.After-mark_words = search in
    let h = scratch_most at-start.args.sides at-start.requires in
    let e = at-mark-words.mark_words.ensures in omega arith

returns : tie.Need-returns
returns c =
    let at-mark-words : tie.After-mark_words = search in
    let e = at-mark-words.mark_words.ensures in omega arith

pub scratch_words_spec : {M : Type 1} → statement M
scratch_words_spec = tie.close (tie.spec
    (search rules) overflow_mul-result overflow_add-result returns)
