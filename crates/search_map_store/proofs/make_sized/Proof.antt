-- `search_map_store::make_sized` meets its contract: the small scratch is taken where it is enough. Assumes nothing.
use Rattle.list_laws.proofs.Kit.{arith, rules}
use Rattle.search_map_store.proofs.make_sized.Statement.{statement}
use Rattle.search_map_store.proofs.make_sized.Tie as tie

make_small-requires : tie.Need-make_small-requires
make_small-requires c κs =
    let at-start : tie.Start = search in
    let at-scratch-words : tie.After-scratch_words = search in
    let p = at-start.requires in
    let e = at-scratch-words.scratch_words.ensures in
    let at-then1 : tie.Then-scratch_words-le-SMALL_SCRATCH = search in
    let l = at-then1.if-scratch_words-le-SMALL_SCRATCH.true in
    (p.0, (p.1.0, (p.1.1.0, (record { enough = omega arith; short = omega arith }, p.1.1.1.1))))

returns-then-scratch_words-le-SMALL_SCRATCH : tie.Need-returns-then-scratch_words-le-SMALL_SCRATCH
returns-then-scratch_words-le-SMALL_SCRATCH c =
    let at-make-small : tie.After-make_small = search in
    at-make-small.make_small.ensures

make_large-requires : tie.Need-make_large-requires
make_large-requires c κs =
    let at-start : tie.Start = search in
    at-start.requires

returns : tie.Need-returns
returns c =
    let at-make-large : tie.After-make_large = search in
    at-make-large.make_large.ensures

pub make_sized_spec : {M : Type 1} → statement M
make_sized_spec =
    tie.close (tie.spec
    (search rules) make_small-requires (search rules) returns-then-scratch_words-le-SMALL_SCRATCH make_large-requires (search rules) returns)
