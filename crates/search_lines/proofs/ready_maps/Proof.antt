-- `search_lines::ready_maps` meets its contract: the classes are written, then all maps past them are forgotten. Assumes nothing.
use Rattle.list_laws.proofs.Kit.{◌∙◌, ◌≡◌, refl, List, ◌-◌, ℕ, arith, drop, length, length-drop, length-take, take, rules}
use Rattle.model.specs.Lent.{Lent, lent_by, job_of}
use Rattle.job_laws.proofs.Checked.{facts, lent_few}
use Rattle.search_lines.proofs.Parts.{ready_forgotten}
use Rattle.search_lines.proofs.ready_maps.Statement.{statement}
use Rattle.search_lines.proofs.ready_maps.Tie as tie

-- the lent job
abbrev lent : tie.Start → Lent
lent c = lent_by c.args.size c.args.table.now c.args.pixels.now

put_classes-requires : tie.Need-put_classes-requires
put_classes-requires c κs =
    let e : tie.Start = search in
    let f = (facts (lent e) e.requires.0).few_pieces in
    let room = e.requires.1.0 in
    (e.requires.0, omega arith)

returns : tie.Need-returns
returns c =
    let e : tie.Start = search in
    let at-put-classes : tie.After-put_classes = search in
    let at-forget-maps : tie.After-forget_maps = search in
    let xs : List ℕ = at-put-classes.put_classes.new.words in
    let same : length xs ≡ length e.args.maps.now = at-put-classes.put_classes.auto.words in
    let room = e.requires.1.0 in
    let short = e.requires.1.1 in
    let long : length (take (length xs - 64) (drop 64 xs)) ≡ length xs - 64 = simp (length-take, length-drop) (omega arith) in
    let g = at-forget-maps.forget_maps.ensures in
    ready_forgotten (job_of (lent e)) xs _ _ refl (g.same ∙ long) (lent_few (lent e) e.requires.0) at-put-classes.put_classes.ensures (omega arith)
    (omega arith) _ long g

pub ready_maps_spec : {M : Type 1} → statement M
ready_maps_spec =
    tie.close (tie.spec
    put_classes-requires (search rules) (search rules) (search rules) (search rules) (search rules) (search rules) returns)
