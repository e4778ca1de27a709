-- `search_classes::same_bytes`: equal parts have equal bytes. Assumes nothing.
use Rattle.std.proofs.Common.{◌≡◌, ◌+◌, get_or, arith}
use Rattle.std.specs.List.{between}
use Rattle.std.proofs.lemmas.Bool.Decides.{Decides-eqb}
use Rattle.std.proofs.lemmas.List.Edits.{get_or-between}
use Rattle.std.proofs.lemmas.Slice.Eq.{slice_eq-Decides}
use Rattle.search_classes.proofs.same_bytes.Goals as goal

pub returns : goal.returns
returns c e k l =
    let bytes = c.args.bytes.now in
    let n = c.args.n in
    let at_a : get_or (between c.args.a (c.args.a + n) bytes) k 0 ≡ get_or bytes (c.args.a + k) 0 = get_or-between bytes c.args.a _ k 0 (omega arith) in
    let at_b : get_or (between c.args.b (c.args.b + n) bytes) k 0 ≡ get_or bytes (c.args.b + k) 0 = get_or-between bytes c.args.b _ k 0 (omega arith) in
    let same : between c.args.a (c.args.a + n) bytes ≡ between c.args.b (c.args.b + n) bytes = (slice_eq-Decides Decides-eqb _ _ _ c.eq.ensures).0 e in
    cc
