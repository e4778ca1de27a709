-- `search_lines::keep_line` meets its contract: a slot whose stretch has the key holds the line behind it; another is made anew, in a stretch that is
-- apart from all others, which stay as they are or are given up. Assumes nothing.
use Rattle.list_laws.proofs.Kit.{◌∙◌, refl, sym, ◌*◌, ◌+◌, ◌<◌, ◌≤◌, arith, length, pos_of_ne-zero, rules}
use Rattle.model.specs.Lent.{Lent, lent_by, job_of}
use Rattle.job_laws.proofs.Checked.{lent_few}
use Rattle.search_line_store.specs.Store.{table_end}
use Rattle.search_line_store.proofs.Stretching.{claim_within}
use Rattle.search_lines.specs.Making.{SmallTwo}
use Rattle.search_lines.proofs.Keeping.{line_put, renewed}
use Rattle.search_lines.proofs.Making.{small_two, moved_there, standing_there}
use Rattle.search_lines.proofs.Sourcing.{asked_named}
use Rattle.search_lines.proofs.keep_line.Statement.{statement}
use Rattle.search_lines.proofs.keep_line.Tie as tie

-- the lent job
abbrev lent : tie.Start → Lent
lent c = lent_by c.args.run.size c.args.table.now c.args.pixels.now

-- the numbers of the two pieces
small : (e : tie.Start) → SmallTwo e.args.two
small e = small_two (lent e) _ _ e.args.two e.requires.0

-- the table of slots lies in the store, which is not too long
table-in : (e : tie.Start) → (table_end e.args.run.slots ≤ length e.args.lines.now) × (length e.args.lines.now ≤ 524288)
table-in e = let f = e.requires.1.0 in (omega (arith, f.room), f.fits)

slot_of-slot-requires : tie.Need-slot_of-slot-requires
slot_of-slot-requires c κs = let e : tie.Start = search in (small e, e.requires.1.1.some)

key_of-key-requires : tie.Need-key_of-key-requires
key_of-key-requires c κs = let e : tie.Start = search in small e

begin_of-held-requires : tie.Need-begin_of-held-requires
begin_of-held-requires c κs = let e : tie.Start = search in let s : tie.After-slot_of-slot = search in (s.slot_of-slot.ensures, (table-in e).0, (table-in e).1)

units_of-made-requires : tie.Need-units_of-made-requires
units_of-made-requires c κs = let e : tie.Start = search in let s : tie.After-slot_of-slot = search in (s.slot_of-slot.ensures, (table-in e).0, (table-in e).1)

-- the entry, from where the slot's units are known
abbrev entry : tie.After-units_of-made → tie.Start
entry c = search

abbrev slotted : tie.After-units_of-made → tie.After-slot_of-slot
slotted c = search

abbrev begun : tie.After-units_of-made → tie.After-begin_of-held
begun c = search

-- a stretch that the slot has lies in the store
held-within : (c : tie.After-units_of-made) → 0 < c.units_of-made.result
    → (begun c).begin_of-held.result + 8 ≤ length (entry c).args.lines.now
held-within c some =
    let e = entry c in
    let w = e.requires.1.1.stretches in
    let b = (begun c).begin_of-held.ensures in
    let u = c.units_of-made.ensures.0 in
    omega (arith, w.fits, w.within (slotted c).slot_of-slot.result (slotted c).slot_of-slot.ensures)

key_at-requires : tie.Need-key_at-requires
key_at-requires c κs =
    let u : tie.After-units_of-made = search in
    let t : tie.Then-made = search in
    let w = held-within u (pos_of_ne-zero t.if-made.true) in
    (omega arith, (table-in (entry u)).1)

overflow_add-result : tie.Need-overflow_add-result
overflow_add-result c =
    let u : tie.After-units_of-made = search in
    let t : tie.Then-made = search in
    let w = held-within u (pos_of_ne-zero t.if-made.true) in
    omega (arith, (table-in (entry u)).1)

returns-then-key_at-key : tie.Need-returns-then-key_at-key
returns-then-key_at-key c =
    let u : tie.After-units_of-made = search in
    let t : tie.Then-made = search in
    let k : tie.After-key_of-key = search in
    let a : tie.After-key_at = search in
    let e = entry u in
    let s = slotted u in
    let two = e.args.two in
    let asked = e.requires.0 in
    let kept = e.requires.1.1 in
    let b = (begun u).begin_of-held.ensures in
    let some = pos_of_ne-zero t.if-made.true in
    let line = kept.holds s.slot_of-slot.result two.moved two.standing two.moved_turn two.standing_turn e.args.direction two.offset
    s.slot_of-slot.ensures (moved_there (lent e) _ _ two asked) (standing_there (lent e) _ _ two asked) asked.offset
    (omega (arith, u.units_of-made.ensures.0))
    (rw (sym b) (sym a.key_at.ensures ∙ c.if-key_at-key.true ∙ k.key_of-key.ensures)) in
    let w = kept.stretches in
    let room = line.0 in
    (rw b line.1, (omega (arith, w.fits, w.within s.slot_of-slot.result s.slot_of-slot.ensures), (kept, refl)))

line_units-units-requires : tie.Need-line_units-units-requires
line_units-units-requires c κs = let e : tie.Start = search in asked_named (lent e) _ _ e.args.two e.requires.0

claim-at-requires : tie.Need-claim-at-requires
claim-at-requires c κs =
    let e : tie.Start = search in
    let s : tie.After-slot_of-slot = search in
    let n : tie.After-line_units-units = search in
    let f = e.requires.1.0 in
    let fit = n.line_units-units.ensures in
    (e.requires.1.1.stretches, ((s.slot_of-slot.ensures, fit.some), (omega (arith, f.room, fit.few), f.fits)))

-- the stretch, from where it is claimed: it lies in the store and holds the key and the line
abbrev claimant : tie.After-claim-at → tie.Start
claimant c = search

abbrev slot-claimed : tie.After-claim-at → tie.After-slot_of-slot
slot-claimed c = search

abbrev counted : tie.After-claim-at → tie.After-line_units-units
counted c = search

claimed-in : (c : tie.After-claim-at)
    → (c.claim-at.result + (counted c).line_units-units.result * 8 ≤ length (claimant c).args.lines.now) × (length (claimant c).args.lines.now ≤ 524288)
claimed-in c = (
  (claim_within (claimant c).args.run.slots (slot-claimed c).slot_of-slot.result (counted c).line_units-units.result (claimant c).args.lines.now _ _
      (slot-claimed c).slot_of-slot.ensures c.claim-at.ensures).1,
  (table-in (claimant c)).1,
)

overflow_add-from : tie.Need-overflow_add-from
overflow_add-from c = let k : tie.After-claim-at = search in let w = claimed-in k in omega arith

make_line-requires : tie.Need-make_line-requires
make_line-requires c κs =
    let k : tie.After-claim-at = search in
    let e = claimant k in
    let w = claimed-in k in
    let same = k.claim-at.ensures.same in
    let enough = (counted k).line_units-units.ensures.enough in
    (e.requires.0, (omega arith, (omega arith, e.requires.1.1.ready)))

put_key-requires : tie.Need-put_key-requires
put_key-requires c κs =
    let k : tie.After-claim-at = search in
    let m : tie.After-make_line = search in
    let w = claimed-in k in
    let same = k.claim-at.ensures.same in
    let still = m.make_line.ensures.0.same in
    let enough = (counted k).line_units-units.ensures.enough in
    (omega arith, omega arith)

-- the claim and the key, from where the line is made
abbrev claimed : tie.After-make_line → tie.After-claim-at
claimed c = search

abbrev keyed : tie.After-make_line → tie.After-key_of-key
keyed c = search

returns : tie.Need-returns
returns c =
    let m : tie.After-make_line = search in
    let p : tie.After-put_key = search in
    let k = claimed m in
    let e = claimant k in
    let s = slot-claimed k in
    let two = e.args.two in
    let asked = e.requires.0 in
    let kept = e.requires.1.1 in
    let fit = (counted k).line_units-units.ensures in
    let made = m.make_line.ensures.0 in
    let put = p.put_key.ensures in
    let line = line_put (job_of (lent e)) e.args.run e.args.lines.now e.args.maps.now kept s.slot_of-slot.result two.moved two.standing
    two.moved_turn two.standing_turn e.args.direction two.offset _ _ _ _ _ _ (lent_few (lent e) asked.well) s.slot_of-slot.ensures
    (moved_there (lent e) _ _ two asked) (standing_there (lent e) _ _ two asked) asked.offset fit k.claim-at.ensures made
    m.make_line.ensures.1 _ (keyed m).key_of-key.ensures put in
    let again = renewed (job_of (lent e)) e.args.run e.args.lines.now e.args.maps.now kept s.slot_of-slot.result two.moved two.standing
    two.moved_turn two.standing_turn e.args.direction two.offset _ _ _ _ _ _ (lent_few (lent e) asked.well) s.slot_of-slot.ensures
    (moved_there (lent e) _ _ two asked) (standing_there (lent e) _ _ two asked) asked.offset fit k.claim-at.ensures made
    m.make_line.ensures.1 _ (keyed m).key_of-key.ensures put in
    let w = claimed-in k in
    let same = k.claim-at.ensures.same in
    let x = made.same in
    let y = put.same in
    let enough = fit.enough in
    (line, (omega arith, (again, omega arith)))

pub keep_line_spec : {M : Type 1} → statement M
keep_line_spec =
    tie.close (tie.spec
    slot_of-slot-requires key_of-key-requires begin_of-held-requires units_of-made-requires key_at-requires overflow_add-result (search rules)
    returns-then-key_at-key line_units-units-requires claim-at-requires overflow_add-from make_line-requires put_key-requires (search rules)
    (search rules) returns)
