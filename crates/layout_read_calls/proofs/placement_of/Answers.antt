-- `layout_read_calls::placement_of`, cause by cause; a corner inside is that of its clipped fields. Assumes nothing.
use Rattle.list_laws.proofs.Kit.{◌∙◌, ◌≡◌, ap, sym, none, some}
use Rattle.model.specs.Lent.{job_of, lent_by}
use Rattle.layout_places.proofs.Places.{unknown_none, known_some}
use Rattle.layout_read_calls.specs.Readings.{turn_on_line, place_answer}
use Rattle.std.specs.Prelude.{Ok}
use Rattle.layout_read_calls.proofs.Lines.{place_unknown, place_forbidden, place_outside, place_given, clipped_inside, clipped_same}
use Rattle.layout_read_calls.proofs.placement_of.Goals as goal

pub returns-in_default : goal.returns-in_default
returns-in_default c =
    let a = c.args in
    let f = a.fields in
    let unknown : turn_on_line a.i f.number f.degrees ≡ none = unknown_none _ (sym c.in_default.is ∙ c.turn_on_line.ensures) in
    λ pixels.
    rw (c.refused_in.ensures, place_unknown (job_of (lent_by a.size a.table.now pixels)) a.i a.line f.number f.degrees f.x f.y unknown)

pub returns-then-not-allowed : goal.returns-then-not-allowed
unfolding job_of
returns-then-not-allowed c =
    let a = c.args in
    let f = a.fields in
    let t = c.in-Some.turn in
    let known : turn_on_line a.i f.number f.degrees ≡ some t = known_some _ t (sym c.in-Some.is ∙ c.turn_on_line.ensures) in
    λ pixels.
    rw (
      c.refused_in-then-not-allowed.ensures,
      place_forbidden (job_of (lent_by a.size a.table.now pixels)) a.i a.line f.number f.degrees f.x f.y t known
          (sym (c.allowed.ensures a.size pixels) ∙ c.if-not-allowed.true),
    )

pub returns-then-not-inside_at : goal.returns-then-not-inside_at
unfolding job_of
returns-then-not-inside_at c =
    let a = c.args in
    let p = c.requires in
    let f = a.fields in
    let t = c.in-Some.turn in
    let known : turn_on_line a.i f.number f.degrees ≡ some t = known_some _ t (sym c.in-Some.is ∙ c.turn_on_line.ensures) in
    λ pixels.
    let j = job_of (lent_by a.size a.table.now pixels) in
    let clip = clipped_inside j a.i t f.x f.y c.clipped.result c.clipped-2.result p.1 p.2 c.clipped.ensures c.clipped-2.ensures in
    rw (
      c.refused_in-then-not-inside_at.ensures,
      place_outside j a.i a.line f.number f.degrees f.x f.y t known
          (sym (c.allowed.ensures a.size pixels) ∙ c.if-not-allowed.false)
          (sym clip ∙ sym (c.inside_at.ensures pixels) ∙ c.if-not-inside_at.true),
    )

pub returns : goal.returns
unfolding job_of
returns c =
    let a = c.args in
    let p = c.requires in
    let f = a.fields in
    let t = c.in-Some.turn in
    let known : turn_on_line a.i f.number f.degrees ≡ some t = known_some _ t (sym c.in-Some.is ∙ c.turn_on_line.ensures) in
    λ pixels.
    let j = job_of (lent_by a.size a.table.now pixels) in
    let clip = clipped_inside j a.i t f.x f.y c.clipped.result c.clipped-2.result p.1 p.2 c.clipped.ensures c.clipped-2.ensures in
    let in-sheet = sym clip ∙ sym (c.inside_at.ensures pixels) ∙ c.if-not-inside_at.false in
    ap Ok (clipped_same j a.i t f.x f.y c.clipped.result c.clipped-2.result p.1 p.2 c.clipped.ensures c.clipped-2.ensures in-sheet)
    ∙ sym (ap place_answer
    (place_given j a.i a.line f.number f.degrees f.x f.y t known (sym (c.allowed.ensures a.size pixels) ∙ c.if-not-allowed.false) in-sheet))
