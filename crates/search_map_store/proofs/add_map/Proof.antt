-- `search_map_store::add_map` meets its contract: the map is made past all that are kept. Assumes nothing.
use Rattle.list_laws.proofs.Kit.{◌∙◌, ◌+◌, ◌-◌, arith, length-append, length-drop, length-set, length-take, rules}
use Rattle.search_map_store.specs.Store.{all_grown}
use Rattle.search_map_store.proofs.Keeping.{added}
use Rattle.search_map_store.proofs.add_map.Statement.{statement}
use Rattle.search_map_store.proofs.add_map.Tie as tie

make_sized-requires : tie.Need-make_sized-requires
make_sized-requires c κs =
    let at-start : tie.Start = search in
    let at-room-words : tie.After-room_words-room = search in
    let at-room-for : tie.After-room_for-at = search in
    let p = at-start.requires in
    let n = at-room-words.room_words-room.ensures in
    let r = at-room-for.room_for-at.ensures.fits in
    let e = at-room-for.room_for-at.ensures.same in
    let short = p.1.1.1.short in (
      p.0,
      (
        p.1.0,
        (
          p.1.1.0,
          (
            record { enough = simp (length-take, length-drop) (omega arith); short = simp (length-take, length-drop) (omega arith) },
            record { enough = simp (length-take, length-drop) (omega arith); short = simp (length-take, length-drop) (omega arith) },
          ),
        ),
      ),
    )

overflow_add-end : tie.Need-overflow_add-end
overflow_add-end c =
    let at-start : tie.Start = search in
    let at-room-words : tie.After-room_words-room = search in
    let at-room-for : tie.After-room_for-at = search in
    let n = at-room-words.room_words-room.ensures in
    let m = c.map_words.ensures in
    let f = at-room-for.room_for-at.ensures.fits in
    let short = at-start.requires.1.1.1.short in
    omega arith

bounds-words-slots : tie.Need-bounds-words-slots
bounds-words-slots c =
    let at-start : tie.Start = search in
    let at-room-for : tie.After-room_for-at = search in
    let at-make-sized : tie.After-make_sized = search in
    let p = at-start.requires.1.1.1 in
    let fits = at-room-for.room_for-at.ensures in
    let f = fits.fits in
    let e = fits.same in
    let room = p.room in
    let full = at-make-sized.make_sized.auto.words in
    simp (length-set, length-append, length-drop, length-take, full) (omega arith)

shape_of-words : tie.Need-shape_of-words
shape_of-words c =
    let at-room-for : tie.After-room_for-at = search in
    let at-make-sized : tie.After-make_sized = search in
    let fits = at-room-for.room_for-at.ensures in
    let f = fits.fits in
    let e = fits.same in
    let full = at-make-sized.make_sized.auto.words in
    simp (length-set, length-append, length-drop, length-take, full) (omega arith)

returns : tie.Need-returns
returns c =
    let at-start : tie.Start = search in
    let at-room-words : tie.After-room_words-room = search in
    let at-room-for : tie.After-room_for-at = search in
    let at-make-sized : tie.After-make_sized = search in
    let a = at-start.args in
    let fits = at-room-for.room_for-at.ensures in
    let f = fits.fits in
    let e = fits.same in
    let short = at-start.requires.1.1.1.short in
    let at = at-room-for.room_for-at.result in
    let k = at-room-words.room_words-room.result in
    let wide = at-room-words.room_words-room.ensures in
    let size = c.map_words.ensures in
    let made = at-make-sized.make_sized in
    λ d s t ez em et.
    added a.slots d (all_grown a.extra s) t a.sides a.key a.slot a.words.now _ _ at c.map_words.result k (at + k - at) ez
    (made.ensures (d a.key) (s a.key) (t a.key) ez em et) size (omega arith) (omega arith)
    (made.auto.words ∙ simp (length-take, length-drop) (omega arith)) fits
    at-start.requires.1.1.1.slot_in (omega arith)

pub add_map_spec : {M : Type 1} → statement M
add_map_spec =
    tie.close (tie.spec
    (search rules) (search rules) (search rules) (search rules) (search rules) (search rules) (search rules) make_sized-requires (search rules)
    overflow_add-end (search rules) (search rules) (search rules) (search rules) (search rules) (search rules) bounds-words-slots shape_of-words
    returns)
