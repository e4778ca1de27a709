-- Marks and row lines: storing them step by step, and where they stand in the text. Assumes nothing.
use Rattle.list_laws.proofs.Kit.{◌∙◌, ◌≡◌, ap, refl, subst₂, sym, Bool, false, true, ◌⊎◌, inl, inr, List, [], ◌++◌, ◌∷◌, ◌*◌, ◌+◌, ◌<◌, ◌≤◌, suc, zero, ℕ}
use Rattle.list_laws.proofs.Kit.{add-zero, suc-mul, arith, eqb, get_or-append, get_or, length, length-append, set, get_or-append-add, sets, eqb-false}
use Rattle.list_laws.proofs.Kit.{eqb-true, get_or-eq_default, ne_eqb, set_out, subst, ⊎_elim}
use Rattle.list_laws.proofs.Numbers.{below_or}
use Rattle.model.specs.Refusal.{Outcome, refused, given, wrong_form}
use Rattle.model.specs.Text.{byte, Reading, wrong, got, onward, after, stands_at, line_end, formed, and_then}
use Rattle.model.specs.JobText.{row_word, pixel_mark, empty_mark, mark_at, marks_at, row_at, Rows, rows_at}
use Rattle.list_laws.proofs.Stores.{sets_append}
use Rattle.list_laws.proofs.Tests.{decided, clash}
use Rattle.text_laws.proofs.Outcomes.{wrong_got, refused_given, Onward, got_onward, got_after, given_formed, given_before}
use Rattle.text_fields.proofs.Steps.{byte_inside, after_not, after_word, one_not, one_stands}
use Rattle.job_lines.specs.Lines.{refusal_at}
use Rattle.job_rows.specs.Stores.{mark_bit, MarksStored, rows_answer, RowsStored}
use Rattle.std.specs.Prelude.{Ok, Err}
use Rattle.model.specs.declared.Refusal.{Refusal}

-- ── a mark ──

-- the two tests of a mark
abbrev bit : Bool → Bool → ℕ
bit pixel none = elim pixel [ true ↦ 1 | false ↦ elim none [ true ↦ 0 | false ↦ 2 ] ]

abbrev mark : ℕ → Bool → Bool → Reading ℕ
mark p pixel none = elim pixel [ true ↦ got 1 (suc p) | false ↦ elim none [ true ↦ got 0 (suc p) | false ↦ wrong ] ]

-- a pixel byte is read
mark_one : (p : ℕ) (pixel none : Bool) → bit pixel none ≤ 1 → mark p pixel none ≡ got (bit pixel none) (suc p)
mark_one p true none h = refl
mark_one p false true h = refl
mark_one p false false h = absurd (omega arith)

pub mark_read : (text : List ℕ) (p : ℕ) → mark_bit (byte text p) ≤ 1 → mark_at text p ≡ got (mark_bit (byte text p)) (suc p)
unfolding mark_at
mark_read text p h = mark_one p (eqb (byte text p) pixel_mark) (eqb (byte text p) empty_mark) h

-- another byte is wrong
mark_not : (p : ℕ) (pixel none : Bool) → 1 < bit pixel none → mark p pixel none ≡ wrong
mark_not p true none h = absurd (omega arith)
mark_not p false true h = absurd (omega arith)
mark_not p false false h = refl

pub mark_none : (text : List ℕ) (p : ℕ) → 1 < mark_bit (byte text p) → mark_at text p ≡ wrong
unfolding mark_at
mark_none text p h = mark_not p (eqb (byte text p) pixel_mark) (eqb (byte text p) empty_mark) h

-- what a mark that is read tells
record Mark (text : List ℕ) (p m q : ℕ) : Type 0 where
  next : q ≡ suc p
  pixel : eqb m 1 ≡ eqb (byte text p) pixel_mark

mark_told : (p m q : ℕ) (pixel none : Bool) → mark p pixel none ≡ got m q → (q ≡ suc p) × (eqb m 1 ≡ pixel)
mark_told p m q true none e = let z : ◌≡◌ {A = ℕ} 1 m = cc in let y : suc p ≡ q = cc in (sym y, rw (← z) refl)
mark_told p m q false true e = let z : ◌≡◌ {A = ℕ} 0 m = cc in let y : suc p ≡ q = cc in (sym y, rw (← z) refl)
mark_told p m q false false e = absurd (wrong_got e)

mark_facts : (text : List ℕ) (p m q : ℕ) → mark_at text p ≡ got m q → Mark text p m q
unfolding mark_at
mark_facts text p m q e =
    let t = mark_told p m q (eqb (byte text p) pixel_mark) (eqb (byte text p) empty_mark) e in
    record { next = t.0; pixel = t.1 }

-- ── marks ──

-- marks stored from `at` on
abbrev pub fill_marks : List ℕ → ℕ → ℕ → ℕ → List ℕ → Reading (List ℕ)
fill_marks text left p at store = onward (marks_at text left p) (λ ms q. got (sets store at ms) q)

-- one mark is stored and the others are left
pub marks_more : (text : List ℕ) (left p at m q : ℕ) (store : List ℕ) → mark_at text p ≡ got m q
    → fill_marks text (suc left) p at store ≡ fill_marks text left q (suc at) (set store at m)
unfolding marks_at
marks_more text left p at m q store e =
    ap (λ (x : Reading ℕ). onward (onward x (λ m q. onward (marks_at text left q) (λ ms r. got (m ∷ ms) r))) (λ ms q. got (sets store at ms) q)) e
    ∙ go (marks_at text left q)
  where
    go : (x : Reading (List ℕ))
        → onward (onward x (λ ms r. got (m ∷ ms) r)) (λ ms q. got (sets store at ms) q) ≡ onward x (λ ms q. got (sets (set store at m) (suc at) ms) q)
    go wrong = refl
    go (got ms r) = refl

-- a wrong mark ends the row
pub marks_none : (text : List ℕ) (left p at : ℕ) (store : List ℕ) → mark_at text p ≡ wrong → fill_marks text (suc left) p at store ≡ wrong
unfolding marks_at
marks_none text left p at store e =
    ap (λ (x : Reading ℕ). onward (onward x (λ m q. onward (marks_at text left q) (λ ms r. got (m ∷ ms) r))) (λ ms q. got (sets store at ms) q)) e

-- no mark is left
pub marks_end : (text : List ℕ) (p at : ℕ) (store : List ℕ) → fill_marks text 0 p at store ≡ got store p
unfolding marks_at
marks_end text p at store = refl

-- a byte that is no mark ends the row, wherever in it
pub marks_wrong : (text : List ℕ) (left p at x : ℕ) (store : List ℕ) → x < left → 1 < mark_bit (byte text (p + x)) → fill_marks text left p at store ≡ wrong
marks_wrong text zero p at x store l h = absurd (omega arith)
marks_wrong text (suc left) p at zero store l h = marks_none text left p at store (mark_none text p (subst (λ (q : ℕ). 1 < mark_bit (byte text q)) (add-zero p) h))
marks_wrong text (suc left) p at (suc x) store l h =
    let next : p + suc x ≡ suc p + x = omega arith in
    let bit = mark_bit (byte text p) in
    ⊎_elim (λ o. marks_none text left p at store (mark_none text p o))
    (λ o.
    marks_more text left p at bit (suc p) store (mark_read text p o)
    ∙ marks_wrong text left (suc p) (suc at) x (set store at bit) (omega arith) (subst (λ (q : ℕ). 1 < mark_bit (byte text q)) next h)) (below_or 1 bit)

-- where the store has no room from `at` on, marks leave it as it is
pub marks_past : (text : List ℕ) (left p at : ℕ) (store : List ℕ) → ((x : ℕ) → x < left → mark_bit (byte text (p + x)) ≤ 1) → length store ≤ at
    → fill_marks text left p at store ≡ got store (p + left)
marks_past text zero p at store h l = marks_end text p at store ∙ ap (got store) (sym (add-zero p))
marks_past text (suc left) p at store h l =
    let first : mark_bit (byte text p) ≤ 1 = subst (λ (q : ℕ). mark_bit (byte text q) ≤ 1) (add-zero p) (h 0 (omega arith)) in
    let e : suc p + left ≡ p + suc left = omega arith in
    marks_more text left p at (mark_bit (byte text p)) (suc p) store (mark_read text p first)
    ∙ ap (fill_marks text left (suc p) (suc at)) (set_out store at (mark_bit (byte text p)) l)
    ∙ marks_past text left (suc p) (suc at) store
    (λ x o. let i : p + suc x ≡ suc p + x = omega arith in subst (λ (q : ℕ). mark_bit (byte text q) ≤ 1) i (h (suc x) (omega arith))) (omega arith)
    ∙ ap (got store) e

-- what stands in the store after all
pub stored_yes : (at : ℕ) (before last : List ℕ) (q : ℕ) (x : Reading (List ℕ)) → onward x (λ ms q. got (sets before at ms) q) ≡ got last q
    → MarksStored at before last true x
stored_yes at before last q wrong e = absurd (wrong_got e)
stored_yes at before last q (got ms r) e = let z : sets before at ms ≡ last = cc in (refl, sym z)

pub stored_no : (at : ℕ) (before last : List ℕ) (x : Reading (List ℕ)) → onward x (λ ms q. got (sets before at ms) q) ≡ wrong
    → MarksStored at before last false x
stored_no at before last wrong e = refl
stored_no at before last (got ms r) e = absurd (wrong_got (sym e))

-- a row of marks that goes past the end of the text: none is read but the empty one
pub stored_short : (text : List ℕ) (p at count : ℕ) (store : List ℕ) → length text < p + count → MarksStored at store store (eqb count 0) (marks_at text count p)
stored_short text p at zero store l = stored_yes at store store p (marks_at text 0 p) (marks_end text p at store)
stored_short text p at (suc left) store l =
    let past : byte text (p + left) ≡ 0 = get_or-eq_default text 0 (omega arith) in
    rw (ne_eqb (suc left) 0 (λ e. absurd (omega (arith, e))))
    (stored_no at store store (marks_at text (suc left) p) (marks_wrong text (suc left) p at left store (omega arith) (rw past (omega arith))))

-- a call that stored said yes
pub record MarksKept (at : ℕ) (before last : List ℕ) (x : Reading (List ℕ)) : Type 0 where
  pub marks : List ℕ
  pub next : ℕ
  pub reads : x ≡ got marks next
  pub stores : last ≡ sets before at marks

pub stored_kept : (at : ℕ) (before last : List ℕ) (r : Bool) (x : Reading (List ℕ)) → MarksStored at before last r x → r ≡ true → MarksKept at before last x
stored_kept at before last r wrong h e = absurd (clash e h)
stored_kept at before last r (got ms q) h e = record { marks = ms; next = q; reads = refl; stores = h.1 }

-- it said no
pub stored_lost : (at : ℕ) (before last : List ℕ) (r : Bool) (x : Reading (List ℕ)) → MarksStored at before last r x → r ≡ false → x ≡ wrong
stored_lost at before last r wrong h e = refl
stored_lost at before last r (got ms q) h e = absurd (clash h.0 e)

-- marks that are read: so many, one after the other, pixels where the text has `#`
pub record RowMarks (text : List ℕ) (p n : ℕ) (ms : List ℕ) (q : ℕ) : Type 0 where
  pub next : q ≡ p + n
  pub size : length ms ≡ n
  pub pixel : (k : ℕ) → k < n → eqb (get_or ms k 0) 1 ≡ eqb (byte text (p + k)) pixel_mark

marks_first : (text : List ℕ) (p n m : ℕ) (ms : List ℕ) (q : ℕ) → eqb m 1 ≡ eqb (byte text p) pixel_mark → RowMarks text (suc p) n ms q
    → RowMarks text p (suc n) (m ∷ ms) q
marks_first text p n m ms q e h = record { next = let a = h.next in omega arith; size = ap suc h.size; pixel = at }
  where
    at : (k : ℕ) → k < suc n → eqb (get_or (m ∷ ms) k 0) 1 ≡ eqb (byte text (p + k)) pixel_mark
    at zero l = e ∙ ap (λ (i : ℕ). eqb (byte text i) pixel_mark) (sym (add-zero p))
    at (suc k) l = h.pixel k (omega arith) ∙ ap (λ (i : ℕ). eqb (byte text i) pixel_mark) (omega arith)

pub marks_facts : (text : List ℕ) (left p : ℕ) (ms : List ℕ) (q : ℕ) → marks_at text left p ≡ got ms q → RowMarks text p left ms q
unfolding marks_at
marks_facts text zero p ms q e =
    let z : [] ≡ ms = cc in
    let y : p ≡ q = cc in
    rw (← z) (record { next = omega arith; size = refl; pixel = λ k l. absurd (omega arith) })
marks_facts text (suc left) p ms q e =
    let o = got_onward (mark_at text p) _ ms q e in
    let o' = got_onward (marks_at text left o.next) _ ms q o.goes in
    let f : Mark text p o.value o.next = mark_facts text p o.value o.next o.reads in
    let g : ◌≡◌ {A = Reading (List ℕ)} (got (o.value ∷ o'.value) o'.next) (got ms q) = o'.goes in
    let z : o.value ∷ o'.value ≡ ms = cc in
    let y : o'.next ≡ q = cc in
    let later : RowMarks text (suc p) left o'.value q =
    subst₂ (λ (a b : ℕ). RowMarks text a left o'.value b) f.next y (marks_facts text left o.next o'.value o'.next o'.reads) in
    rw (← z) (marks_first text p left o.value o'.value q f.pixel later)

-- ── a row line ──

-- the word stands where reading goes on after it
stands_of : {A : Type 0} (word text : List ℕ) (p : ℕ) (more : ℕ → Reading A) (a : A) (q : ℕ) → after word text p more ≡ got a q → stands_at word text p ≡ true
stands_of word text p more a q e = go (decided (stands_at word text p))
  where
    go : (stands_at word text p ≡ true) ⊎ (stands_at word text p ≡ false) → stands_at word text p ≡ true
    go (inl t) = t
    go (inr f) = absurd (wrong_got (sym (after_not word text p more f) ∙ e))

-- the byte that stands there
one_of : (text : List ℕ) (p c : ℕ) → stands_at (c ∷ []) text p ≡ true → byte text p ≡ c
unfolding stands_at
one_of text p c e = go (decided (eqb (byte text p) c))
  where
    go : (eqb (byte text p) c ≡ true) ⊎ (eqb (byte text p) c ≡ false) → byte text p ≡ c
    go (inl t) = eqb-true (byte text p) c t
    go (inr f) = absurd (clash e (one_not text p c (eqb-false (byte text p) c f)))

module _ (text : List ℕ) (l p : ℕ) where
  -- the word is missing
  pub row_not : stands_at row_word text p ≡ false → row_at text l p ≡ wrong
  unfolding row_at
  row_not h = after_not row_word text p (λ q. onward (marks_at text l q) (λ ms r. after (line_end ∷ []) text r (λ next. got ms next))) h

  -- what follows the word
  row_after : stands_at row_word text p ≡ true
      → row_at text l p ≡ onward (marks_at text l (p + 4)) (λ ms r. after (line_end ∷ []) text r (λ next. got ms next))
  unfolding row_at
  row_after h = after_word row_word text p (λ q. onward (marks_at text l q) (λ ms r. after (line_end ∷ []) text r (λ next. got ms next))) h

  -- a mark is wrong
  pub row_none : stands_at row_word text p ≡ true → marks_at text l (p + 4) ≡ wrong → row_at text l p ≡ wrong
  row_none h e = row_after h ∙ ap (λ (x : Reading (List ℕ)). onward x (λ ms r. after (line_end ∷ []) text r (λ next. got ms next))) e

  -- the marks are stored: the row is read exactly when the line ends behind them
  pub row_last : stands_at row_word text p ≡ true → (at : ℕ) (before last : List ℕ) → MarksKept at before last (marks_at text l (p + 4)) → (r : Bool)
      → r ≡ eqb (byte text (p + 4 + l)) 10 → MarksStored at before last r (row_at text l p)
  row_last h at before last k r e = go r e
    where
      q : k.next ≡ p + 4 + l
      q = (marks_facts text l (p + 4) k.marks k.next k.reads).next

      here : row_at text l p ≡ after (line_end ∷ []) text k.next (λ next. got k.marks next)
      here = row_after h ∙ ap (λ (x : Reading (List ℕ)). onward x (λ ms r. after (line_end ∷ []) text r (λ next. got ms next))) k.reads

      go : (b : Bool) → b ≡ eqb (byte text (p + 4 + l)) 10 → MarksStored at before last b (row_at text l p)
      go true e =
          let s : stands_at (line_end ∷ []) text k.next ≡ true =
          one_stands text k.next 10 (ap (byte text) q ∙ eqb-true (byte text (p + 4 + l)) 10 (sym e)) in
          rw (here ∙ after_word (line_end ∷ []) text k.next (λ next. got k.marks next) s) (refl, k.stores)
      go false e =
          let s : stands_at (line_end ∷ []) text k.next ≡ false =
          one_not text k.next 10 (λ f. eqb-false (byte text (p + 4 + l)) 10 (sym e) (ap (byte text) (sym q) ∙ f)) in
          rw (here ∙ after_not (line_end ∷ []) text k.next (λ next. got k.marks next) s) refl

-- a row line that is read: its marks stand behind `row,`, and it ends in the text
pub record RowSpelled (text : List ℕ) (p l : ℕ) (ms : List ℕ) (q : ℕ) : Type 0 where
  pub next : q ≡ p + (l + 5)
  pub size : length ms ≡ l
  pub inside : q ≤ length text
  pub pixel : (k : ℕ) → k < l → eqb (get_or ms k 0) 1 ≡ eqb (byte text (p + 4 + k)) pixel_mark

pub row_facts : (text : List ℕ) (l p : ℕ) (ms : List ℕ) (q : ℕ) → row_at text l p ≡ got ms q → RowSpelled text p l ms q
unfolding row_at
row_facts text l p ms q e =
    let ending : List ℕ → ℕ → Reading (List ℕ) = λ ms' r. after (line_end ∷ []) text r (λ n. got ms' n) in
    let o : Onward (marks_at text l (p + 4)) ending ms q =
    got_onward (marks_at text l (p + 4)) ending ms q (got_after row_word text p (λ r. onward (marks_at text l r) ending) ms q e) in
    let g : ◌≡◌ {A = Reading (List ℕ)} (got o.value (o.next + 1)) (got ms q) =
    got_after (line_end ∷ []) text o.next (λ n. got o.value n) ms q o.goes in
    let z : o.value ≡ ms = cc in
    let y : o.next + 1 ≡ q = cc in
    let m : RowMarks text (p + 4) l o.value o.next = marks_facts text l (p + 4) o.value o.next o.reads in
    let b : byte text o.next ≡ 10 =
    one_of text o.next line_end (stands_of (line_end ∷ []) text o.next (λ n. got o.value n) ms q o.goes) in
    let i : o.next < length text = byte_inside text o.next (omega arith) in
    let n : o.next ≡ p + 4 + l = m.next in
    rw (← z) (record { next = omega arith; size = m.size; inside = omega arith; pixel = m.pixel })

-- ── row lines ──

abbrev stored : List ℕ → ℕ → Outcome Rows
stored pixels next = given (record { pixels = pixels; next = next })

-- the marks of a row in front of those of later rows
abbrev behind : List ℕ → Rows → Outcome Rows
behind ms r = stored (ms ++ r.pixels) r.next

-- rows stored from `at` on
abbrev into : ℕ → List ℕ → Rows → Outcome Rows
into at store r = stored (sets store at r.pixels) r.next

-- row lines stored from `at` on
abbrev pub fill_rows : List ℕ → ℕ → ℕ → ℕ → ℕ → ℕ → List ℕ → Outcome Rows
fill_rows text l left p line at store =
    and_then (rows_at text l left p line) (into at store)

-- one row is stored and the others are left
pub rows_more : (text : List ℕ) (l left p line at q : ℕ) (ms store : List ℕ) → row_at text l p ≡ got ms q
    → fill_rows text l (suc left) p line at store ≡ fill_rows text l left q (suc line) (at + length ms) (sets store at ms)
unfolding rows_at
rows_more text l left p line at q ms store e =
    ap (λ (x : Reading (List ℕ)). and_then (formed line x (λ ms q. and_then (rows_at text l left q (suc line)) (behind ms))) (into at store)) e
    ∙ go (rows_at text l left q (suc line))
  where
    go : (x : Outcome Rows)
        → and_then (and_then x (behind ms)) (into at store)
        ≡ and_then x (into (at + length ms) (sets store at ms))
    go (refused s) = refl
    go (given r) = ap (λ (k : List ℕ). stored k r.next) (sets_append store at ms r.pixels)

-- the same, where a call stored the row
module _ (text : List ℕ) (l p at : ℕ) (store last : List ℕ) (k : MarksKept at store last (row_at text l p)) where
  pub row_step : (left line : ℕ) → fill_rows text l (suc left) p line at store ≡ fill_rows text l left (p + (l + 5)) (suc line) (at + l) last
  row_step left line =
      let f : RowSpelled text p l k.marks k.next = row_facts text l p k.marks k.next k.reads in
      rows_more text l left p line at k.next k.marks store k.reads
      ∙ ap (λ (q : ℕ). fill_rows text l left q (suc line) (at + length k.marks) (sets store at k.marks)) f.next
      ∙ ap (λ (n : ℕ). fill_rows text l left (p + (l + 5)) (suc line) (at + n) (sets store at k.marks)) f.size
      ∙ ap (λ (s : List ℕ). fill_rows text l left (p + (l + 5)) (suc line) (at + l) s) (sym k.stores)

  pub row_inside : p + (l + 5) ≤ length text
  row_inside =
      let f : RowSpelled text p l k.marks k.next = row_facts text l p k.marks k.next k.reads in
      let a = f.next in
      let b = f.inside in
      omega arith

-- a wrong row is refused
pub rows_none : (text : List ℕ) (l left p line at : ℕ) (store : List ℕ) → row_at text l p ≡ wrong
    → fill_rows text l (suc left) p line at store ≡ refused (refusal_at wrong_form line)
unfolding rows_at
rows_none text l left p line at store e =
    ap (λ (x : Reading (List ℕ)). and_then (formed line x (λ ms q. and_then (rows_at text l left q (suc line)) (behind ms))) (into at store)) e

-- no row is left
pub rows_end : (text : List ℕ) (l p line at : ℕ) (store : List ℕ) → fill_rows text l 0 p line at store ≡ stored store p
unfolding rows_at
rows_end text l p line at store = refl

-- what stands in the store after all
pub rows_given : (at : ℕ) (before last : List ℕ) (next : ℕ) (x : Outcome Rows)
    → and_then x (into at before) ≡ stored last next
    → (Ok next ≡ rows_answer x) × RowsStored at before last x
rows_given at before last next (refused s) e = absurd (refused_given e)
rows_given at before last next (given r) e =
    let y : ◌≡◌ {A = Rows} (record { pixels = sets before at r.pixels; next = r.next }) (record { pixels = last; next = next }) = cc in
    (ap (λ (k : Rows). Ok k.next) (sym y), ap (λ (k : Rows). k.pixels) (sym y))

pub rows_refused : (at : ℕ) (before last : List ℕ) (s : Refusal) (x : Outcome Rows)
    → and_then x (into at before) ≡ refused s
    → (Err s ≡ rows_answer x) × RowsStored at before last x
rows_refused at before last s (refused t) e = (cc, tt)
rows_refused at before last s (given r) e = absurd (refused_given (sym e))

-- row lines that are read: their pixels stand in the text row by row, l + 5 bytes apart
pub record RowLines (text : List ℕ) (p l w : ℕ) (r : Rows) : Type 0 where
  pub next : r.next ≡ p + w * (l + 5)
  pub size : length r.pixels ≡ w * l
  pub inside : p ≤ length text → r.next ≤ length text
  pub pixel : (x y : ℕ) → x < l → y < w → eqb (get_or r.pixels (y * l + x) 0) 1 ≡ eqb (byte text (p + 4 + (y * (l + 5) + x))) pixel_mark

rows_first : (text : List ℕ) (p l w : ℕ) (ms : List ℕ) (q : ℕ) (r : Rows) → RowSpelled text p l ms q → RowLines text q l w r
    → RowLines text p l (suc w) (record { pixels = ms ++ r.pixels; next = r.next })
rows_first text p l w ms q r h k =
    record {
      next = let a = h.next in let b = k.next in omega (arith, suc-mul w (l + 5));
      size = length-append ms r.pixels ∙ (let a = h.size in let b = k.size in omega (arith, suc-mul w l));
      inside = λ _. k.inside h.inside;
      pixel = at;
    }
  where
    at : (x y : ℕ) → x < l → y < suc w → eqb (get_or (ms ++ r.pixels) (y * l + x) 0) 1 ≡ eqb (byte text (p + 4 + (y * (l + 5) + x))) pixel_mark
    at x zero lx ly =
        let i : 0 * l + x ≡ x = omega arith in
        let i' : p + 4 + (0 * (l + 5) + x) ≡ p + 4 + x = omega arith in
        let s : x < length ms = let a = h.size in omega arith in
        rw (i, i', get_or-append ms r.pixels 0 x s) (h.pixel x lx)
    at x (suc y) lx ly =
        let i : suc y * l + x ≡ length ms + (y * l + x) = let a = h.size in omega (arith, suc-mul y l) in
        let i' : p + 4 + (suc y * (l + 5) + x) ≡ q + 4 + (y * (l + 5) + x) = let a = h.next in omega (arith, suc-mul y (l + 5)) in
        rw (i, i', get_or-append-add ms r.pixels (y * l + x) 0) (k.pixel x y lx (omega arith))

pub rows_facts : (text : List ℕ) (l left p line : ℕ) (r : Rows) → rows_at text l left p line ≡ given r → RowLines text p l left r
unfolding rows_at
rows_facts text l zero p line r e =
    let z : ◌≡◌ {A = Rows} (record { pixels = []; next = p }) r = cc in
    rw (← z) (record { next = omega arith; size = omega arith; inside = λ h. h; pixel = λ x y _ h. absurd (omega arith) })
rows_facts text l (suc left) p line r e =
    let f = given_formed line (row_at text l p) _ r e in
    let b = given_before (rows_at text l left f.next (suc line)) _ r f.goes in
    let g : ◌≡◌ {A = Outcome Rows} (given (record { pixels = f.value ++ b.value.pixels; next = b.value.next })) (given r) = b.goes in
    let z : ◌≡◌ {A = Rows} (record { pixels = f.value ++ b.value.pixels; next = b.value.next }) r = cc in
    rw (← z)
    (rows_first text p l left f.value f.next b.value (row_facts text l p f.value f.next f.reads)
    (rows_facts text l left f.next (suc line) b.value b.gives))
