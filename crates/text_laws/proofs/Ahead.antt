-- What lies ahead of a position in a text. A reader that stands in front of a word, a byte or an end finds it, and after it the rest
-- lies ahead. Readers look at single bytes of the whole text; these laws let a proof speak of the rest of the text instead.
-- Assumes nothing.
use Rattle.list_laws.proofs.Kit.{◌∙◌, ◌≡◌, ap, refl, sym, Bool, false, true, List, [], ◌++◌, ◌∷◌, ◌+◌, suc, ℕ, add-one, add-zero, arith, eqb, drop, get_or}
use Rattle.list_laws.proofs.Kit.{length, length-append}
use Rattle.list_laws.proofs.Kit.{drop-append_seam, drop-drop, get_or-drop, eq-eqb}
use Rattle.model.specs.Text.{byte, Reading, wrong, stands_at, after}

-- from position p on, the text is just the rest
pub record Ahead (text : List ℕ) (p : ℕ) (rest : List ℕ) : Type 0 where
  pub lies : drop p text ≡ rest
  pub fits : p + length rest ≡ length text

-- at the start of a text the whole text lies ahead
pub ahead_start : (text : List ℕ) → Ahead text 0 text
ahead_start text = record { lies = refl; fits = omega arith }

-- behind what comes before, the rest lies ahead
pub ahead_after : (before rest : List ℕ) → Ahead (before ++ rest) (length before) rest
ahead_after before rest = record { lies = drop-append_seam before rest; fits = sym (length-append before rest) }

-- the byte at the position is the first of what lies ahead
pub ahead_byte : {text : List ℕ} {p c : ℕ} {rest : List ℕ} → Ahead text p (c ∷ rest) → byte text p ≡ c
ahead_byte {text} {p} {c} {rest} a =
    ap (λ (q : ℕ). get_or text q 0) (sym (add-zero p)) ∙ sym (get_or-drop p text 0 0) ∙ ap (λ (l : List ℕ). get_or l 0 0) a.lies

-- after a word lies what followed it
pub ahead_word : {text : List ℕ} {p : ℕ} (word : List ℕ) {rest : List ℕ} → Ahead text p (word ++ rest) → Ahead text (p + length word) rest
ahead_word {text} {p} word {rest} a =
    record {
      lies = sym (drop-drop (length word) p text) ∙ ap (λ (l : List ℕ). drop (length word) l) a.lies ∙ drop-append_seam word rest;
      fits = let h = a.fits in omega (arith, length-append word rest);
    }

-- after one byte
pub ahead_next : {text : List ℕ} {p c : ℕ} {rest : List ℕ} → Ahead text p (c ∷ rest) → Ahead text (suc p) rest
ahead_next {text} {p} {c} {rest} a = rw add-one at (ahead_word (c ∷ []) a)

-- a word that lies ahead stands at the position
pub stands : {text : List ℕ} {p : ℕ} (word rest : List ℕ) → Ahead text p (word ++ rest) → stands_at word text p ≡ true
unfolding stands_at
stands [] rest a = refl
stands {text} {p} (c ∷ word) rest a = rw (eq-eqb (byte text p) c (ahead_byte a), stands_at) (stands word rest (ahead_next a))

-- reading goes on after a word that lies ahead
pub after_ahead : {A : Type 0} {text : List ℕ} {p : ℕ} (word rest : List ℕ) (more : ℕ → Reading A)
    → Ahead text p (word ++ rest) → after word text p more ≡ more (p + length word)
after_ahead {A} {text} {p} word rest more a = rw (stands word rest a, after)

-- a word stands in what lies ahead where it stands in the text
stands_within : {text : List ℕ} {p : ℕ} {rest : List ℕ} (word : List ℕ) (q : ℕ) → Ahead text p rest → stands_at word text (p + q) ≡ stands_at word rest q
unfolding stands_at
stands_within [] q a = refl
stands_within {text} {p} {rest} (c ∷ word) q a =
    let same : byte text (p + q) ≡ byte rest q = sym (get_or-drop p text q 0) ∙ ap (λ (l : List ℕ). get_or l q 0) a.lies in
    let next : suc (p + q) ≡ p + suc q = omega arith in
    rw (same, stands_at)
    (ap (λ (t : Bool). elim (eqb (byte rest q) c) as (λ _. Bool) [ true ↦ t | false ↦ false ])
    (ap (stands_at word text) next ∙ stands_within word (suc q) a))

-- nothing is read behind a word that does not begin what lies ahead
pub after_other : {A : Type 0} {text : List ℕ} {p : ℕ} {rest : List ℕ} (word : List ℕ) (more : ℕ → Reading A) → Ahead text p rest
    → stands_at word rest 0 ≡ false → after word text p more ≡ wrong
after_other {A} {text} {p} {rest} word more a e =
    let none : stands_at word text p ≡ false = ap (stands_at word text) (sym (add-zero p)) ∙ stands_within word 0 a ∙ e in
    rw (none, after)

-- where nothing lies ahead the text ends
pub ahead_end : {text : List ℕ} {p : ℕ} → Ahead text p [] → p ≡ length text
ahead_end {text} {p} a = let h = a.fits in omega arith
