-- Refusal 8 of rebuilding, by local tests: the strips of a buffer are valid exactly when each fits the box and stands behind the
-- one before it. Standing before is kept from neighbour to neighbour. Assumes nothing.
use Rattle.list_laws.proofs.Kit.{◌∙◌, ◌≡◌, refl, subst, sym, Bool, ◌&&◌, false, true, inl, inr, ⊎_elim, List, Memᴰ, Memᴰ-cases_cons, Memᴰ-head}
use Rattle.list_laws.proofs.Kit.{Memᴰ-not_nil, Memᴰ-tail, [], ◌∷◌, map, ◌-◌, ◌<◌, suc, zero, ℕ, arith, eqb, ltb, get_or-map, length, length-map}
use Rattle.list_laws.proofs.Kit.{eq-eqb, eqb-true, le-leb, leb-true, lt-ltb, ltb-true, ne_eqb}
use Rattle.model.specs.Piece.{other}
use Rattle.model.specs.Strip.{Strip}
use Rattle.model.specs.Buffer.{entry_strip}
use Rattle.model.specs.declared.Direction.{Direction}
use Rattle.list_laws.proofs.Lists.{member_at}
use Rattle.list_laws.proofs.Tests.{and_left, and_right, and_both, or_cases, or_left, or_right}
use Rattle.strip_laws.specs.Lists.{Pairwise, none, more}
use Rattle.strip_laws.proofs.Lists.{pairwise_at}
use Rattle.strip_laws.specs.Strips.{StripBefore, side, StripFits, ValidStrips}
use Rattle.strip_check.specs.Check.{strip_in, fits_in, stands_before, follows, well_at}

-- ── places and members ──

-- the strips of a buffer
abbrev pub strips_of : List (List ℕ) → List Strip
strips_of es = map entry_strip es

-- the strip at a place is listed
pub strip_listed : (es : List (List ℕ)) (i : ℕ) → i < length es → Memᴰ (strip_in es i) (strips_of es)
strip_listed es i h =
    subst (λ (t : Strip). Memᴰ t (strips_of es)) (get_or-map entry_strip es i [])
    (member_at (strips_of es) i (entry_strip []) (rw (length-map es entry_strip) h))

-- a listed strip has a place
pub record StripPlace (es : List (List ℕ)) (t : Strip) : Type 0 where
  pub at : ℕ
  pub below : at < length es
  pub is : strip_in es at ≡ t

pub strip_place : (es : List (List ℕ)) (t : Strip) → Memᴰ t (strips_of es) → StripPlace es t
strip_place [] t m = absurd (Memᴰ-not_nil m)
strip_place (e ∷ es) t (Memᴰ-head q) = record { at = 0; below = omega arith; is = sym q }
strip_place (e ∷ es) t (Memᴰ-tail m) =
    let p : StripPlace es t = strip_place es t m in
    let b : p.at < length es = p.below in
    record { at = suc p.at; below = omega arith; is = p.is }

-- ── the tests on single strips and on neighbours ──

-- the test of a strip passes exactly where it fits
pub fits_from : (d : Direction) (l w : ℕ) (t : Strip) → fits_in (side d l w) (side (other d) l w) t ≡ true → StripFits d l w t
fits_from d l w t e =
    let some : Bool = ltb 0 t.count in
    let line : Bool = ltb t.line (side (other d) l w) in
    let both : (some && line) ≡ true = and_left (some && line) _ e in
    record {
      some = ltb-true _ _ (and_left some line both);
      line = ltb-true _ _ (and_right some line both);
      within = leb-true _ _ (and_right (some && line) _ e);
    }

pub fits_to : (d : Direction) (l w : ℕ) (t : Strip) → StripFits d l w t → fits_in (side d l w) (side (other d) l w) t ≡ true
fits_to d l w t f = and_both (and_both (lt-ltb _ _ f.some) (lt-ltb _ _ f.line)) (le-leb _ _ f.within)

-- the test of two strips passes exactly where one stands before the other
before_from : (t u : Strip) → stands_before t u ≡ true → StripBefore t u
before_from t u e =
    ⊎_elim (λ h. inl (ltb-true _ _ h)) (λ h. inr (eqb-true _ _ (and_left _ _ h), ltb-true _ _ (and_right (eqb t.line u.line) _ h)))
    (or_cases (ltb t.line u.line) _ e)

before_to : (t u : Strip) → StripBefore t u → stands_before t u ≡ true
before_to t u (inl h) = or_left _ _ (lt-ltb _ _ h)
before_to t u (inr h) = or_right (ltb t.line u.line) _ (and_both (eq-eqb _ _ h.0) (lt-ltb _ _ h.1))

-- a strip before another that stands before a third stands before the third
before_trans : (t u v : Strip) → StripBefore t u → StripBefore u v → StripBefore t v
before_trans t u v (inl a) (inl b) = inl (omega arith)
before_trans t u v (inl a) (inr b) = let e = b.0 in inl (omega arith)
before_trans t u v (inr a) (inl b) = let e = a.0 in inl (omega arith)
before_trans t u v (inr a) (inr b) = let e = a.1 in let f = b.1 in inr (a.0 ∙ b.0, omega arith)

-- ── neighbours in order ──

-- the first strip of an ordered list stands before the others
first_before_lem : {t : Strip} {ts : List Strip} → Pairwise StripBefore (t ∷ ts) → (u : Strip) → Memᴰ u ts → StripBefore t u
first_before_lem (more first rest) = first

-- neighbours in order make an ordered list
ordered_from : (es : List (List ℕ)) → ((k : ℕ) → suc k < length es → StripBefore (strip_in es k) (strip_in es (suc k)))
    → Pairwise StripBefore (strips_of es)
ordered_from [] h = none
ordered_from (e ∷ []) h = more (λ b m. absurd (Memᴰ-not_nil m)) none
ordered_from (e ∷ f ∷ es) h =
    let rest : Pairwise StripBefore (strips_of (f ∷ es)) = ordered_from (f ∷ es) (λ k l. h (suc k) (omega arith)) in
    let next : StripBefore (entry_strip e) (entry_strip f) = h 0 (omega arith) in
    more
    (λ b m.
    ⊎_elim (λ (q : b ≡ entry_strip f). subst (StripBefore (entry_strip e)) (sym q) next)
    (λ (n : Memᴰ b (strips_of es)). before_trans (entry_strip e) (entry_strip f) b next (first_before_lem rest b n))
    (Memᴰ-cases_cons m))
    rest

-- ── the list ──

-- a buffer whose strips all pass is valid
pub valid_from : (d : Direction) (l w : ℕ) (es : List (List ℕ))
    → ((k : ℕ) → k < length es → well_at (side d l w) (side (other d) l w) es k ≡ true) → ValidStrips d l w (strips_of es)
unfolding follows
valid_from d l w es h =
    record {
      fits = λ t m.
          let p : StripPlace es t = strip_place es t m in
          subst (StripFits d l w) p.is (fits_from d l w (strip_in es p.at) (and_left _ _ (h p.at p.below)));
      ordered = ordered_from es (λ k b.
          let n : eqb (suc k) 0 ≡ false = ne_eqb (suc k) 0 (λ e. omega arith) in
          let q : suc k - 1 ≡ k = omega arith in
          let f : follows es (suc k) ≡ true = and_right (fits_in (side d l w) (side (other d) l w) (strip_in es (suc k))) _ (h (suc k) b) in
          before_from (strip_in es k) (strip_in es (suc k)) (rw (n, q) at f));
    }

-- the strip before the one at a place stands before it
follows_to : (d : Direction) (l w : ℕ) (es : List (List ℕ)) (k : ℕ) → k < length es → ValidStrips d l w (strips_of es) → follows es k ≡ true
unfolding follows
follows_to d l w es zero b v = refl
follows_to d l w es (suc k) b v =
    let q : suc k - 1 ≡ k = omega arith in
    or_right (eqb (suc k) 0) _
    (rw q
    (before_to (strip_in es k) (strip_in es (suc k))
    (rw (get_or-map entry_strip es k [], get_or-map entry_strip es (suc k) []) at
    (pairwise_at v.ordered k (suc k) (entry_strip []) (omega arith) (rw (length-map es entry_strip) b)))))

-- in a valid buffer all strips pass
pub valid_to : (d : Direction) (l w : ℕ) (es : List (List ℕ)) → ValidStrips d l w (strips_of es)
    → (k : ℕ) → k < length es → well_at (side d l w) (side (other d) l w) es k ≡ true
valid_to d l w es v k b = and_both (fits_to d l w (strip_in es k) (v.fits (strip_in es k) (strip_listed es k b))) (follows_to d l w es k b v)
