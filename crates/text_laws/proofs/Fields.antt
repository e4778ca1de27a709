-- Document 01, 'Job text' and 'Start, layout text, sheet': a line of a word and numbers that is written is read back, and what
-- followed it lies ahead. Assumes nothing.
use Rattle.list_laws.proofs.Kit.{◌∙◌, ◌≡◌, refl, false, List, [], ◌++◌, ◌∷◌, append_assoc, ◌+◌, ◌≤◌, ℕ, length}
use Rattle.model.specs.Refusal.{Outcome, given}
use Rattle.model.specs.Text.{is_digit, Reading, got, onward, field_at, fields_at, line_at, digits, fields_text, line_text}
use Rattle.text_laws.proofs.Ahead.{Ahead, ahead_word, after_ahead}
use Rattle.text_laws.proofs.Numbers.{written_ahead}

-- a reading of the text that gives the value, in front of the rest
pub record FieldReads {A : Type 0} (reading : Reading A) (a : A) (text rest : List ℕ) : Type 0 where
  pub next : ℕ
  pub reads : reading ≡ got a next
  pub ahead : Ahead text next rest

-- an outcome that is given, in front of the rest of the text
pub record FieldGives {A : Type 0} (outcome : Outcome A) (value : ℕ → A) (text rest : List ℕ) : Type 0 where
  pub next : ℕ
  pub gives : outcome ≡ given (value next)
  pub ahead : Ahead text next rest

-- the numbers have at most 5 digits, and each has its end byte, which is no digit
abbrev pub Writable : List ℕ → List ℕ → Type 0
Writable [] [] = Unit {0}
Writable [] (k ∷ ks) = ⊥
Writable (end ∷ ends) [] = ⊥
Writable (end ∷ ends) (k ∷ ks) = (is_digit end ≡ false) × (k ≤ 99999) × Writable ends ks

-- a field that lies ahead is read
pub field_ahead : {text : List ℕ} {p : ℕ} (k end : ℕ) (rest : List ℕ) → k ≤ 99999 → is_digit end ≡ false
    → Ahead text p (digits k ++ (end ∷ rest)) → FieldReads (field_at end text p) k text rest
unfolding field_at
field_ahead {text} {p} k end rest h e a =
    let a' : Ahead text (p + length (digits k)) (end ∷ rest) = ahead_word (digits k) a in
    record {
      next = p + length (digits k) + 1;
      reads = rw (written_ahead k end rest h e a, onward) (after_ahead (end ∷ []) rest (λ r. got k r) a');
      ahead = ahead_word (end ∷ []) a';
    }

-- fields that lie ahead are read
pub fields_ahead : {text : List ℕ} {p : ℕ} (ends ks rest : List ℕ) → Writable ends ks → Ahead text p (fields_text ends ks ++ rest)
    → FieldReads (fields_at ends text p) ks text rest
unfolding fields_at fields_text
fields_ahead {text = text} {p = p} [] [] rest w a = record { next = p; reads = refl; ahead = a }
fields_ahead {text = text} {p = p} [] (k ∷ ks) rest w a = absurd w
fields_ahead {text = text} {p = p} (end ∷ ends) [] rest w a = absurd w
fields_ahead {text = text} {p = p} (end ∷ ends) (k ∷ ks) rest w a =
    let a' : Ahead text p (digits k ++ (end ∷ (fields_text ends ks ++ rest))) = rw append_assoc at a in
    let f : FieldReads (field_at end text p) k text (fields_text ends ks ++ rest) = field_ahead k end (fields_text ends ks ++ rest) w.1 w.0 a' in
    let r : FieldReads (fields_at ends text f.next) ks text rest = fields_ahead {p = f.next} ends ks rest w.2 f.ahead in
    record { next = r.next; reads = rw (f.reads, r.reads, onward); ahead = r.ahead }

-- a line that lies ahead is read
pub line_ahead : {text : List ℕ} {p : ℕ} (word ends ks rest : List ℕ) → Writable ends ks
    → Ahead text p (line_text word ends ks ++ rest) → FieldReads (line_at word ends text p) ks text rest
line_ahead {text} {p} word ends ks rest w a =
    let a' : Ahead text p (word ++ (fields_text ends ks ++ rest)) = rw append_assoc at a in
    let r : FieldReads (fields_at ends text (p + length word)) ks text rest = fields_ahead ends ks rest w (ahead_word word a') in
    record {
      next = r.next;
      reads = after_ahead word (fields_text ends ks ++ rest) (fields_at ends text) a' ∙ r.reads;
      ahead = r.ahead;
    }
