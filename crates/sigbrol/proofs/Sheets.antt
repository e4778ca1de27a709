-- What an exported call on the sheet replies and leaves in the record's buffer, by the answer of the call below it. Assumes nothing.
use Rattle.std.specs.Prelude.{Result, Ok, Err}
use Rattle.list_laws.proofs.Kit.{◌∙◌, ◌≡◌, ap, refl, sym, List, ℕ, arith}
use Rattle.model.specs.Cover.{Sheet}
use Rattle.model.specs.Refusal.{Outcome, refused, given}
use Rattle.model.specs.declared.Record.{Record}
use Rattle.model.specs.declared.Refusal.{Refusal}
use Rattle.sheet_calls.specs.Answers.{sheet_answer}
use Rattle.sheet_calls.specs.declared.SheetAnswer.{SheetAnswer}
use Rattle.c_interface.specs.Records.{record_numbers, record_after}
use Rattle.c_interface.specs.Replies.{done, refused_by, reply_to}

-- a call that is taken up: done, and the record is the sheet's
pub taken_up : (before : Record) (o : Outcome Sheet) (a : SheetAnswer) (es : List (List ℕ)) → a ≡ sheet_answer before o → a.reply ≡ Ok tt
    → (done ≡ reply_to o) × (record_numbers a.sheet.pieces ≡ record_after es o)
taken_up before (refused r) a es e g =
    let no : Err r ≡ Ok tt = sym (ap (λ (b : SheetAnswer). b.reply) e) ∙ g in
    let z : ◌≡◌ {A = ℕ} 0 1 = cc in
    absurd (omega arith)
taken_up before (given s) a es e g = (refl, ap (λ (b : SheetAnswer). record_numbers b.sheet.pieces) e)

-- a call that is turned down: its refusal, and the buffer is as before
pub turned_down : (before : Record) (o : Outcome Sheet) (a : SheetAnswer) (es : List (List ℕ)) (r : Refusal) → a ≡ sheet_answer before o
    → a.reply ≡ Err r → (refused_by r ≡ reply_to o) × (es ≡ record_after es o)
turned_down before (refused q) a es r e g =
    let same : ◌≡◌ {A = Result (Unit {0}) Refusal} (Err q) (Err r) = sym (ap (λ (b : SheetAnswer). b.reply) e) ∙ g in
    let q≡r : r ≡ q = cc in
    (ap refused_by q≡r, refl)
turned_down before (given s) a es r e g =
    let no : Ok tt ≡ Err r = sym (ap (λ (b : SheetAnswer). b.reply) e) ∙ g in
    let z : ◌≡◌ {A = ℕ} 0 1 = cc in
    absurd (omega arith)
