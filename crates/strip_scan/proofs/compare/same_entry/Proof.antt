-- `strip_scan::compare::same_entry` meets its contract: an array of three has three numbers. Assumes nothing.
use Rattle.list_laws.proofs.Kit.{◌∙◌, ◌≡◌, sym, Bool, ◌&&◌, false, true, length, rules, eq-eqb, ne_eqb}
use Rattle.strip_scan.proofs.Comparing.{same_three}
use Rattle.strip_scan.proofs.compare.same_entry.Statement.{statement}
use Rattle.strip_scan.proofs.compare.same_entry.Tie as tie

-- two tests that pass leave the third
third_left : (a b d : Bool) → a ≡ true → b ≡ true → (a && (b && (d && true))) ≡ d
third_left a b true e f = rw (e, f)
third_left a b false e f = rw (e, f)

returns-then-entry-line : tie.Need-returns-then-entry-line
returns-then-entry-line c =
    let a = c.before.args in
    let n : length a.entry ≡ 3 = search rules in
    sym (same_three a.entry a.line a.first a.count n ∙ simp (ne_eqb _ _ c.if-entry-line.true))

returns-then-entry-first : tie.Need-returns-then-entry-first
returns-then-entry-first c =
    let a = c.before.before.args in
    let n : length a.entry ≡ 3 = search rules in
    sym (same_three a.entry a.line a.first a.count n ∙ simp (eq-eqb _ _ c.before.if-entry-line.false, ne_eqb _ _ c.if-entry-first.true))

returns : tie.Need-returns
returns c =
    let a = c.before.before.args in
    let n : length a.entry ≡ 3 = search rules in
    sym (same_three a.entry a.line a.first a.count n ∙ third_left _ _ _ (eq-eqb _ _ c.before.if-entry-line.false) (eq-eqb _ _ c.if-entry-first.false))

pub same_entry_spec : {M : Type 1} → statement M
same_entry_spec =
    tie.close (tie.spec
    (search rules) (λ c. search rules) returns-then-entry-line (search rules) (λ c. search rules) returns-then-entry-first (search rules)
    (λ c. search rules) returns)
