-- A list of lays and withdraws as public calls (document 01, 'Start, layout text, sheet'). The theorem is `fresh_given` in
-- proofs/Sheets. Assumes nothing.
use Rattle.std.specs.Prelude.{List, [], ◌∷◌}
use Rattle.model.specs.Lent.{Lent}
use Rattle.model.specs.Refusal.{Outcome}
use Rattle.model.specs.Cover.{Sheet, Call, laying, withdrawing, afterwards}
use Rattle.model.specs.Calls.{lay_call, withdraw_call}

-- a public call on a sheet
abbrev pub sheet_call : Lent → Sheet → Call → Outcome Sheet
sheet_call l s (laying i p) = lay_call l s i p
sheet_call l s (withdrawing i) = withdraw_call l s i

-- the sheet after a list of public calls, where a refused one changes nothing
unfoldable pub after_sheet_calls : Lent → Sheet → List Call → Sheet
after_sheet_calls l s [] = s
after_sheet_calls l s (c ∷ cs) = after_sheet_calls l (afterwards s (sheet_call l s c)) cs
