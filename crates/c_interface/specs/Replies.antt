-- The reply of an exported call, by the model's outcomes. Assumes nothing.
use Rattle.model.specs.Refusal.{Outcome, refused, given}
use Rattle.model.specs.declared.Refusal.{Refusal}
use Rattle.c_interface.specs.declared.Reply.{Reply}

-- the reply of a call that is not refused
abbrev pub done : Reply
done = record { number = 0; first = 0; second = 0 }

-- the reply of a refused call: the refusal's number and places
abbrev pub refused_by : Refusal → Reply
refused_by r = record { number = r.number; first = r.first; second = r.second }

-- the reply to an outcome
abbrev pub reply_to : {A : Type 0} → Outcome A → Reply
reply_to (refused r) = refused_by r
reply_to (given a) = done
