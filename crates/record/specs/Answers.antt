-- The answers and the papers' numbers for them. Document 01, "Answer numbers, in order of checking"; document 02, P1 (13).
use Rattle.std.specs.Prelude.{ℕ, Bool, true, false, List, [], ◌∷◌, map, eqb}
use Rattle.basis.specs.Rows.{look}
use Rattle.record.specs.declared.answers.Answer.{Answer}
use Rattle.record.specs.declared.answers.Class.{Class}
use Rattle.record.specs.declared.answers.Class.TheVariants as Of
use Rattle.record.specs.declared.answers.Answer.TheVariants.{Done, Size, Sample, State, Short, Unknown, Asleep, Address, Latch, Protected, Reserved, Long, Unarmed, Turn}

abbrev pub answer_number : Answer → ℕ
answer_number Done = 0
answer_number Size = 1
answer_number Sample = 2
answer_number State = 3
answer_number Short = 4
answer_number Unknown = 5
answer_number Asleep = 6
answer_number Address = 7
answer_number Latch = 8
answer_number Protected = 9
answer_number Reserved = 10
answer_number Long = 11
answer_number Unarmed = 12
-- a call out of turn. Document 02, P1
answer_number Turn = 13

-- What became of a call: done, 0; refused, and nothing was clocked; or declined by the device after the clocks. Document 01, the last column of the table (D53)
abbrev pub class_of : Answer → Class
class_of Done = Of.Done
class_of Size = Of.Refused
class_of Sample = Of.Refused
class_of State = Of.Refused
class_of Short = Of.Declined
class_of Unknown = Of.Declined
class_of Asleep = Of.Declined
class_of Address = Of.Declined
class_of Latch = Of.Declined
class_of Protected = Of.Declined
class_of Reserved = Of.Declined
class_of Long = Of.Declined
class_of Unarmed = Of.Declined
class_of Turn = Of.Refused

abbrev pub done_in : Class → Bool
done_in Of.Done = true
done_in Of.Refused = false
done_in Of.Declined = false

abbrev pub refused_in : Class → Bool
refused_in Of.Done = false
refused_in Of.Refused = true
refused_in Of.Declined = false

abbrev pub declined_in : Class → Bool
declined_in Of.Done = false
declined_in Of.Refused = false
declined_in Of.Declined = true

abbrev pub is_done : Answer → Bool
is_done v = done_in (class_of v)

abbrev pub refuses : Answer → Bool
refuses v = refused_in (class_of v)

abbrev pub declines : Answer → Bool
declines v = declined_in (class_of v)

-- the same of a number, where that is all there is: C has the answer as a number
abbrev pub answers : List Answer
answers = Done ∷ Size ∷ Sample ∷ State ∷ Short ∷ Unknown ∷ Asleep ∷ Address ∷ Latch ∷ Protected ∷ Reserved ∷ Long ∷ Unarmed ∷ Turn ∷ []

abbrev pub refusing : ℕ → Bool
refusing n = look false (map (λ v. (answer_number v, refuses v)) answers) n

-- 9: every byte of the burst was protected
abbrev pub is_protected : Answer → Bool
is_protected v = eqb (answer_number v) 9
