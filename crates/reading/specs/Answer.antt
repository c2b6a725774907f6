-- What an answer of the code says, and what reading comes to apart from the thing read.
use Rattle.std.specs.Prelude.{Result, Ok, Err}
use Rattle.reading.specs.Refusal.{Read, refused, read}
use Rattle.reading.specs.declared.Refusal.{Refusal}

-- What is answered where all is accepted, or document 01's number and line, which is "the record's place, from 1" where a
-- record is refused.
unfoldable pub answer_read : {A : Type 0} → Result A Refusal → Read A
answer_read (Ok a) = read a
answer_read (Err r) = refused r.number r.line

unfoldable pub done_read : {A : Type 0} → Read A → Read (Unit {0})
done_read (refused number line) = refused number line
done_read (read a) = read tt
