-- The lines that the bench prints for a tape, byte by byte. Document 01, "Bench tape": a header, a line for each record, and a last line that says how many
-- records there were or where a bad one begins. Each line ends in a line feed (D70).
use Rattle.std.specs.Prelude.{List, [], ◌∷◌, ◌++◌, ℕ}
use Rattle.record.specs.declared.devices.Outcome.{Outcome}
use Rattle.record.specs.Answers.{answer_number}
use Rattle.tape_session.specs.declared.Stop.{Stop}
use Rattle.tape_session.specs.declared.Stop.TheVariants.{End, Bad, Unready}
use Rattle.text.specs.Decimal.{decimal_of}
use Rattle.bench_columns.specs.Columns.{column_of, five_of}

-- "record answer command address wait data rest"
abbrev pub header_text : List ℕ
header_text =
    114 ∷ 101 ∷ 99 ∷ 111 ∷ 114 ∷ 100 ∷ 32
    ∷ 97 ∷ 110 ∷ 115 ∷ 119 ∷ 101 ∷ 114 ∷ 32
    ∷ 99 ∷ 111 ∷ 109 ∷ 109 ∷ 97 ∷ 110 ∷ 100 ∷ 32
    ∷ 97 ∷ 100 ∷ 100 ∷ 114 ∷ 101 ∷ 115 ∷ 115 ∷ 32
    ∷ 119 ∷ 97 ∷ 105 ∷ 116 ∷ 32
    ∷ 100 ∷ 97 ∷ 116 ∷ 97 ∷ 32
    ∷ 114 ∷ 101 ∷ 115 ∷ 116 ∷ 10
    ∷ []

-- "end" and "bad"
abbrev pub end_word : List ℕ
end_word = 101 ∷ 110 ∷ 100 ∷ []

abbrev pub bad_word : List ℕ
bad_word = 98 ∷ 97 ∷ 100 ∷ []

-- THE LINE OF A RECORD: its number, counted from 1, the answer's number and the five counts
unfoldable pub line_of : ℕ → Outcome → List ℕ
line_of k o = decimal_of k ++ (column_of (answer_number o.answer) ++ (five_of o.counts ++ (10 ∷ [])))

-- a word and a number, on a line of their own
unfoldable pub last_line_of : List ℕ → ℕ → List ℕ
last_line_of word v = word ++ (column_of v ++ (10 ∷ []))

-- THE LAST LINE: the end of the tape after so many records, or a record that cannot be played, at its offset
abbrev pub verdict_of : Stop → ℕ → ℕ → List ℕ
verdict_of End before offset = last_line_of end_word before
verdict_of (Bad fault) before offset = last_line_of bad_word offset
verdict_of (Unready e) before offset = last_line_of bad_word offset
