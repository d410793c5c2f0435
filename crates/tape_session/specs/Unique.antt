-- UNIQUE for a turn of a session.
-- Assumes nothing.
use Rattle.std.specs.Prelude.{◌≡◌, refl, ℕ, List, Result}
use Rattle.basis.specs.Unique.{unique}
use Rattle.paper.specs.Storing.{Lent}
use Rattle.tape_session.specs.declared.Session.{Session}
use Rattle.tape_session.specs.declared.Stop.{Stop}
use Rattle.tape_session.specs.declared.Turn.{Turn}
use Rattle.tape_session.specs.Session.{Turned, turned_of, turn_of}

-- a turn or why there is none, and what is lent as it leaves it
pub record Ended : Type 0 where
  pub turn : Result Turn Stop
  pub memory : List ℕ
  pub area : List ℕ
  pub output : List ℕ

abbrev pub shows : Ended → Turned
shows x = turned_of x.turn x.memory x.area x.output

abbrev finds : Turned → Ended
finds t = record { turn = t.turn; memory = t.lent.memory; area = t.lent.area; output = t.output }

pub advance_unique : (s : Session) (tape : List ℕ) (l : Lent) (out : List ℕ) {x y : Ended} → shows x ≡ turn_of s tape l out → shows y ≡ turn_of s tape l out → x ≡ y
advance_unique s tape l out = unique shows finds (λ x. refl)
