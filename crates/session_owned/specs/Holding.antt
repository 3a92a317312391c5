-- What is held in one value, as the session's definitions speak of it.
-- Assumes nothing.
use Rattle.session.specs.Meaning.{Held, held}
use Rattle.session_owned.specs.declared.Owned.{Owned}

abbrev pub held_by : Owned → Held
held_by o = held o.session o.room o.window
