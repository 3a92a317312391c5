-- Why a message faults: each reason's number.
-- Assumes nothing.
use Rattle.std.specs.Prelude.{ℕ}
use Rattle.book.specs.declared.deciding.Reason.{Reason}
use Rattle.book.specs.declared.deciding.Reason.TheVariants.{Unlisted, RuleBroken, AlreadyLive, OrdersFull, NotLive, ExecutedTooMuch, WrongRemaining, InsidesFull}

abbrev pub reason_number : Reason → ℕ
reason_number Unlisted = 1
reason_number RuleBroken = 2
reason_number AlreadyLive = 3
reason_number OrdersFull = 4
reason_number NotLive = 5
reason_number ExecutedTooMuch = 6
reason_number WrongRemaining = 7
reason_number InsidesFull = 8
