-- Document 01's listed types and their numbers.
-- Assumes nothing.
use Rattle.std.specs.Prelude.{◌≡◌, ℕ, Result, MatchResult, Option, Some, None}
use Rattle.message.specs.Table.{payload_of}
use Rattle.message.specs.declared.types.Kind.{Kind}
use Rattle.message.specs.declared.types.Kind.TheVariants.{Security, SpinStart, SpinEnd, TradingSession, Add, Update, Delete, Execution, Priced, Top, Trade, Imbalance}
use Rattle.message.specs.declared.types.NoKind.{NoKind}

abbrev pub type_number : Kind → ℕ
type_number Security = 9
type_number SpinStart = 11
type_number SpinEnd = 12
type_number TradingSession = 20
type_number Add = 21
type_number Update = 22
type_number Delete = 23
type_number Execution = 24
type_number Priced = 25
type_number Top = 26
type_number Trade = 27
type_number Imbalance = 28

-- the result is the type of this number, or an error with a number that the table does not list
abbrev pub Names : ℕ → Result Kind NoKind → Type 0
Names number r = MatchResult r (λ kind. type_number kind ≡ number) (λ e. (e.0 ≡ number) × (payload_of number ≡ 255))

-- the number of a type that there may be, 0 where there is none
abbrev pub type_or_none : Option Kind → ℕ
type_or_none None = 0
type_or_none (Some kind) = type_number kind
