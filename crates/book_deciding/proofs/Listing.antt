-- The type of a message as one of those in the table.
-- Assumes nothing.
use mathlib.Core.Path.{◌≡◌, refl, ap, ◌∙◌, sym, subst}
use mathlib.Core.Bool.{true, false, not, ◌&&◌}
use mathlib.Core.List.{List}
use mathlib.Core.Logic.{by_cases}
use Prim.Native.Nat.{ℕ}
use native.Mathlib.Decide.{dec_lt}
use native.Mathlib.Omega.{arith}
use borrow.Author.Tests.{eq-eqb, leb-true}
use lib.Dec.{leb}
use Rattle.std.specs.Prelude.{Result, Ok, Err, is_ok}
use Rattle.fields.proofs.Tests.{and_left, and_right}
use Rattle.message.specs.Row.{fields_of}
use Rattle.message.specs.Table.{payload_of}
use Rattle.message.specs.Types.{type_number, Names}
use Rattle.message.specs.declared.types.Kind.{Kind}
use Rattle.message.specs.declared.types.Kind.TheVariants.{Security, SpinStart, SpinEnd, TradingSession, Add, Update, Delete, Execution, Priced, Top, Trade, Imbalance}
use Rattle.message.specs.declared.types.NoKind.{NoKind}
use Rattle.book.specs.Applying.{Seen, effect_of, is_listed, names}
use Rattle.book.specs.declared.deciding.Effect.TheVariants.{Unchanged}
use Rattle.book.proofs.Arms.{quiet_9, quiet_11, quiet_12, quiet_28}
use Rattle.book.proofs.Types.{no}

-- a type that names an order is in the table
pub named-listed : (t : ℕ) → names t ≡ true → is_listed t ≡ true
unfolding payload_of
named-listed t named =
    let lo = leb-true 22 t (and_left (leb 22 t) (leb t 25) named) in
    let hi = leb-true t 25 (and_right (leb 22 t) (leb t 25) named) in
    by_cases (dec_lt t 23) (λ l. let e : t ≡ 22 = omega arith in rw e refl)
    λ a. by_cases (dec_lt t 24) (λ l. let e : t ≡ 23 = omega arith in rw e refl)
    λ b. by_cases (dec_lt t 25) (λ l. let e : t ≡ 24 = omega arith in rw e refl) (λ c. let e : t ≡ 25 = omega arith in rw e refl)

module _ (n : ℕ) (r : Result Kind NoKind) (told : Names n r) where
  pub of_kind : {kind : Kind} → r ≡ Ok kind → n ≡ type_number kind
  of_kind e = sym (subst (Names n) e told)

  pub of_none : {none : NoKind} → r ≡ Err none → is_listed n ≡ false
  of_none e = ap not (eq-eqb _ _ (subst (Names n) e told).1)

  pub some_kind : is_listed n ≡ true → is_ok r ≡ true
  some_kind listed = go r refl
    where
      go : (answer : Result Kind NoKind) → r ≡ answer → is_ok answer ≡ true
      go (Ok kind) e = refl
      go (Err none) e = no (sym (of_none e) ∙ listed)

-- of the types that name an order, the last
pub last_kind : (kind : Kind) → names (type_number kind) ≡ true → (kind ≡ Update → ⊥) → (kind ≡ Delete → ⊥) → (kind ≡ Execution → ⊥) → type_number kind ≡ 25
last_kind Security named u d e = no named
last_kind SpinStart named u d e = no named
last_kind SpinEnd named u d e = no named
last_kind TradingSession named u d e = no named
last_kind Add named u d e = no named
last_kind Update named u d e = absurd (u refl)
last_kind Delete named u d e = absurd (d refl)
last_kind Execution named u d e = absurd (e refl)
last_kind Priced named u d e = refl
last_kind Top named u d e = no named
last_kind Trade named u d e = no named
last_kind Imbalance named u d e = no named

-- of the types that name no order, those that change nothing
pub quiet_kind : (s : List ℕ) (seen : Seen) (kind : Kind) → (leb 21 (type_number kind) && leb (type_number kind) 25) ≡ false
    → (kind ≡ TradingSession → ⊥) → (kind ≡ Top → ⊥) → (kind ≡ Trade → ⊥) → Unchanged ≡ effect_of seen (fields_of (type_number kind) s)
quiet_kind s seen Security other a b c = quiet_9 s seen
quiet_kind s seen SpinStart other a b c = quiet_11 s seen
quiet_kind s seen SpinEnd other a b c = quiet_12 s seen
quiet_kind s seen TradingSession other a b c = absurd (a refl)
quiet_kind s seen Add other a b c = no (sym other)
quiet_kind s seen Update other a b c = no (sym other)
quiet_kind s seen Delete other a b c = no (sym other)
quiet_kind s seen Execution other a b c = no (sym other)
quiet_kind s seen Priced other a b c = no (sym other)
quiet_kind s seen Top other a b c = absurd (b refl)
quiet_kind s seen Trade other a b c = absurd (c refl)
quiet_kind s seen Imbalance other a b c = quiet_28 s seen
