-- What a listed type's number says.
-- Assumes nothing.
use Rattle.std.proofs.Common.{◌≡◌, List, ℕ, ◌<◌, refl, lit≤, subst, sym, ap, ◌∙◌, eqb, eq-eqb, ne_eqb, false}
use Rattle.std.proofs.lemmas.Bool.{true≢false}
use Rattle.message.specs.Row.{bare, fields_of}
use Rattle.message.specs.declared.kinds.Body.TheVariants.{Other}
use Rattle.message.specs.Table.{payload_of}
use Rattle.message.specs.Types.{type_number}
use Rattle.message.specs.declared.types.Kind.{Kind}
use Rattle.message.specs.declared.types.Kind.TheVariants.{Security, SpinStart, SpinEnd, TradingSession, Add, Update, Delete, Execution, Priced, Top, Trade, Imbalance}
use Rattle.message.proofs.Cases.{unopened, Unopened}

-- it is one of the first 32
pub small_number : (kind : Kind) → type_number kind < 32
small_number Security = lit≤ tt
small_number SpinStart = lit≤ tt
small_number SpinEnd = lit≤ tt
small_number TradingSession = lit≤ tt
small_number Add = lit≤ tt
small_number Update = lit≤ tt
small_number Delete = lit≤ tt
small_number Execution = lit≤ tt
small_number Priced = lit≤ tt
small_number Top = lit≤ tt
small_number Trade = lit≤ tt
small_number Imbalance = lit≤ tt

-- no listed type has number 0
pub some_number : (kind : Kind) → type_number kind ≡ 0 → ⊥
some_number kind e = true≢false (sym (eq-eqb _ _ e) ∙ other kind)
  where
    other : (kind : Kind) → eqb (type_number kind) 0 ≡ false
    other Security = refl
    other SpinStart = refl
    other SpinEnd = refl
    other TradingSession = refl
    other Add = refl
    other Update = refl
    other Delete = refl
    other Execution = refl
    other Priced = refl
    other Top = refl
    other Trade = refl
    other Imbalance = refl

-- a number that is none of the twelve is not listed
pub not_listed : (n : ℕ) → Unopened n → (n ≡ 28 → ⊥) → payload_of n ≡ 255
unfolding payload_of
not_listed n h last =
    simp (ne_eqb n 9 h.0.0.0.0.0.0.0.0.0.0.1, ne_eqb n 11 h.0.0.0.0.0.0.0.0.0.1, ne_eqb n 12 h.0.0.0.0.0.0.0.0.1, ne_eqb n 20 h.0.0.0.0.0.0.0.1, ne_eqb n 21 h.0.0.0.0.0.0.1, ne_eqb n 22 h.0.0.0.0.0.1, ne_eqb n 23 h.0.0.0.0.1, ne_eqb n 24 h.0.0.0.1, ne_eqb n 25 h.0.0.1, ne_eqb n 26 h.0.1, ne_eqb n 27 h.1, ne_eqb n 28 last)

-- a type that is not listed is not opened
differs : (n k : ℕ) → payload_of n ≡ 255 → eqb (payload_of k) 255 ≡ false → n ≡ k → ⊥
differs n k none listed e = true≢false (sym (eq-eqb _ _ (subst (λ (m : ℕ). payload_of m ≡ 255) e none)) ∙ listed)

not_opened : (n : ℕ) → payload_of n ≡ 255 → Unopened n
unfolding payload_of
not_opened n none =
    let other = λ (k : ℕ) (listed : eqb (payload_of k) 255 ≡ false). differs n k none listed in
    (((((((((((tt, other 9 refl), other 11 refl), other 12 refl), other 20 refl), other 21 refl), other 22 refl), other 23 refl), other 24 refl), other 25 refl), other 26 refl), other 27 refl)

-- the number of a type that is known
pub number_is : {k : Kind} {n : ℕ} (kind : Kind) → type_number k ≡ n → k ≡ kind → n ≡ type_number kind
number_is kind told e = sym told ∙ ap type_number e

-- of a type that is not listed there is the type alone
pub unlisted_fields : (n : ℕ) (s : List ℕ) → payload_of n ≡ 255 → bare (Other n) ≡ fields_of n s
unlisted_fields n s none = unopened n s (not_opened n none)
