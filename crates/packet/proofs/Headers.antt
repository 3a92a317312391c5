-- Which test decides a header: one law for each way out, over plain values; and what holds where none applies.
-- Assumes nothing.
use mathlib.Core.Path.{◌≡◌, refl, ap, ◌∙◌, sym}
use mathlib.Core.Bool.{Bool, true, false, true≢false}
use mathlib.Core.List.{List}
use Prim.Native.Nat.{ℕ, ◌≤◌, ◌<◌}
use native.Mathlib.Omega.{arith}
use borrow.Author.Tests.{lt-ltb, le-ltb, eq-eqb, ne_eqb, ltb-false, eqb-true}
use lib.Dec.{ltb, eqb}
use lib.ListN.{length}
use Rattle.std.proofs.Common.{Result, Ok, Err, is_err, IsErrAnd}
use Rattle.std.proofs.lemmas.Result.{err_from_is_err_and}
use Rattle.refusals.specs.Refusals.{number_of, refusal_by}
use Rattle.refusals.specs.declared.Refusal.{Refusal}
use Rattle.refusals.proofs.Numbers.{answered_err, by_number, some_number}
use Rattle.packet.specs.Header.{Judged, header_in, header_tests, flags_of, decided, judged, header_of, told}
use Rattle.packet.specs.declared.header.Header.{Header}
use Rattle.packet.specs.declared.header.Rejection.{Rejection}

pub no_number : (r : Rejection) → number_of r.refusal ≡ 0 → ⊥
no_number r h = absurd (true≢false (sym (eq-eqb _ _ h) ∙ some_number r.refusal))

same_rejection : (r q : Rejection) → r.refusal ≡ q.refusal → r.offset ≡ q.offset → r ≡ q
same_rejection r q e f =
    ap (λ (x : Refusal). record { refusal = x; offset = r.offset }) e ∙ ap (λ (n : ℕ). record { refusal = q.refusal; offset = n }) f

module _ (s : List ℕ) where
  pub few : length s < 12 → judged (1, 0) ≡ judged (decided (header_tests s))
  unfolding header_tests
  few h = simp (lt-ltb _ _ h)

  module _ (least : 12 ≤ length s) where
    pub many : 1472 < length s → judged (2, 0) ≡ judged (decided (header_tests s))
    unfolding header_tests
    many h = simp (le-ltb _ _ least, lt-ltb _ _ h)

    module _ (most : length s ≤ 1472) {header : Header} (read : header ≡ header_in s) where
      pub another : (header.size ≡ length s → ⊥) → judged (3, 0) ≡ judged (decided (header_tests s))
      unfolding header_tests
      another h = simp (le-ltb _ _ least, le-ltb _ _ most, ne_eqb _ _ (λ e. h (ap (λ (x : Header). x.size) read ∙ e)))

      pub flags : header.size ≡ length s → judged (decided (flags_of header)) ≡ judged (decided (header_tests s))
      unfolding header_tests
      flags whole =
          simp (le-ltb _ _ least, le-ltb _ _ most, eq-eqb _ _ (sym (ap (λ (x : Header). x.size) read) ∙ whole))
          (ap (λ (x : Header). judged (decided (flags_of x))) read)

  -- where no test applies, the header is there and says how long the packet is
  pub record Passed : Type 0 where
    pub least : 12 ≤ length s
    pub most : length s ≤ 1472
    pub whole : (header_in s).size ≡ length s
    pub flags : (decided (flags_of (header_in s))).0 ≡ 0

  pub passed : (decided (header_tests s)).0 ≡ 0 → Passed
  unfolding header_tests
  passed h = short (ltb (length s) 12) refl
    where
      flagged : ltb (length s) 12 ≡ false → ltb 1472 (length s) ≡ false → (b : Bool) → eqb (header_in s).size (length s) ≡ b → Passed
      flagged e₁ e₂ true e₃ =
          record { least = ltb-false _ _ e₁; most = ltb-false _ _ e₂; whole = eqb-true _ _ e₃; flags = simp (e₁, e₂, e₃) at h }
      flagged e₁ e₂ false e₃ =
          let z : ◌≡◌ {A = ℕ} 3 0 = simp (e₁, e₂, e₃) at h in
          absurd (omega arith)

      long : ltb (length s) 12 ≡ false → (b : Bool) → ltb 1472 (length s) ≡ b → Passed
      long e₁ true e₂ =
          let z : ◌≡◌ {A = ℕ} 2 0 = simp (e₁, e₂) at h in
          absurd (omega arith)
      long e₁ false e₂ = flagged e₁ e₂ (eqb (header_in s).size (length s)) refl

      short : (b : Bool) → ltb (length s) 12 ≡ b → Passed
      short true e₁ =
          let z : ◌≡◌ {A = ℕ} 1 0 = simp e₁ at h in
          absurd (omega arith)
      short false e₁ = long e₁ (ltb 1472 (length s)) refl

  pub none : told (Ok tt) ≡ judged (decided (header_tests s)) → (decided (header_tests s)).0 ≡ 0
  none said = sym (ap (λ (x : Judged). x.test) said)

  pub whole : {header : Header} → (decided (header_tests s)).0 ≡ 0 → header ≡ header_in s → Ok header ≡ header_of s
  unfolding header_of
  whole good read = simp (eq-eqb _ _ good) (ap Ok read)

  pub refused : (rejection : Rejection) → number_of rejection.refusal ≡ (decided (header_tests s)).0 → Err rejection.refusal ≡ header_of s
  unfolding header_of
  refused rejection number = simp (← number) (sym (answered_err (header_in s) rejection.refusal))

  pub refused_by : {answer : Result Header Refusal} (rejection : Rejection) → told (Err rejection) ≡ judged (decided (header_tests s)) → IsErrAnd answer (λ refusal. refusal ≡ rejection.refusal) → answer ≡ header_of s
  refused_by {answer} rejection said h =
      let e = err_from_is_err_and answer h in
      e.1 ∙ ap Err e.2 ∙ refused rejection (ap (λ (x : Judged). x.test) said)

-- a test decides exactly where the answer is a rejection
pub one_tests : (answer : Result (Unit {0}) Rejection) {row : ℕ × ℕ} → told answer ≡ judged row → true ≡ is_err answer → row.0 ≡ 0 → ⊥
one_tests (Ok u) said e z = absurd (true≢false e)
one_tests (Err r) said e z = no_number r (ap (λ (x : Judged). x.test) said ∙ z)

pub none_tests : (answer : Result (Unit {0}) Rejection) {row : ℕ × ℕ} → told answer ≡ judged row → false ≡ is_err answer → row.0 ≡ 0
none_tests (Ok u) said e = sym (ap (λ (x : Judged). x.test) said)
none_tests (Err r) said e = absurd (true≢false (sym e))

-- what an answer says of the test that decides tells it from every other
pub told_once : (one other : Result (Unit {0}) Rejection) → told one ≡ told other → one ≡ other
told_once (Ok u) (Ok v) h = refl
told_once (Ok u) (Err r) h = absurd (no_number r (sym (ap (λ (x : Judged). x.test) h)))
told_once (Err r) (Ok u) h = absurd (no_number r (ap (λ (x : Judged). x.test) h))
told_once (Err r) (Err q) h =
    let number : number_of r.refusal ≡ number_of q.refusal = ap (λ (x : Judged). x.test) h in
    ap Err (same_rejection r q (sym (by_number r.refusal) ∙ ap refusal_by number ∙ by_number q.refusal) (ap (λ (x : Judged). x.offset) h))
