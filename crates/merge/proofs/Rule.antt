-- The session's rule: the opening gives it, keeping and applying keep it, each by itself.
-- Assumes nothing.
use Prim.Native.Nat.{ℕ, zero, suc, max}
use native.Mathlib.Decide.{dec_lt, ℕ_discrete}
use native.Mathlib.Omega.{arith}
use mathlib.Core.Path.{◌≡◌, refl, sym, ap, ◌∙◌, subst}
use mathlib.Core.List.{List, [], ◌∷◌, ◌++◌}
use mathlib.Core.Logic.{by_cases}
use mathlib.Core.Option.{Option, none, some}
use Rattle.merge.specs.State.{Feed, Packet, State, end_of, copy_of, first_there, opened, keep, freed_at, step, apply_up_to}
use Rattle.merge.specs.History.{Carried, first_copy, largest_end, applied, tables_of}
use Rattle.merge.specs.Promise.{Inv, Fits}
use Rattle.merge.proofs.Copies.{told_yes, copy_none, first_told, carried_more, first_last, first_stays, end_last}
use Rattle.merge.proofs.Tables.{tables_agree, tables_none, tables_more}
use Rattle.merge.proofs.Clauses.{kept_old, kept_new, kept_none, freed_next, freed_other}

module _ {Msg Table : Type 0} (feed : Feed Msg Table) {start : Table} (W s : ℕ) where
  pub opened_inv : Inv feed W start s [] (opened start s)
  unfolding opened first_copy largest_end
  opened_inv =
      record {
        from = omega arith;
        passed = λ k lo hi. absurd (omega arith);
        old = λ k lo. refl;
        waits = λ k hi. refl;
        near = λ k hi. refl;
        tables = sym (tables_none feed start s []);
        end = refl;
      }

  module _ {h : List (Packet Msg)} {x : State Msg Table} (inv : Inv feed W start s h x) where
    pub keep_inv : (p : Packet Msg) → Fits W x p → Inv feed W start s (h ++ (p ∷ [])) (keep x p)
    unfolding keep
    keep_inv p fits =
        record {
          from = inv.from;
          passed = λ k lo hi. carried_more (p ∷ []) (inv.passed k lo hi);
          old = λ k lo. kept_old x p k lo ∙ inv.old k lo;
          waits =
              λ k hi.
              kept_new x p k hi ∙ ap (λ (o : Option Msg). first_there o (copy_of p k)) (inv.waits k hi) ∙ sym (first_last h p k);
          near = λ k hi. kept_none x p k (copy_none p k λ c. omega (arith, fits k c)) ∙ inv.near k hi;
          tables =
              inv.tables
              ∙ sym (tables_agree feed start s x.next (h ++ (p ∷ [])) h λ k lo hi. first_stays h p k (inv.passed k lo hi));
          end = ap (λ (e : ℕ). max e (end_of p)) inv.end ∙ sym (end_last s h p);
        }

    -- What waits at next is the first copy of that number.
    front : {o : Option Msg} → x.waiting x.next ≡ o → first_copy h x.next ≡ o
    front e = sym (inv.waits x.next (omega arith)) ∙ e

    pub step_inv : (o : Option Msg) → x.waiting x.next ≡ o → Inv feed W start s h (step feed x o)
    unfolding step
    step_inv none e = inv
    step_inv (some m) e =
        record {
          from = omega (arith, inv.from);
          passed =
              λ k lo hi.
              by_cases (dec_lt k x.next)
              (λ l. inv.passed k lo l)
              (λ n.
              let at : x.next ≡ k = omega arith in
              subst (λ (j : ℕ). Carried j h) at (told_yes (first_told h x.next) (front e)));
          old =
              λ k lo.
              by_cases (ℕ_discrete k x.next)
              (λ q. ap (freed_at x) q ∙ freed_next x)
              (λ n. freed_other x k n ∙ inv.old k (omega arith));
          waits = λ k hi. freed_other x k (omega arith) ∙ inv.waits k (omega arith);
          near = λ k hi. freed_other x k (omega arith) ∙ inv.near k (omega arith);
          tables =
              ap (λ (t : Table). feed.apply t x.next m) inv.tables
              ∙ sym
              (tables_more feed start s x.next h inv.from
              ∙ ap (applied feed (tables_of feed start s x.next h) x.next) (front e));
          end = inv.end;
        }

  pub apply_inv : (c : ℕ) {h : List (Packet Msg)} {x : State Msg Table} → Inv feed W start s h x
      → Inv feed W start s h (apply_up_to feed c x)
  unfolding apply_up_to
  apply_inv zero inv = inv
  apply_inv (suc c) {x = x} inv = apply_inv c (step_inv inv (x.waiting x.next) refl)
