-- The meanings that an opening and calls give, and the sessions that hold them.
-- Assumes nothing.
use mathlib.Core.Path.{◌≡◌, refl, ap, ◌∙◌, sym, subst}
use mathlib.Core.List.{List, [], ◌∷◌, ◌++◌}
use mathlib.Core.Logic.{by_cases}
use mathlib.Core.Option.{Option, none, some, none-ne-some}
use Prim.Native.Nat.{ℕ, zero, suc, ◌+◌, ◌≤◌, ◌<◌, min}
use native.Mathlib.Decide.{dec_lt, ℕ_discrete}
use native.Mathlib.Omega.{arith}
use Rattle.wire.specs.Number.{Bytes}
use Rattle.merge.specs.State.{Call, Packet, apply_some, apply_up_to, applying, call_all, call_one, calls_if, calls_of, copy_of, first_there, freed_at, keep, keep_one, keeping, kept_if, opened, step, take_all, take_if, take_one}
use Rattle.merge.specs.History.{accepted}
use Rattle.merge.specs.Promise.{Fits, Rule}
use Rattle.merge.proofs.Clauses.{freed_next, freed_other, kept_new, kept_old}
use Rattle.merge.proofs.Demand3.{call_more, call_all_rule, opened_rule, take_calls}
use Rattle.merge.proofs.Rule.{keep_inv, opened_inv, step_inv}
use Rattle.merge.proofs.Window.{next_end, waits_where}
use Rattle.message.specs.Whole.{Whole}
use Rattle.book.specs.Applying.{apply_of}
use Rattle.book.specs.Rule.{Kept, Ready}
use Rattle.book.specs.Tables as book
use Rattle.book.specs.Tables.{Tables, fresh}
use Rattle.book.specs.declared.tables.OpeningRule.{OpeningRule}
use Rattle.book_room.specs.Room.{parts_of}
use Rattle.book_room.proofs.Insides.{insides_in_lem}
use Rattle.book_room.proofs.Lying.{rule_by_lem}
use Rattle.book.proofs.Keeping as keeping
use Rattle.book.proofs.Laws.{counted_next}
use Rattle.window_taking.specs.Keeping.{Neat, kept_by, window_for}
use Rattle.window_taking.specs.Taking.{judge}
use Rattle.window_taking.proofs.Accepted.{overnight-judged}
use Rattle.window_taking.proofs.Passing.{Passes, passes}
use Rattle.window_taking.proofs.Windows.{Within, neat_for, waiting_for}
use Rattle.session.specs.Engine.{Good}
use Rattle.session.specs.Meaning.{AllBytes, CallsBytes, Held, Ruled, Meaning, feed, overnight, rep, rule_in, tables_in, view}

module _ {x : Meaning} (g : Good x) where
  pub within : Within x.waiting x.next
  within = record { low = g.inv.old; high = g.inv.near; whole = g.whole }

  pub next_top : x.next ≤ 4294967296
  next_top = omega (arith, next_end g.inv, g.top)

  pub neat : Neat (window_for x.waiting x.next) x.next
  neat = neat_for within next_top

  pub kept : Kept (book.rep x.tables)
  kept = keeping.kept_rep x.tables g.sound

  pub tables_rep : tables_in (rep x).session (rep x).room ≡ x.tables
  unfolding parts_of
  tables_rep = λ i. record { orders = (keeping.view-rep x.tables i).orders; insides = insides_in_lem x.next x.end x.tables g.sound i; code = x.tables.code; faults = x.tables.faults; unlisted = record { rule = rule_by_lem x.tables.unlisted.rule i; count = x.tables.unlisted.count } }

  pub view-rep : view (rep x) ≡ x
  unfolding parts_of
  view-rep = λ i. record { next = x.next; end = x.end; waiting = waiting_for within i; tables = tables_rep i }

  -- a number that waits is below 4,294,967,296
  pub waits-below : (k : ℕ) {m : List ℕ} → x.waiting k ≡ some m → k < 4294967296
  waits-below k e = omega (arith, (waits_where g.inv k e).known, g.top)

  pub ready : {m : List ℕ} → x.waiting x.next ≡ some m → Ready (book.rep x.tables) x.next m
  ready {m} e = record { kept = kept; whole = g.whole x.next m e; counted = g.counted; apart = g.apart; within = waits-below x.next e }

  either : (o o' : Option (List ℕ)) {m : List ℕ} → ((a : List ℕ) → o ≡ some a → Whole a) → ((a : List ℕ) → o' ≡ some a → Whole a) → first_there o o' ≡ some m → Whole m
  either none o' {m} h h' e = h' m e
  either (some a) o' {m} h h' e = h m e

  pub good_keep : (p : Packet (List ℕ)) → Fits 256 x p → Passes p → Good (keep x p)
  unfolding keep
  good_keep p fits pass =
      record {
        tables = g.tables;
        start = g.start;
        history = g.history ++ (p ∷ []);
        inv = keep_inv feed 256 g.start g.inv p fits;
        sound = g.sound;
        counted = g.counted;
        apart = g.apart;
        whole =
            λ k m e.
            by_cases (dec_lt k x.next)
            (λ l. g.whole k m (sym (kept_old x p k l) ∙ e))
            (λ l. either (x.waiting k) (copy_of p k) (λ a f. g.whole k a f) (λ a f. pass.whole k a f) (sym (kept_new x p k (omega arith)) ∙ e));
        top = omega (arith, g.top, pass.top);
      }

  counts : {m : List ℕ} → x.waiting x.next ≡ some m → ((apply_of x.tables x.next m).faults.count ≤ x.next + 1) × ((apply_of x.tables x.next m).unlisted.count ≤ x.next + 1)
  counts {m} e =
      subst (λ (t : Tables). ((apply_of t x.next m).faults.count ≤ x.next + 1) × ((apply_of t x.next m).unlisted.count ≤ x.next + 1)) (keeping.view-rep x.tables)
      (counted_next (ready e))

  pub good_step : {m : List ℕ} → x.waiting x.next ≡ some m → Good (step feed x (some m))
  unfolding step
  good_step {m} e =
      record {
        tables = g.tables;
        start = g.start;
        history = g.history;
        inv = step_inv feed 256 g.start g.inv (some m) e;
        sound = keeping.sound_apply x.tables g.sound m x.next;
        counted = (counts e).0;
        apart = (counts e).1;
        whole =
            λ k m' f.
            by_cases (ℕ_discrete k x.next)
            (λ q. absurd (none-ne-some _ (sym (ap (freed_at x) q ∙ freed_next x) ∙ f)))
            (λ ne. g.whole k m' (sym (freed_other x k ne) ∙ f));
        top = g.top;
      }

pub good_open : (rule : OpeningRule) (n : ℕ) → n ≤ 4294967295 → Good (opened (fresh rule) n)
unfolding opened
good_open rule n small =
    record {
      tables = fresh rule;
      start = n;
      history = [];
      inv = opened_inv feed 256 n;
      sound = keeping.fresh_sound rule;
      counted = omega arith;
      apart = omega arith;
      whole = λ k m e. absurd (none-ne-some _ e);
      top = omega arith;
    }

go_step : {x : Meaning} → Good x → (o : Option (List ℕ)) → x.waiting x.next ≡ o → Good (step feed x o)
unfolding step
go_step g none e = g
go_step g (some m) e = good_step g e

pub good_apply : (c : ℕ) {x : Meaning} → Good x → Good (apply_up_to feed c x)
unfolding apply_up_to
good_apply zero g = g
good_apply (suc c) {x} g = good_apply c (go_step g (x.waiting x.next) refl)

module _ {x : Meaning} (g : Good x) (s : List ℕ) (bytes : Bytes s) where
  pub good_kept : Good (kept_by x s)
  unfolding kept_if
  good_kept = go (judge x s) refl
    where
      go : (o : Option (Packet (List ℕ))) → judge x s ≡ o → Good (kept_if x o)
      go none e = g
      go (some p) e = good_keep g p ((overnight-judged feed).fits x s p e) (passes x s bytes e)

  pub good_one : Good (take_one overnight x s)
  unfolding take_one take_if
  good_one = go (judge x s) refl
    where
      go : (o : Option (Packet (List ℕ))) → judge x s ≡ o → Good (take_if overnight x o)
      go none e = g
      go (some p) e = good_apply 256 (good_keep g p ((overnight-judged feed).fits x s p e) (passes x s bytes e))

pub good_all : (ss : List (List ℕ)) → AllBytes ss → {x : Meaning} → Good x → Good (take_all overnight x ss)
unfolding take_all
good_all [] all g = g
good_all (s ∷ ss) all g = good_all ss all.1 (good_one g s all.0)

pub good_call : (c : Call (List ℕ)) (cs : List (Call (List ℕ))) → CallsBytes (c ∷ cs) → {x : Meaning} → Good x → Good (call_one overnight x c) × CallsBytes cs
unfolding call_one keep_one apply_some
good_call (keeping s) cs all g = (good_kept g s all.0, all.1)
good_call (applying c) cs all g = (good_apply (min c 256) g, all)

pub good_calls : (cs : List (Call (List ℕ))) → CallsBytes cs → {x : Meaning} → Good x → Good (call_all overnight x cs)
unfolding call_all
good_calls [] all g = g
good_calls (c ∷ cs) all g = let one = good_call c cs all g in good_calls cs one.1 one.0

-- a session that keeps the rule holds such a meaning
pub record Stands (s : Held) : Type 0 where
  pub state : Meaning
  pub good : Good state
  pub same : s ≡ rep state

pub stands : {s : Held} → Ruled s → Stands s
stands r =
    record {
      state = call_all overnight (opened (fresh r.rule) r.number) r.calls;
      good = good_calls r.calls r.bytes (good_open r.rule r.number r.small);
      same = r.given;
    }

pub meaning : {s : Held} (h : Stands s) → view s ≡ h.state
meaning h = ap view h.same ∙ view-rep h.good

pub ruled_rule : {s : Held} (r : Ruled s) → Rule overnight (fresh r.rule) r.number (accepted overnight (opened (fresh r.rule) r.number) r.calls) (view s)
unfolding stands call_all
ruled_rule r =
    subst (Rule overnight (fresh r.rule) r.number (accepted overnight (opened (fresh r.rule) r.number) r.calls)) (sym (meaning (stands r)))
    (call_all_rule overnight r.number (overnight-judged feed) r.calls (opened_rule overnight r.number))

pub ruled_means : {s : Held} (r : Ruled s) → view s ≡ call_all overnight (opened (fresh r.rule) r.number) r.calls
unfolding stands
ruled_means r = meaning (stands r)

-- the rule is kept
pub all_more : (cs ds : List (Call (List ℕ))) → CallsBytes cs → CallsBytes ds → CallsBytes (cs ++ ds)
all_more [] ds a b = b
all_more (keeping s ∷ cs) ds a b = (a.0, all_more cs ds a.1 b)
all_more (applying c ∷ cs) ds a b = all_more cs ds a b

pub take_more : (ss ts : List (List ℕ)) (x : Meaning) → take_all overnight x (ss ++ ts) ≡ take_all overnight (take_all overnight x ss) ts
unfolding take_all
take_more [] ts x = refl
take_more (s ∷ ss) ts x = take_more ss ts (take_one overnight x s)

pub ruled_calls : {s : Held} → Ruled s → (cs : List (Call (List ℕ))) → CallsBytes cs → Ruled (rep (call_all overnight (view s) cs))
ruled_calls {s} r cs bytes =
    record {
      rule = r.rule;
      number = r.number;
      small = r.small;
      calls = r.calls ++ cs;
      bytes = all_more r.calls cs r.bytes bytes;
      given = ap rep (ap (λ (x : Meaning). call_all overnight x cs) (ruled_means r) ∙ sym (call_more overnight r.number r.calls cs (opened (fresh r.rule) r.number)));
    }

-- packets that are taken are kept and applied
pub taken_bytes : (ts : List (List ℕ)) → AllBytes ts → (x : Meaning) → CallsBytes (calls_of overnight x ts)
unfolding calls_of
taken_bytes [] bytes x = tt
taken_bytes (t ∷ ts) bytes x = all_more (calls_if overnight t (judge x t)) (calls_of overnight (take_one overnight x t) ts) (go (judge x t)) (taken_bytes ts bytes.1 (take_one overnight x t))
  where
    go : (o : Option (Packet (List ℕ))) → CallsBytes (calls_if overnight t o)
    go none = (bytes.0, tt)
    go (some p) = (bytes.0, tt)

pub ruled_more : {s : Held} → Ruled s → (ts : List (List ℕ)) → AllBytes ts → Ruled (rep (take_all overnight (view s) ts))
ruled_more {s} r ts bytes =
    subst (λ (x : Meaning). Ruled (rep x)) (sym (take_calls overnight r.number (view s) ts))
    (ruled_calls r (calls_of overnight (view s) ts) (taken_bytes ts bytes (view s)))

-- the rule that the room tells is that of the tables
pub rule_held : {h : Held} (x : Meaning) → h ≡ rep x → rule_in h.room ≡ x.tables.unlisted.rule
unfolding parts_of
rule_held x e = ap (λ (k : Held). rule_in k.room) e ∙ rule_by_lem x.tables.unlisted.rule

pub ruled_open : (rule : OpeningRule) (n : ℕ) → n ≤ 4294967295 → Ruled (rep (opened (fresh rule) n))
unfolding call_all
ruled_open rule n small = record { rule = rule; number = n; small = small; calls = []; bytes = tt; given = refl }
