-- Demand 3 for any channel, every opening number and every sequence of calls of both kinds, refused packets among what they hand in.
-- Assumes nothing.
use Prim.Native.Nat.{ℕ, ◌+◌, ◌-◌, ◌≤◌, min}
use native.Mathlib.Omega.{arith}
use mathlib.Core.Path.{◌≡◌, refl, sym, ap, ◌∙◌, subst}
use mathlib.Core.List.{List, [], ◌∷◌, ◌++◌, append-nil, append_assoc}
use mathlib.Core.Option.{Option, none, some}
use Rattle.merge.specs.State.{Feed, Packet, State, Channel, Call, keeping, applying, end_of, opened, keep, kept_if, keep_one, apply_up_to, apply_some, call_one, call_all, calls_if, calls_of, take_if, take_one, take_all}
use Rattle.merge.specs.History.{Lowest, joined, accepted, brought_by}
use Rattle.merge.specs.Promise.{Inv, Demand3, Fits, Judged, Rule}
use Rattle.merge.proofs.Rule.{opened_inv, keep_inv, apply_inv}
use Rattle.merge.proofs.Lowest.{next_below, apply_enough, apply_lowest, apply_moves, apply_settles, keep_past}

module _ {Msg Table : Type 0} {feed : Feed Msg Table} {start : Table} {W s : ℕ} {h : List (Packet Msg)} where
  -- The rule says all that demand 3 asks.
  pub rule_demand3 : {x : State Msg Table} → Inv feed W start s h x → Demand3 feed start s h x
  rule_demand3 rule =
      record {
        from = rule.from;
        carried = rule.passed;
        most = λ n low. next_below rule low;
        tables = rule.tables;
        end = rule.end;
      }

joined-append : {Msg : Type 0} (h : List (Packet Msg)) (o : Option (Packet Msg)) (l : List (Packet Msg)) → h ++ joined o [] ++ l ≡ h ++ joined o l
joined-append h none l = ap (λ g. g ++ l) (append-nil h)
joined-append h (some p) l = append_assoc h (p ∷ []) l

module _ {Handed Msg Table : Type 0} (ch : Channel Handed Msg Table) (s : ℕ) where
  pub opened_rule : {start : Table} → Rule ch start s [] (opened start s)
  opened_rule = opened_inv ch.feed ch.window s

  -- A refused packet leaves the session as it was.
  pub take-refused : (x : State Msg Table) (b : Handed) → ch.judge x b ≡ none → take_one ch x b ≡ x
  unfolding take_one take_if
  take-refused x b e = ap (take_if ch x) e

  pub keep-refused : (x : State Msg Table) (b : Handed) → ch.judge x b ≡ none → keep_one ch x b ≡ x
  unfolding keep_one kept_if
  keep-refused x b e = ap (kept_if x) e

  -- Keeping leaves next where it is, and the tables.
  pub keep_stands : (x : State Msg Table) (b : Handed) → ((keep_one ch x b).next ≡ x.next) × ((keep_one ch x b).tables ≡ x.tables)
  unfolding keep_one kept_if keep
  keep_stands x b = go (ch.judge x b)
    where
      go : (o : Option (Packet Msg)) → ((kept_if x o).next ≡ x.next) × ((kept_if x o).tables ≡ x.tables)
      go none = (refl, refl)
      go (some p) = (refl, refl)

  -- Calls in a row are those of the first part, then those of the second.
  pub call_more : (cs ds : List (Call Handed)) (x : State Msg Table) → call_all ch x (cs ++ ds) ≡ call_all ch (call_all ch x cs) ds
  unfolding call_all
  call_more [] ds x = refl
  call_more (c ∷ cs) ds x = call_more cs ds (call_one ch x c)

  whole : (x : State Msg Table) → apply_some ch ch.window x ≡ apply_up_to ch.feed ch.window x
  unfolding apply_some
  whole x = let e : min ch.window ch.window ≡ ch.window = omega arith in ap (λ (n : ℕ). apply_up_to ch.feed n x) e

  -- Taking is keeping and, unless that is refused, applying to the end.
  pub take_calls : (x : State Msg Table) (bs : List Handed) → take_all ch x bs ≡ call_all ch x (calls_of ch x bs)
  unfolding take_all calls_of call_all take_one take_if call_one keep_one kept_if
  take_calls x [] = refl
  take_calls x (b ∷ bs) =
      take_calls (take_one ch x b) bs
      ∙ ap (λ (z : State Msg Table). call_all ch z (calls_of ch (take_one ch x b) bs)) (one (ch.judge x b) refl)
      ∙ sym (call_more (calls_if ch b (ch.judge x b)) (calls_of ch (take_one ch x b) bs) x)
    where
      one : (o : Option (Packet Msg)) → ch.judge x b ≡ o → take_one ch x b ≡ call_all ch x (calls_if ch b o)
      one none e = ap (take_if ch x) e ∙ sym (ap (kept_if x) e)
      one (some p) e = ap (take_if ch x) e ∙ sym (whole (keep x p)) ∙ ap (λ (o : Option (Packet Msg)). apply_some ch ch.window (kept_if x o)) (sym e)

  module _ {start : Table} (judged : Judged ch) where
    kept_rule : {h : List (Packet Msg)} {x : State Msg Table} (o : Option (Packet Msg))
        → ((p : Packet Msg) → o ≡ some p → Fits ch.window x p) → Rule ch start s h x → Rule ch start s (h ++ joined o []) (kept_if x o)
    unfolding kept_if
    kept_rule {h} {x} none fits rule = subst (λ (l : List (Packet Msg)). Rule ch start s l x) (sym (append-nil h)) rule
    kept_rule (some p) fits rule = keep_inv ch.feed ch.window s rule p (fits p refl)

    -- A call keeps the rule; its packet, if it brings one, is the last of the history.
    pub call_one_rule : {h : List (Packet Msg)} {x : State Msg Table} (c : Call Handed) → Rule ch start s h x
        → Rule ch start s (h ++ joined (brought_by ch x c) []) (call_one ch x c)
    unfolding call_one keep_one apply_some
    call_one_rule {x = x} (keeping b) rule = kept_rule (ch.judge x b) (judged.fits x b) rule
    call_one_rule {h} {x} (applying c) rule =
        subst (λ (l : List (Packet Msg)). Rule ch start s l (apply_up_to ch.feed (min c ch.window) x)) (sym (append-nil h))
        (apply_inv ch.feed ch.window s (min c ch.window) rule)

    pub call_all_rule : (cs : List (Call Handed)) {h : List (Packet Msg)} {x : State Msg Table} → Rule ch start s h x
        → Rule ch start s (h ++ accepted ch x cs) (call_all ch x cs)
    unfolding call_all accepted
    call_all_rule [] {h} {x} rule = subst (λ (l : List (Packet Msg)). Rule ch start s l x) (sym (append-nil h)) rule
    call_all_rule (c ∷ cs) {h} {x} rule =
        subst (λ (l : List (Packet Msg)). Rule ch start s l (call_all ch (call_one ch x c) cs))
        (joined-append h (brought_by ch x c) (accepted ch (call_one ch x c) cs))
        (call_all_rule cs (call_one_rule c rule))

    -- Demand 3, for all sequences and so after each call of each of them.
    pub demand3 : (cs : List (Call Handed)) → Demand3 ch.feed start s (accepted ch (opened start s) cs) (call_all ch (opened start s) cs)
    demand3 cs = rule_demand3 (call_all_rule cs opened_rule)

    -- The applying call moves next by the smaller of its count and what is left up to the lowest number not carried.
    pub apply_some_moves : {h : List (Packet Msg)} {x : State Msg Table} (c : ℕ) {n : ℕ} → Rule ch start s h x → Lowest s h n
        → (apply_some ch c x).next ≡ x.next + min c (n - x.next)
    unfolding apply_some
    apply_some_moves {x = x} c rule low =
        ap (λ (y : State Msg Table). y.next) (apply_enough ch.feed c ch.window x (apply_settles rule)) ∙ apply_moves rule c low

    -- An accepted packet that starts at or below next and is kept moves the lowest number not carried past its last number; next stands.
    pub keep_moves : {h : List (Packet Msg)} {x : State Msg Table} (b : Handed) {p : Packet Msg} {n : ℕ} → Rule ch start s h x
        → ch.judge x b ≡ some p → p.first ≤ x.next → Lowest s (h ++ joined (ch.judge x b) []) n → end_of p ≤ n
    keep_moves {h} {x} b {p} {n} rule e start low =
        keep_past rule p (judged.fits x b p e) start (subst (λ (o : Option (Packet Msg)). Lowest s (h ++ joined o []) n) e low)

    -- Taken, it moves next too: nothing is then left to apply.
    pub take_lowest : {h : List (Packet Msg)} {x : State Msg Table} (b : Handed) {p : Packet Msg} → Rule ch start s h x
        → ch.judge x b ≡ some p → Lowest s (h ++ (p ∷ [])) (take_one ch x b).next
    unfolding take_one take_if
    take_lowest {h} {x} b {p} rule e =
        subst (λ (o : Option (Packet Msg)). Lowest s (h ++ (p ∷ [])) (take_if ch x o).next) (sym e)
        (apply_lowest (keep_inv ch.feed ch.window s rule p (judged.fits x b p e)))

    pub take_past : {h : List (Packet Msg)} {x : State Msg Table} (b : Handed) {p : Packet Msg} → Rule ch start s h x
        → ch.judge x b ≡ some p → p.first ≤ x.next → end_of p ≤ (take_one ch x b).next
    take_past b {p} rule e start = keep_past rule p (judged.fits _ b p e) start (take_lowest b rule e)
